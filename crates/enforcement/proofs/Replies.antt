-- The calls' replies are the published function's.
use Prim.Native.Nat.{ℕ}
use mathlib.Core.Path.{◌≡◌, refl, sym, ◌∙◌, ap, ap₂}
use mathlib.Core.Bool.{Bool, true, false, cond}
use mathlib.Core.List.{List, [], ◌∷◌, ◌++◌, map, append_assoc, append-nil}
use lib.Dec.{eqb, ltb}
use lib.ListN.{length, drop}
use lib.Seq.{take-append_seam}
use borrow.Author.Tests.{eqb-true, eqb-false, le-ltb}
use Rattle.base.specs.Rows.{first}
use Rattle.base.specs.Pad.{pad}
use Rattle.base.proofs.Bools.{by}
use Rattle.base.proofs.Padding.{take-pad}
use Rattle.automaton.specs.declared.Automaton.{Automaton}
use Rattle.automaton.specs.Automaton.{valid}
use Rattle.automaton.proofs.Facts.{valid_facts}
use Rattle.solver_sets.specs.Table.{short, Solved}
use Rattle.solver_sets.proofs.Total.{total}
use Rattle.configuration_places.specs.Places.{input_place}
use Rattle.configuration.specs.declared.Configuration.{Configuration}
use Rattle.configuration.specs.Configuration.{Position, position_of, configuration, consistent}
use Rattle.configuration.proofs.Facts.{position-made, configuration-consistent, consistent_of}
use Rattle.monitor_answers.specs.declared.Received.{Received}
use Rattle.monitor_rule.specs.Step.{Rest, by_sets, by_table, effect_from, sources, advance, event_rows, event_refusal, run_of}
use Rattle.monitor_answers.specs.Answers.{receive_refusal, received, room, run_refusal, ran, ran_buffer}
use Rattle.monitor_rule.proofs.Effects.{refusal-same, advance_occurs, effect-agrees, sources_agree, advance-agrees}
use Rattle.monitor_rule.proofs.Runs.{run-same}
use Rattle.monitor_answers.proofs.Refusals.{rows_pass}
use Rattle.monitor_rule.proofs.Solved.{solved_agree}
use Rattle.enforcement.specs.Store.{Store, empty, position_at, refusal_at, store, store_all, lacks_room, feed, feed_all}
use Rattle.enforcement.specs.Calls.{Call, receive, receive_call, run_call, handed_back, emitted_by, reply, replies, configuration_after, emitted_all}
use Rattle.enforcement.specs.Calls.{fed_by, configuration_at, since, expected, expected_all}
use Rattle.enforcement.specs.Claims.{EachReply}
use Rattle.enforcement.proofs.Stores.{Sound, initially, initial-sound, since-more, sources-more, since-same, sources-same, by_store, from_store, next_of, run_store}
use Rattle.enforcement.proofs.Stores.{store-accepts, store-refuses, stored, stored-position, store-runs, run-since, store-since, store-sound}

-- the position that its configuration says is its own
pub position_at_lem : (a : Automaton) (s : Store) → Sound a s → position_of (configuration_at a s) ≡ position_at a s
unfolding configuration_at
position_at_lem a s o = position-made (position_at a s) o.placed.each-has

module _ (a : Automaton) (t : List ℕ) (v : valid a ≡ true) (sv : Solved a t) where
  pub not_short : short a t ≡ false
  unfolding short
  not_short = le-ltb (length t) _ sv.long

  pub consistent-at : (s : Store) → Sound a s → consistent a (configuration_at a s) ≡ true
  unfolding configuration_at
  consistent-at s o =
      consistent_of a (configuration_at a s)
      (configuration-consistent a (valid_facts a v) (position_at a s) o.occurs.state-below o.occurs.buffer o.placed)

  module _ (s : Store) (o : Sound a s) where
    abbrev c : Configuration
    c = configuration_at a s

    -- the rows by the table and by the sets
    pub by-sets : (e : ℕ) → event_refusal (by_table a t) a (position_at a s) e ≡ refusal_at a s e
    by-sets e = refusal-same (by_table a t) (by_sets a) a (position_at a s) e (solved_agree a t sv) (total a v) o.occurs

    pub event-refusal : (e : ℕ) → receive_refusal a t c e ≡ refusal_at a s e
    unfolding receive_refusal event_refusal
    event-refusal e =
        rows_pass a t c v not_short (consistent-at s o) (event_rows (by_table a t) a (position_of c) e) ∙
        ap (λ p. first (event_rows (by_table a t) a p e)) (position_at_lem a s o) ∙
        by-sets e

    pub run-refusal : (es out : List ℕ) → run_refusal a t c es out ≡ cond (lacks_room s es (length out)) 16 0
    unfolding run_refusal lacks_room configuration_at first
    run-refusal es out = rows_pass a t c v not_short (consistent-at s o) ((16, ltb (length out) (room es c.held)) ∷ [])

    -- one event by the table and by the sets, from the function's position
    pub event-effect : (e : ℕ) → refusal_at a s e ≡ 0 → effect_from (by_table a t) a (position_at a s) e ≡ by_store a s e
    event-effect e h =
        effect-agrees (by_table a t) a (position_at a s) e (by_sets a) (solved_agree a t sv) (total a v) o (by-sets e ∙ h)

    run_result : (es : List ℕ) → run_of (by_table a t) a (position_of c) es ≡ run_store a s es
    run_result es =
        ap (λ p. run_of (by_table a t) a p es) (position_at_lem a s o) ∙
        run-same (by_table a t) (by_sets a) a (solved_agree a t sv) (total a v) es (position_at a s) o

    abbrev answer : ℕ → Position → List ℕ → List ℕ → Bool → Received
    answer n p out from b =
        record {
          refusal = n;
          configuration = configuration p;
          emitted = pad 7 out;
          count = length out;
          winning = b;
          places = map input_place (pad 7 from);
        }

    -- an accepted event's, over a rest test
    abbrev taken : Rest → Position → ℕ → Received
    taken rest p e =
        let next = advance rest a p e in
        answer 0 next (effect_from rest a p e).emitted (sources rest a p e) (rest next.buffer next.state)

    taken-agrees : (e : ℕ) → refusal_at a s e ≡ 0 → taken (by_table a t) (position_at a s) e ≡ taken (by_sets a) (position_at a s) e
    taken-agrees e h =
        let p = position_at a s in
        let next = next_of a s e in
        let same = event-effect e h in
        let wins = ap (λ f. by_table a t f.buffer f.state) same ∙
        solved_agree a t sv next.buffer next.state (advance_occurs (by_sets a) a p e (total a v) o h).occurs in
        λ i. answer 0 (advance-agrees (by_table a t) a p e (by_sets a) same i) (same i).emitted
        (sources_agree (by_table a t) a p e (by_sets a) same i) (wins i)

    pub event-accepted : (e : ℕ) → refusal_at a s e ≡ 0 → received a t c e ≡ taken (by_sets a) (position_at a s) e
    unfolding received
    event-accepted e h =
        rw (event-refusal e ∙ h) (ap (λ p. taken (by_table a t) p e) (position_at_lem a s o) ∙ taken-agrees e h)

    pub event-refused : (e : ℕ) → eqb (refusal_at a s e) 0 ≡ false → received a t c e ≡ answer (refusal_at a s e) (position_at a s) [] [] false
    unfolding received configuration_at pad
    event-refused e h = rw (event-refusal e, h)

    event-reply : (e : ℕ) → reply a t c (receive_call e) ≡ expected a s (receive_call e)
    unfolding reply expected configuration_at
    event-reply e =
        let n = refusal_at a s e in
        let put = since-more s (stored a s e) (by_store a s e).emitted refl in
        let from = sources-more s (stored a s e) (from_store a s e) refl in
        let next = stored-position a s e in
        by (eqb n 0)
        (λ h.
        let z = eqb-true n 0 h in
        rw (event-accepted e z, store-accepts a s e z, z)
        (sym (λ i. receive (answer 0 (next i) (put i) (from i) (by_sets a (next i).buffer (next i).state)))))
        (λ h. rw (event-refused e h, store-refuses a s e (eqb-false n 0 h), since-same s, sources-same s, h))

    run-configuration : (es : List ℕ) → configuration_at a (store_all a s es) ≡ configuration (run_store a s es).last
    unfolding configuration_at
    run-configuration es = ap configuration (store-runs a es s).stands

    run-reply : (es out : List ℕ) → reply a t c (run_call es out) ≡ expected a s (run_call es out)
    unfolding reply expected ran ran_buffer
    run-reply es out =
        by (lacks_room s es (length out))
        (λ h. rw (run-refusal es out, h) refl)
        (λ h. rw (run-refusal es out, h, run_result es, run-since a es s, (store-runs a es s).refused, run-configuration es))

    -- one call: its reply is the function's, ..
    reply-is : (x : Call) → reply a t c x ≡ expected a s x
    reply-is (receive_call e) = event-reply e
    reply-is (run_call es out) = run-reply es out

    -- .. which hands back the configuration of the function fed the call, and emits what it put
    -- out then
    feed_hands : (x : Call) → handed_back (expected a s x) ≡ configuration_at a (feed a s (fed_by x))
    unfolding expected handed_back feed fed_by
    feed_hands (receive_call e) = refl
    feed_hands (run_call es out) = by (lacks_room s es (length out)) (λ h. rw h) (λ h. rw h)

    feed_emits : (x : Call) → (feed a s (fed_by x)).output ≡ s.output ++ emitted_by (expected a s x)
    unfolding expected emitted_by feed fed_by store_all
    feed_emits (receive_call e) = rw (take-pad 7 (since s (store a s e))) (store-since a (e ∷ []) s)
    feed_emits (run_call es out) =
        let put = since s (store_all a s es) in
        by (lacks_room s es (length out))
        (λ h. rw h (sym (append-nil s.output)))
        (λ h. rw (h, take-append_seam put (drop (length put) out)) (store-since a es s))

    pub reply_hands : (x : Call) → handed_back (reply a t c x) ≡ configuration_at a (feed a s (fed_by x))
    reply_hands x = ap handed_back (reply-is x) ∙ feed_hands x

    pub feed-sound : (x : Call) → Sound a (feed a s (fed_by x))
    unfolding feed fed_by store_all
    feed-sound (receive_call e) = store-sound a (total a v) (e ∷ []) s o
    feed-sound (run_call es out) = by (lacks_room s es (length out)) (λ h. rw h o) (λ h. rw h (store-sound a (total a v) es s o))

  -- all calls
  record Together (s : Store) (xs : List Call) : Type 0 where
    each-reply : replies a t (configuration_at a s) xs ≡ expected_all a s xs
    all-emitted : (feed_all a s (map fed_by xs)).output ≡ s.output ++ emitted_all (replies a t (configuration_at a s) xs)
    last-configuration : configuration_after a t (configuration_at a s) xs ≡ configuration_at a (feed_all a s (map fed_by xs))
    last-sound : Sound a (feed_all a s (map fed_by xs))

  together : (xs : List Call) (s : Store) → Sound a s → Together s xs
  unfolding replies expected_all emitted_all configuration_after feed_all
  together [] s o = record { each-reply = refl; all-emitted = sym (append-nil s.output); last-configuration = refl; last-sound = o }
  together (x ∷ xs) s o =
      let z = feed a s (fed_by x) in
      let k = together xs z (feed-sound s o x) in
      let r = reply-is s o x in
      let next = reply_hands s o x in
      record {
        each-reply = ap₂ ◌∷◌ r (ap (λ c. replies a t c xs) next ∙ k.each-reply);
        all-emitted = rw (next, r)
            (k.all-emitted ∙
            ap (λ out. out ++ emitted_all (replies a t (configuration_at a z) xs)) (feed_emits s o x) ∙
            append_assoc s.output (emitted_by (expected a s x)) (emitted_all (replies a t (configuration_at a z) xs)));
        last-configuration = ap (λ c. configuration_after a t c xs) next ∙ k.last-configuration;
        last-sound = k.last-sound;
      }

pub last-sound : (a : Automaton) (t : List ℕ) → valid a ≡ true → Solved a t → (calls : List Call) → Sound a (feed_all a empty (map fed_by calls))
last-sound a t v sv calls = (together a t v sv calls empty (initial-sound a v)).last-sound

pub each-reply : EachReply
each-reply a t v sv calls =
    let k = together a t v sv calls empty (initial-sound a v) in
    record {
      each-reply = rw (initially a) k.each-reply;
      all-emitted = rw (initially a) (sym k.all-emitted);
      last-configuration = rw (initially a) k.last-configuration;
      last-consistent = rw (initially a, k.last-configuration) (consistent-at a t v sv (feed_all a empty (map fed_by calls)) k.last-sound);
    }
