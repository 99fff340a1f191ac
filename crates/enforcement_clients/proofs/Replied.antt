-- The calls' replies are the functions'.
use Prim.Native.Nat.{ℕ, zero, suc, ◌+◌, ◌<◌, ◌≤◌}
use mathlib.Core.Path.{◌≡◌, refl, sym, ◌∙◌, ap, ap₂}
use mathlib.Core.Bool.{true, false, cond}
use mathlib.Core.List.{List, [], ◌∷◌, ◌++◌, map}
use native.Mathlib.Omega.{arith}
use lib.ListN.{length, get_or, take, length-append, length-take, length-replicate, get_or-replicate, get_or-append}
use lib.Seq.{ext_get_or, get_or_at}
use lib.Dec.{eqb, leb, ltb}
use borrow.Author.Tests.{eqb-true, eqb-false, ltb-true, ltb-false, leb-true, leb-false}
use Rattle.base.specs.Pad.{pad}
use Rattle.base.proofs.Bools.{by}
use Rattle.automaton.specs.declared.Automaton.{Automaton}
use Rattle.automaton.specs.Automaton.{valid}
use Rattle.solver_sets.specs.Table.{Solved}
use Rattle.configuration_places.specs.Places.{input_place}
use Rattle.configuration.specs.declared.Configuration.{Configuration}
use Rattle.monitor_rule.specs.Step.{by_sets}
use Rattle.monitor_answers.specs.Turns.{turn_refusal}
use Rattle.enforcement.specs.Store.{state_of, refusal_at, store}
use Rattle.enforcement.specs.Calls.{configuration_at, since, sources_since}
use Rattle.enforcement.proofs.Stores.{initially, initial-sound}
use Rattle.enforcement.proofs.Replies.{not_short}
use Rattle.clients_answers.specs.declared.ReceivedFor.{ReceivedFor}
use Rattle.clients_answers.specs.Listed.{changed_by}
use Rattle.clients_answers.specs.Clients.{none, initial_clients, named, monitored, list_refusal, emitted_of, refused_in}
use Rattle.clients_answers.specs.Clients.{receive_for_refusal, refused_for, received_for, run_for_refusal, day_outcomes, ran_for, ran_for_buffer}
use Rattle.clients_answers.specs.Claims.{WrongCount, RightCount, ListClear, sum_below}
use Rattle.clients_answers.proofs.Refusals.{list-wrong, clear_list}
use Rattle.clients_answers.proofs.Single.{own_row}
use Rattle.clients_answers.proofs.Worded.{client-rows_as_worded}
use Rattle.feed_record.specs.declared.Expected.{Expected}
use Rattle.feed_record.specs.Records.{admission}
use Rattle.feed_answers.specs.Feed.{entry_refusal, refused_fed, delivered_fed, fed_for}
use Rattle.feed_answers.proofs.Entering.{entry_list, entry_record, fed-list, fed_record, fed-in}
use Rattle.enforcement_clients.specs.ClientCalls.{ClientCall, receive_for, run_for, feed_for, lent_by, events_by, receive, run, feed, refusal_in}
use Rattle.enforcement_clients.specs.ClientCalls.{reply, leaves, replies, leaves_all, whole_refusal, reaches, own_by, own_all}
use Rattle.enforcement_clients.specs.Functions.{Functions, unfed, bad_count, no_room, refusal_of, fed_in, event_refusal_of, answer_in, expected_in}
use Rattle.enforcement_clients.specs.Functions.{lent_of, expected, fed, expected_all, fed_all, events_in, events_to, configurations_at}
use Rattle.enforcement_clients.proofs.Sums.{not-lent, was_lent, lent_at}
use Rattle.enforcement_clients.proofs.Parts.{lent_after, leaves-is, after-count, leaves-count}
use Rattle.enforcement_clients.proofs.Fed.{count-wrong, count-right, fed-passes, fed-refuses, fed_beyond}
use Rattle.enforcement_clients.proofs.Published.{there-own, event_as_published, event_answer, feed-let_in, feed_as_published}
use Rattle.enforcement_clients.proofs.Turning.{turn-row, turn-next, turn-put, turn_from, turn-sound, turn-wins}
use Rattle.enforcement_clients.proofs.Linked.{Linked, linked_by, held-is, bytes_are, count-is}

module _ (a : Automaton) (t : List ℕ) (v : valid a ≡ true) (sv : Solved a t) where
  -- a call that lends these n
  module _ (n : ℕ) (cs : List Configuration) (ss : Functions) (k : Linked a t v sv n cs ss) where
    clear : bad_count n ≡ false → ListClear a t (length cs)
    clear b = record { record_valid = v; table-long = not_short a t v sv; count-right = rw k.count (count-right n b) }

    wrong : bad_count n ≡ true → WrongCount (length cs)
    wrong b = rw k.count (count-wrong n b)

    -- row 20
    wrong_20 : bad_count n ≡ true → list_refusal a t (length cs) ≡ 20
    wrong_20 b = list-wrong a t (length cs) (v, not_short a t v sv, wrong b)

    event-whole : list_refusal a t (length cs) ≡ cond (bad_count n) 20 0
    event-whole =
        by (bad_count n)
        (λ b. rw b (wrong_20 b))
        (λ b. rw b (clear_list a t (length cs) (clear b)))

    -- the rows of an event
    event-row : (i e : ℕ) → receive_for_refusal a t cs i e ≡ event_refusal_of a n ss i e
    unfolding event_refusal_of
    event-row i e =
        let worded = client-rows_as_worded a t cs in
        by (bad_count n)
        (λ b. rw b ((worded.event-first i e).row-20.1 (v, not_short a t v sv, wrong b)))
        (λ b. by (leb n i)
        (λ m. let l = leb-true n i m in rw (b, m) ((worded.event i e).row-19.1 (clear b, omega (arith, k.count))))
        (λ m.
        let l = leb-false n i m in
        rw (b, m)
        (own_row a t cs (clear b) i e (omega (arith, k.count)) ∙
        ap (λ c. turn_refusal a t c e) (k.at i l) ∙
        turn-row a t v sv (ss i) (k.sound i l) e)))

    -- an event that its client's function accepts, and a refused one
    accepted-answer : (i e : ℕ) → RightCount n → i < n → refusal_at a (ss i) e ≡ 0
        → let z = store a (ss i) e in
        received_for a t cs i e
        ≡ record {
          refusal = 0;
          emitted = pad 7 (since (ss i) z);
          count = length (since (ss i) z);
          winning = by_sets a z.buffer (state_of a z);
          places = map input_place (pad 7 (sources_since (ss i) z));
        }
    unfolding received_for
    accepted-answer i e r l h =
        let o = k.sound i l in
        let z = store a (ss i) e in
        rw (
          event-row i e,
          there-own a n ss n i e (r, l),
          h,
          k.at i l,
          turn-put a t v sv (ss i) o e,
          turn_from a t v sv (ss i) o e,
          turn-next a t v sv (ss i) o e,
          turn-wins a t v sv z (turn-sound a t v sv (ss i) o e),
        )

    refused-answer : (i e : ℕ) → eqb (event_refusal_of a n ss i e) 0 ≡ false → received_for a t cs i e ≡ refused_for (event_refusal_of a n ss i e)
    unfolding received_for
    refused-answer i e h = rw (event-row i e, h)

    event-reply : (l i e : ℕ) → receive (received_for a t cs i e) ≡ expected_in a n ss (receive_for l i e)
    unfolding refusal_in expected_in answer_in
    event-reply l i e =
        let m = event_refusal_of a n ss i e in
        let p = event_as_published a n ss l i e in
        by (eqb m 0)
        (λ h.
        let z = eqb-true m 0 h in
        let (r, b, taken) = p.accepted.0 z in
        ap receive (accepted-answer i e r b (sym (there-own a n ss l i e (r, b)) ∙ z)) ∙ sym (p.answer r b taken))
        (λ h. ap receive (refused-answer i e h) ∙ sym (p.refused m (eqb-false m 0 h) refl))

    answer-is : (i e : ℕ) → received_for a t cs i e ≡ answer_in a n ss i e
    unfolding expected_in event_answer
    answer-is i e = ap (event_answer (answer_in a n ss i e)) (event-reply n i e)

    -- row 16
    day-row : (l : ℕ) (vs out : List ℕ) → run_for_refusal a t cs vs out ≡ refusal_of n ss (run_for l vs out)
    unfolding refusal_of no_room
    day-row l vs out =
        let worded = client-rows_as_worded a t cs in
        let need = length vs + sum_below n (λ g. length (ss g).buffer) in
        by (bad_count n)
        (λ b. rw b ((worded.day-first vs out).row-20.1 (v, not_short a t v sv, wrong b)))
        (λ b. by (ltb (length out) need)
        (λ m. rw (b, m) ((worded.row-16 vs out).1 (clear b, rw (held-is a t v sv n cs ss k) (ltb-true (length out) need m))))
        (λ m. rw (b, m) ((worded.accepted vs out).1 (clear b, rw (held-is a t v sv n cs ss k) (ltb-false (length out) need m)))))

    day-reply : (l : ℕ) (vs out : List ℕ) → run (ran_for a t cs vs out) (ran_for_buffer a t cs vs out) ≡ expected_in a n ss (run_for l vs out)
    unfolding ran_for ran_for_buffer day_outcomes expected_in emitted_of refused_in
    day-reply l vs out =
        let row = day-row l vs out in
        by (eqb (refusal_of n ss (run_for l vs out)) 0)
        (λ h. rw (row, h, bytes_are a t v sv (named vs) n cs ss k, count-is a t v sv (named vs) n cs ss k))
        (λ h. rw (row, h))

    -- the record's own rows
    feed_row : (l : ℕ) (s : List ℕ) (x : Expected) → entry_refusal a t (length cs) s x ≡ refusal_of n ss (feed_for l s x)
    unfolding refusal_of
    feed_row l s x =
        by (bad_count n)
        (λ b. let row = wrong_20 b in rw b (entry_list a t (length cs) s x (λ z. omega arith) ∙ row))
        (λ b. rw b (entry_record a t (length cs) s x (clear_list a t (length cs) (clear b))))

    feed-reply : (l : ℕ) (s : List ℕ) (x : Expected) → feed (fed_for a t cs s x) ≡ expected_in a n ss (feed_for l s x)
    feed-reply l s x =
        let m = admission s x in
        let p = feed_as_published a n ss l s x in
        by (bad_count n)
        (λ b.
        let row = wrong_20 b in
        sym (ap feed (fed-list a t cs s x (λ z. omega arith)).0) ∙
        ap (λ n. feed (refused_fed x n 0)) row ∙
        sym (p.wrong-count (count-wrong n b)))
        (λ b.
        let z = clear_list a t (length cs) (clear b) in
        let r = count-right n b in
        by (eqb m.refusal 0)
        (λ h.
        let y = eqb-true m.refusal 0 h in
        sym (ap feed (fed-in a t cs s x z y).0) ∙
        ap (λ (q : ReceivedFor). feed (delivered_fed m q)) (answer-is m.client m.symbol) ∙
        sym (feed-let_in a n ss l s x r y))
        (λ h.
        let y = eqb-false m.refusal 0 h in
        sym (ap feed (fed_record a t cs s x z y).0) ∙ sym (p.not-let-in r y)))

    -- the functions fed the call
    linked_fed : (x : ClientCall)
        → Linked a t v sv n (cond (eqb (refusal_of n ss x) 0) (changed_by (monitored a t) cs (events_by x)) cs) (fed_in a n ss x)
    linked_fed x =
        by (eqb (refusal_of n ss x) 0)
        (λ h.
        let l = linked_by a t v sv n cs ss k (events_by x) in
        rw h
        (record {
          count = l.count;
          at = λ g b. l.at g b ∙ ap (configuration_at a) (sym (fed-passes a n ss x g h));
          sound = λ g b. rw (fed-passes a n ss x g h) (l.sound g b);
        }))
        (λ h.
        rw h
        (record {
          count = k.count;
          at = λ g b. k.at g b ∙ ap (configuration_at a) (sym (fed-refuses a n ss x g h));
          sound = λ g b. rw (fed-refuses a n ss x g h) (k.sound g b);
        }))

  -- a call that lends a front part
  module _ (cs : List Configuration) (ss : Functions) (n : ℕ) where
    row_of : (x : ClientCall) → Linked a t v sv n (take (lent_by x) cs) ss → whole_refusal a t cs x ≡ refusal_of n ss x
    unfolding whole_refusal lent_by refusal_of
    row_of (receive_for l i e) k = event-whole n (take l cs) ss k
    row_of (run_for l vs out) k = day-row n (take l cs) ss k l vs out
    row_of (feed_for l s x) k = feed_row n (take l cs) ss k l s x

    reply_of : (x : ClientCall) → Linked a t v sv n (take (lent_by x) cs) ss → reply a t cs x ≡ expected_in a n ss x
    unfolding reply lent_by
    reply_of (receive_for l i e) k = event-reply n (take l cs) ss k l i e
    reply_of (run_for l vs out) k = day-reply n (take l cs) ss k l vs out
    reply_of (feed_for l s x) k = feed-reply n (take l cs) ss k l s x

  module _ (count : ℕ) (cs : List Configuration) (ss : Functions) (k : Linked a t v sv count cs ss) (x : ClientCall) where
    abbrev n : ℕ
    n = lent_of count x

    abbrev lent : List Configuration
    lent = take (lent_by x) cs

    abbrev after : List Configuration
    after = lent_after a t cs x

    lent-count : length lent ≡ n
    unfolding lent_of
    lent-count = rw (length-take (lent_by x) cs, k.count)

    n_count : n ≤ count
    unfolding lent_of
    n_count = omega arith

    linked_lent : Linked a t v sv n lent ss
    linked_lent =
        record {
          count = lent-count;
          at = λ g l. lent_at (lent_by x) cs g none (omega (arith, lent-count)) ∙ k.at g (omega (arith, n_count));
          sound = λ g l. k.sound g (omega (arith, n_count));
        }

    call_reply : reply a t cs x ≡ expected a count ss x
    unfolding expected
    call_reply = reply_of cs ss n x linked_lent

    own-events : (g : ℕ) → own_by a t cs g x ≡ events_in n ss g x
    unfolding own_by reaches events_in
    own-events g = rw (row_of cs ss n x linked_lent, lent-count)

    linked_after : Linked a t v sv n after (fed_in a n ss x)
    linked_after = rw (row_of cs ss n x linked_lent) (linked_fed n lent ss linked_lent x)

    -- the configurations afterwards, those lent and the others
    left_at : (g : ℕ) → g < count → get_or (leaves a t cs x) g none ≡ configuration_at a (fed_in a n ss x g)
    left_at g l =
        ap (λ ds. get_or ds g none) (leaves-is a t cs x) ∙
        by (ltb g n)
        (λ h.
        let b = ltb-true g n h in
        was_lent (lent_by x) cs after g none (after-count a t cs x) (omega (arith, lent-count)) ∙ linked_after.at g b)
        (λ h.
        let b = ltb-false g n h in
        not-lent (lent_by x) cs after g none (after-count a t cs x) (omega (arith, lent-count)) ∙
        k.at g l ∙
        ap (configuration_at a) (sym (fed_beyond a n ss x g b)))

    call_linked : Linked a t v sv count (leaves a t cs x) (fed a count ss x)
    unfolding fed
    call_linked =
        record {
          count = leaves-count a t cs x ∙ k.count;
          at = left_at;
          sound = λ g l.
              by (ltb g n)
              (λ h. linked_after.sound g (ltb-true g n h))
              (λ h. rw (fed_beyond a n ss x g (ltb-false g n h)) (k.sound g l));
        }

  -- all calls
  pub record Together (count : ℕ) (cs : List Configuration) (ss : Functions) (xs : List ClientCall) : Type 0 where
    pub each-reply : replies a t cs xs ≡ expected_all a count ss xs
    pub linked : Linked a t v sv count (leaves_all a t cs xs) (fed_all a count ss xs)
    pub own : (g : ℕ) → own_all a t cs g xs ≡ events_to a count ss g xs

  together : (count : ℕ) (xs : List ClientCall) (cs : List Configuration) (ss : Functions) → Linked a t v sv count cs ss → Together count cs ss xs
  unfolding replies expected_all leaves_all fed_all own_all events_to
  together count [] cs ss k = record { each-reply = refl; linked = k; own = λ g. refl }
  together count (x ∷ xs) cs ss k =
      let m = together count xs (leaves a t cs x) (fed a count ss x) (call_linked count cs ss k x) in
      record {
        each-reply = ap₂ ◌∷◌ (call_reply count cs ss k x) m.each-reply;
        linked = m.linked;
        own = λ g. ap₂ ◌++◌ (own-events count cs ss k x g) (m.own g);
      }

  -- from the initial configurations
  at_first : (count : ℕ) → Linked a t v sv count (initial_clients a count) unfed
  unfolding initial_clients
  at_first count =
      record {
        count = length-replicate count _;
        at = λ g l. get_or-replicate count g _ none l ∙ initially a;
        sound = λ g l. initial-sound a v;
      }

  pub from_first : (count : ℕ) (xs : List ClientCall) → Together count (initial_clients a count) unfed xs
  from_first count xs = together count xs (initial_clients a count) unfed (at_first count)

-- the configurations that the functions stand for, one by one
module _ (a : Automaton) (ss : Functions) where
  at_count : (n : ℕ) → length (configurations_at a n ss) ≡ n
  unfolding configurations_at
  at_count zero = refl
  at_count (suc n) = omega (arith, length-append (configurations_at a n ss) (configuration_at a (ss n) ∷ []), at_count n)

  at_each : (n g : ℕ) → g < n → get_or (configurations_at a n ss) g none ≡ configuration_at a (ss g)
  unfolding configurations_at
  at_each zero g l = absurd (omega arith)
  at_each (suc n) g l =
      let before = configurations_at a n ss in
      by (ltb g n)
      (λ h.
      let b = ltb-true g n h in
      get_or-append before (configuration_at a (ss n) ∷ []) none g (omega (arith, at_count n)) ∙ at_each n g b)
      (λ h.
      let b = ltb-false g n h in
      let z : g ≡ n = omega arith in
      rw z (get_or_at before (configuration_at a (ss n)) [] none n (at_count n)))

  -- a list that they stand for is theirs
  pub all_linked : (t : List ℕ) (v : valid a ≡ true) (sv : Solved a t) (n : ℕ) (cs : List Configuration) → Linked a t v sv n cs ss
      → cs ≡ configurations_at a n ss
  all_linked t v sv n cs k =
      ext_get_or none cs (configurations_at a n ss) (k.count ∙ sym (at_count n))
      (λ g l. let b : g < n = omega (arith, k.count) in k.at g b ∙ sym (at_each n g b))
