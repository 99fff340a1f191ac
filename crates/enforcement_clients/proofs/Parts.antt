-- A client's part of a list of calls, over any automaton, table and configurations.
use Prim.Native.Nat.{ℕ, ◌<◌, ◌≤◌}
use mathlib.Core.Path.{◌≡◌, refl, sym, ◌∙◌, ap, ap₂}
use mathlib.Core.Bool.{true, false, cond, and-false}
use mathlib.Core.List.{List, [], ◌∷◌, ◌++◌, append-nil}
use lib.ListN.{length, get_or, take, drop}
use lib.Seq.{length_front}
use lib.Dec.{eqb, ltb}
use borrow.Author.Tests.{ltb-true, ltb-false, lt-ltb, le-ltb, ne_eqb, eq-eqb}
use Rattle.base.proofs.Bools.{by, and-pair, clash}
use Rattle.automaton.specs.declared.Automaton.{Automaton}
use Rattle.configuration.specs.declared.Configuration.{Configuration}
use Rattle.monitor_answers.specs.Turns.{turn_next}
use Rattle.clients_answers.specs.declared.ReceivedFor.{ReceivedFor}
use Rattle.clients_answers.specs.Listed.{Stepping, outcomes, changed_by, events_of, part_of, alone, after_alone}
use Rattle.clients_answers.specs.Clients.{none, named, list_refusal, Outcome, monitored, received_for, received_clients}
use Rattle.clients_answers.specs.Clients.{run_for_refusal, day_outcomes, ran_clients}
use Rattle.clients_answers.specs.Claims.{outcome_of}
use Rattle.clients_answers.proofs.Isolation.{isolated, changed-count}
use Rattle.clients_answers.proofs.Refusals.{list_clear}
use Rattle.clients_answers.proofs.Parting.{part_none}
use Rattle.clients_answers.proofs.Single.{events-alone}
use Rattle.feed_record.specs.declared.Expected.{Expected}
use Rattle.feed_record.specs.Claims.{InTime}
use Rattle.feed_record.proofs.Worded.{records_as_worded}
use Rattle.feed_answers.specs.Feed.{entry_refusal, fed_for, event_in}
use Rattle.feed_answers.proofs.Entering.{entry_record, fed-changed}
use Rattle.feed_answers.proofs.Worded.{events_in_as_worded, feed-answered_as_worded}
use Rattle.enforcement_clients.specs.ClientCalls.{ClientCall, receive_for, run_for, feed_for, lent_by, events_by, leaves, leaves_all}
use Rattle.enforcement_clients.specs.ClientCalls.{whole_refusal, reaches, own_by, own_all, watching, seen_by, seen_all}
use Rattle.enforcement_clients.specs.Claims.{outcomes_to, EventsBroughtAsWorded, OutcomesAsAnswered, CallsNoninterference}
use Rattle.enforcement_clients.proofs.Sums.{not-lent, was_lent, lent_at}

-- a record alone, over one list of events and then another
module _ {C O : Type 0} (k : Stepping C O) where
  alone-append : (es fs : List ℕ) (c : C) → alone k c (es ++ fs) ≡ alone k c es ++ alone k (after_alone k c es) fs
  unfolding alone after_alone
  alone-append [] fs c = refl
  alone-append (e ∷ es) fs c = ap (λ os. k.says c e ∷ os) (alone-append es fs (k.next c e))

  after-append : (es fs : List ℕ) (c : C) → after_alone k c (es ++ fs) ≡ after_alone k (after_alone k c es) fs
  unfolding after_alone
  after-append [] fs c = refl
  after-append (e ∷ es) fs c = after-append es fs (k.next c e)

module _ (a : Automaton) (t : List ℕ) where
  -- the lent part afterwards
  abbrev pub lent_after : List Configuration → ClientCall → List Configuration
  lent_after cs x =
      let lent = take (lent_by x) cs in
      cond (eqb (whole_refusal a t cs x) 0) (changed_by (monitored a t) lent (events_by x)) lent

  pub leaves-is : (cs : List Configuration) (x : ClientCall) → leaves a t cs x ≡ lent_after cs x ++ drop (lent_by x) cs
  unfolding leaves whole_refusal lent_by events_by received_clients ran_clients
  leaves-is cs (receive_for n i e) = refl
  leaves-is cs (run_for n vs out) = refl
  leaves-is cs (feed_for n s x) = ap (λ ds. ds ++ drop n cs) (fed-changed a t (take n cs) s x)

  pub after-count : (cs : List Configuration) (x : ClientCall) → length (lent_after cs x) ≡ length (take (lent_by x) cs)
  after-count cs x =
      by (eqb (whole_refusal a t cs x) 0)
      (λ h. rw h (changed-count (monitored a t) (events_by x) (take (lent_by x) cs)))
      (λ h. rw h)

  pub leaves-count : (cs : List Configuration) (x : ClientCall) → length (leaves a t cs x) ≡ length cs
  leaves-count cs x = rw (leaves-is cs x) (length_front cs (lent_after cs x) (lent_by x) (after-count cs x))

  -- whoever watches, the configurations go the same way
  module _ {O : Type 0} (says : Configuration → ℕ → O) (absent : O) where
    abbrev k : Stepping Configuration O
    k = watching a t says absent

    after_same : (es : List ℕ) (c : Configuration) → after_alone (monitored a t) c es ≡ after_alone k c es
    unfolding after_alone
    after_same [] c = refl
    after_same (e ∷ es) c = after_same es (turn_next a t c e)

    -- one call
    module _ (cs : List Configuration) (g : ℕ) (l : g < length cs) (x : ClientCall) where
      abbrev lent : List Configuration
      lent = take (lent_by x) cs

      abbrev own : List ℕ
      own = events_of g (events_by x)

      -- that reaches the client
      reached : reaches a t cs g x ≡ true → (eqb (whole_refusal a t cs x) 0 ≡ true) × (g < length lent)
      unfolding reaches
      reached h = let p = and-pair _ _ h in (p.0, ltb-true g (length lent) p.1)

      went : (eqb (whole_refusal a t cs x) 0 ≡ true) × (g < length lent) → get_or (lent_after cs x) g none ≡ after_alone k (get_or cs g none) own
      went r =
          rw r.0
          ((isolated (monitored a t) (events_by x) lent g r.1).last ∙
          after_same own (get_or lent g none) ∙
          ap (λ c. after_alone k c own) (lent_at (lent_by x) cs g none r.1))

      unreached : reaches a t cs g x ≡ false → get_or (lent_after cs x ++ drop (lent_by x) cs) g none ≡ get_or cs g none
      unfolding reaches
      unreached h =
          by (ltb g (length lent))
          (λ b.
          let m = ltb-true g (length lent) b in
          by (eqb (whole_refusal a t cs x) 0)
          (λ r. absurd (clash refl (rw (b, r) at h)))
          (λ r. was_lent (lent_by x) cs (lent_after cs x) g none (after-count cs x) m ∙ rw r (lent_at (lent_by x) cs g none m)))
          (λ b. not-lent (lent_by x) cs (lent_after cs x) g none (after-count cs x) (ltb-false g (length lent) b))

      one_last : get_or (leaves a t cs x) g none ≡ after_alone k (get_or cs g none) (own_by a t cs g x)
      unfolding own_by after_alone
      one_last =
          by (reaches a t cs g x)
          (λ h.
          let r = reached h in
          rw (h, leaves-is cs x, was_lent (lent_by x) cs (lent_after cs x) g none (after-count cs x) r.1) (went r))
          (λ h. rw (h, leaves-is cs x) (unreached h))

      one_seen : seen_by a t says absent cs g x ≡ alone k (get_or cs g none) (own_by a t cs g x)
      unfolding seen_by own_by alone
      one_seen =
          by (reaches a t cs g x)
          (λ h.
          let b = (reached h).1 in
          rw h ((isolated k (events_by x) lent g b).part ∙ ap (λ c. alone k c own) (lent_at (lent_by x) cs g none b)))
          (λ h. rw h)

    -- all calls
    pub record Parted (cs : List Configuration) (g : ℕ) (xs : List ClientCall) : Type 0 where
      pub seen : seen_all a t says absent cs g xs ≡ alone k (get_or cs g none) (own_all a t cs g xs)
      pub last : get_or (leaves_all a t cs xs) g none ≡ after_alone k (get_or cs g none) (own_all a t cs g xs)

    pub parted : (xs : List ClientCall) (cs : List Configuration) (g : ℕ) → g < length cs → Parted cs g xs
    unfolding seen_all leaves_all own_all alone after_alone
    parted [] cs g l = record { seen = refl; last = refl }
    parted (x ∷ xs) cs g l =
        let p = parted xs (leaves a t cs x) g (rw (leaves-count cs x) l) in
        let here = one_last cs g l x in
        let now = own_by a t cs g x in
        let rest = own_all a t (leaves a t cs x) g xs in
        let c = get_or cs g none in
        record {
          seen = ap₂ ◌++◌ (one_seen cs g l x) (p.seen ∙ ap (λ d. alone k d rest) here) ∙ sym (alone-append k now rest c);
          last = p.last ∙ ap (λ d. after_alone k d rest) here ∙ sym (after-append k now rest c);
        }

pub calls_noninterference : CallsNoninterference
unfolding outcomes_to
calls_noninterference a t cs ds xs ys g h gl hl same events =
    let p = parted a t (monitored a t).says (monitored a t).absent xs cs g gl in
    let q = parted a t (monitored a t).says (monitored a t).absent ys ds h hl in
    (p.seen ∙ rw (same, events) (sym q.seen), p.last ∙ rw (same, events) (sym q.last))

-- one call after another
module _ (a : Automaton) (t : List ℕ) (cs : List Configuration) (g : ℕ) where
  own-one : (x : ClientCall) → own_all a t cs g (x ∷ []) ≡ own_by a t cs g x
  unfolding own_all
  own-one x = append-nil (own_by a t cs g x)

  own_first : (x : ClientCall) (xs : List ClientCall) → own_all a t cs g (x ∷ xs) ≡ own_all a t cs g (x ∷ []) ++ own_all a t (leaves a t cs x) g xs
  unfolding own_all
  own_first x xs = rw (append-nil (own_by a t cs g x))

  -- a call that reaches the client, one that is refused, and one that does not lend it
  reaching : (x : ClientCall) → whole_refusal a t cs x ≡ 0 → g < length (take (lent_by x) cs) → reaches a t cs g x ≡ true
  unfolding reaches
  reaching x z l = rw (z, lt-ltb g (length (take (lent_by x) cs)) l)

  own-reached : (x : ClientCall) → whole_refusal a t cs x ≡ 0 → g < length (take (lent_by x) cs) → own_all a t cs g (x ∷ []) ≡ events_of g (events_by x)
  unfolding own_by
  own-reached x z l = own-one x ∙ rw (reaching x z l)

  own-refused : (x : ClientCall) → (whole_refusal a t cs x ≡ 0 → ⊥) → own_all a t cs g (x ∷ []) ≡ []
  unfolding own_by reaches
  own-refused x z = own-one x ∙ rw (ne_eqb (whole_refusal a t cs x) 0 z)

  own-not-lent : (x : ClientCall) → length (take (lent_by x) cs) ≤ g → own_all a t cs g (x ∷ []) ≡ []
  unfolding own_by reaches
  own-not-lent x l =
      own-one x ∙ rw (le-ltb g (length (take (lent_by x) cs)) l, and-false (eqb (whole_refusal a t cs x) 0))

  own-other : (n i e : ℕ) → (i ≡ g → ⊥) → own_all a t cs g (receive_for n i e ∷ []) ≡ []
  unfolding own_by events_by events_of
  own-other n i e z =
      own-one (receive_for n i e) ∙ rw (ne_eqb i g z) (by (reaches a t cs g (receive_for n i e)) (λ h. rw h) (λ h. rw h))

  -- a record of the feed that is let in
  module _ (n : ℕ) (s : List ℕ) (x : Expected) (serial i e : ℕ) (m : InTime s x serial i e) where
    entered : list_refusal a t (length (take n cs)) ≡ 0 → entry_refusal a t (length (take n cs)) s x ≡ 0
    entered z =
        entry_record a t (length (take n cs)) s x z ∙ ap (λ r. r.refusal) ((records_as_worded s x).answer serial i e m)

    event-is : events_of g (event_in s x) ≡ events_of g ((i, e) ∷ [])
    event-is = ap (events_of g) ((events_in_as_worded s x).own serial i e m)

    own-other_record : (i ≡ g → ⊥) → own_all a t cs g (feed_for n s x ∷ []) ≡ []
    unfolding own_by events_by events_of
    own-other_record z =
        own-one (feed_for n s x) ∙ rw (event-is, ne_eqb i g z) (by (reaches a t cs g (feed_for n s x)) (λ h. rw h) (λ h. rw h))

pub events-brought_as_worded : EventsBroughtAsWorded
unfolding own_all whole_refusal lent_by events_by events_of
events-brought_as_worded a t cs g =
    record {
      nothing = refl;
      first = own_first a t cs g;
      own-event = λ n e z l. own-reached a t cs g (receive_for n g e) z l ∙ rw (eq-eqb g g refl);
      other-event = own-other a t cs g;
      day = λ n vs out z l. own-reached a t cs g (run_for n vs out) z l;
      own-record = λ n s x serial e z l m.
          own-reached a t cs g (feed_for n s x) (entered a t cs g n s x serial g e m z) l ∙
          event-is a t cs g n s x serial g e m ∙
          rw (eq-eqb g g refl);
      other-record = λ n s x serial i e z m. own-other_record a t cs g n s x serial i e m z;
      refused-event = λ n i e z. own-refused a t cs g (receive_for n i e) z;
      refused-day = λ n vs out z. own-refused a t cs g (run_for n vs out) z;
      refused-record = λ n s x z. own-refused a t cs g (feed_for n s x) z;
      not-lent = own-not-lent a t cs g;
    }

module _ (a : Automaton) (t : List ℕ) (cs : List Configuration) (g : ℕ) where
  abbrev seen : ClientCall → List Outcome
  seen x = seen_by a t (monitored a t).says (monitored a t).absent cs g x

  outcomes-one : (x : ClientCall) → outcomes_to a t cs g (x ∷ []) ≡ seen x
  unfolding outcomes_to seen_all
  outcomes-one x = append-nil (seen x)

  outcomes-first : (x : ClientCall) (xs : List ClientCall)
      → outcomes_to a t cs g (x ∷ xs) ≡ outcomes_to a t cs g (x ∷ []) ++ outcomes_to a t (leaves a t cs x) g xs
  unfolding outcomes_to seen_all
  outcomes-first x xs = rw (append-nil (seen x))

  outcomes-event : (n e : ℕ) → list_refusal a t (length (take n cs)) ≡ 0 → g < length (take n cs)
      → outcomes_to a t cs g (receive_for n g e ∷ []) ≡ outcome_of (received_for a t (take n cs) g e) ∷ []
  unfolding seen_by whole_refusal lent_by events_by outcomes part_of
  outcomes-event n e z l =
      let alone-is = events-alone a t (take n cs) (list_clear a t (length (take n cs)) z) g e l in
      let answered = alone-is.answer in
      outcomes-one (receive_for n g e) ∙
      rw (reaching a t cs g (receive_for n g e) z l, eq-eqb g g refl, answered)
      (ap (λ (o : Outcome). o ∷ []) alone-is.inside)

  outcomes-day : (n : ℕ) (vs out : List ℕ) → g < length (take n cs)
      → outcomes_to a t cs g (run_for n vs out ∷ []) ≡ part_of g (named vs) (day_outcomes a t (take n cs) vs out)
  unfolding seen_by reaches whole_refusal lent_by events_by day_outcomes part_of
  outcomes-day n vs out l =
      outcomes-one (run_for n vs out) ∙
      rw (lt-ltb g (length (take n cs)) l)
      (by (eqb (run_for_refusal a t (take n cs) vs out) 0)
      (λ h. rw h)
      (λ h. rw h (sym (part_none g (named vs)))))

  -- a record that brings an event, as the event
  outcomes-fed : (n : ℕ) (s : List ℕ) (x : Expected) (serial e : ℕ) → list_refusal a t (length (take n cs)) ≡ 0
      → g < length (take n cs) → InTime s x serial g e
      → outcomes_to a t cs g (feed_for n s x ∷ []) ≡ outcome_of (fed_for a t (take n cs) s x).answer ∷ []
  unfolding seen_by whole_refusal lent_by events_by
  outcomes-fed n s x serial e z l m =
      let row = entered a t cs g n s x serial g e m z in
      let answer = ((feed-answered_as_worded a t (take n cs) s x).let-in (list_clear a t (length (take n cs)) z) serial g e m).0 in
      let as-event : seen (feed_for n s x) ≡ seen (receive_for n g e) =
      rw (
        reaching a t cs g (feed_for n s x) row l,
        reaching a t cs g (receive_for n g e) z l,
        (events_in_as_worded s x).own serial g e m,
      ) in
      outcomes-one (feed_for n s x) ∙
      as-event ∙
      sym (outcomes-one (receive_for n g e)) ∙
      outcomes-event n e z l ∙
      ap (λ (r : ReceivedFor). outcome_of r ∷ []) (sym (ap (λ f. f.answer) answer))

pub outcomes_as_answered : OutcomesAsAnswered
unfolding outcomes_to seen_all
outcomes_as_answered a t cs g =
    record {
      nothing = refl;
      first = outcomes-first a t cs g;
      event = outcomes-event a t cs g;
      day = outcomes-day a t cs g;
      fed = outcomes-fed a t cs g;
    }
