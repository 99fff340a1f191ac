-- What is kept of the lent list, and the numbers of a day's events.
use Prim.Native.Nat.{ℕ, ◌<◌}
use mathlib.Core.Path.{◌≡◌, refl, sym, ◌∙◌, ap, ap₂}
use mathlib.Core.List.{List, [], ◌∷◌}
use native.Mathlib.Omega.{arith}
use native.Mathlib.Nat.{mod-lt, div-add-mod'}
use lib.ListN.{length, get_or}
use lib.Seq.{set-get_or}
use lib.Dec.{eqb, ltb}
use borrow.Author.Tests.{eqb-true, ne_eqb, ltb-true, ltb-false}
use Rattle.base.proofs.Bools.{by}
use Rattle.automaton.specs.declared.Automaton.{Automaton}
use Rattle.configuration.specs.declared.Configuration.{Configuration}
use Rattle.monitor_answers.specs.Turns.{turn_refusal}
use Rattle.monitor_answers.proofs.Turns.{turn-unmoved, turn-silent}
use Rattle.clients_answers.specs.Listed.{outcome, changed, changed_by, events_of, after_alone}
use Rattle.clients_answers.specs.Clients.{none, client_of, symbol_of, named, monitored, list_refusal, client_rows, emitted_of, refused_in}
use Rattle.clients_answers.specs.Clients.{receive_for_refusal, refused_for, received_for, received_clients}
use Rattle.clients_answers.specs.Clients.{run_for_refusal, day_outcomes, refused_run_for, ran_for, ran_clients, ran_for_buffer}
use Rattle.clients_answers.specs.Claims.{OthersKept, NumbersAsWorded}
use Rattle.clients_answers.proofs.Isolation.{changed-other, changed-count, isolated}
use Rattle.clients_answers.proofs.Refusals.{list_clear, list-passes}
use Rattle.clients_answers.proofs.Room.{outcome_in, outcome_beyond, changed_beyond}
use Rattle.clients_answers.proofs.Worded.{outcome-row}

module _ (a : Automaton) (t : List ℕ) (cs : List Configuration) where
  kept-other : (i e g : ℕ) → (g ≡ i → ⊥) → get_or (received_clients a t cs i e) g none ≡ get_or cs g none
  unfolding received_clients changed_by
  kept-other i e g n = by (eqb (list_refusal a t (length cs)) 0) (λ h. rw h (changed-other (monitored a t) cs i e g n)) (λ h. rw h)

  -- an event of a client that its configuration refuses
  unmoved : (i e : ℕ) → (turn_refusal a t (get_or cs i none) e ≡ 0 → ⊥) → changed (monitored a t) cs i e ≡ cs
  unfolding changed
  unmoved i e n = rw (turn-unmoved a t (get_or cs i none) e _ refl n) (set-get_or cs i none)

  -- an event that is refused changes nothing and emits nothing
  passed_over : (i e : ℕ) → ((outcome (monitored a t) cs i e).refusal ≡ 0 → ⊥)
      → (changed (monitored a t) cs i e ≡ cs) × ((outcome (monitored a t) cs i e).emitted ≡ [])
  passed_over i e n =
      by (ltb i (length cs))
      (λ h.
      let there = outcome_in a t cs i e (ltb-true i (length cs) h) in
      let z : turn_refusal a t (get_or cs i none) e ≡ 0 → ⊥ = λ k. n (rw there k) in
      (unmoved i e z, rw there (turn-silent a t (get_or cs i none) e _ refl z)))
      (λ h.
      let l = ltb-false i (length cs) h in
      (changed_beyond a t cs i e l, rw (outcome_beyond a t cs i e l)))

  kept-event : (i e : ℕ) → (receive_for_refusal a t cs i e ≡ 0 → ⊥) → received_clients a t cs i e ≡ cs
  unfolding received_clients changed_by receive_for_refusal
  kept-event i e n =
      let r = list_refusal a t (length cs) in
      by (eqb r 0)
      (λ h.
      let on = list-passes a t (length cs) (client_rows a t cs i e) (list_clear a t (length cs) (eqb-true r 0 h)) in
      rw h (passed_over i e (λ z. n (on ∙ rw (outcome-row a t cs i e) at z))).0)
      (λ h. rw h)

  kept-without : (vs out : List ℕ) (g : ℕ) → g < length cs → events_of g (named vs) ≡ []
      → get_or (ran_clients a t cs vs out) g none ≡ get_or cs g none
  unfolding ran_clients after_alone
  kept-without vs out g l w =
      by (eqb (run_for_refusal a t cs vs out) 0)
      (λ h. rw h ((isolated (monitored a t) (named vs) cs g l).last ∙ rw w refl))
      (λ h. rw h)

pub others-kept : OthersKept
unfolding received_for received_clients ran_for ran_clients ran_for_buffer day_outcomes emitted_of refused_in
others-kept a t cs =
    let k = monitored a t in
    record {
      others = kept-other a t cs;
      refused-event = kept-event a t cs;
      passed_over = passed_over a t cs;
      refused-day = λ vs out n. rw (ne_eqb (run_for_refusal a t cs vs out) 0 n);
      refused-output = λ vs out n. rw (ne_eqb (run_for_refusal a t cs vs out) 0 n);
      refused-answer = λ i e n. rw (ne_eqb (receive_for_refusal a t cs i e) 0 n);
      refused-ran = λ vs out n. rw (ne_eqb (run_for_refusal a t cs vs out) 0 n);
      without = kept-without a t cs;
      count-event = λ i e. by (eqb (list_refusal a t (length cs)) 0) (λ h. rw h (changed-count k ((i, e) ∷ []) cs)) (λ h. rw h);
      count-day = λ vs out. by (eqb (run_for_refusal a t cs vs out) 0) (λ h. rw h (changed-count k (named vs) cs)) (λ h. rw h);
    }

-- refused by the row m: the whole answer, and what was lent stays
module _ (a : Automaton) (t : List ℕ) (cs : List Configuration) (m : ℕ) (n : m ≡ 0 → ⊥) where
  pub event-refused : (i e : ℕ) → receive_for_refusal a t cs i e ≡ m → (received_for a t cs i e ≡ refused_for m) × (received_clients a t cs i e ≡ cs)
  event-refused i e h =
      let k = others-kept a t cs in
      let z : receive_for_refusal a t cs i e ≡ 0 → ⊥ = λ y. n (sym h ∙ y) in
      (k.refused-answer i e z ∙ ap refused_for h, k.refused-event i e z)

  pub day-refused : (vs out : List ℕ) → run_for_refusal a t cs vs out ≡ m
      → (ran_for a t cs vs out ≡ refused_run_for m) × (ran_clients a t cs vs out ≡ cs) × (ran_for_buffer a t cs vs out ≡ out)
  day-refused vs out h =
      let k = others-kept a t cs in
      let z : run_for_refusal a t cs vs out ≡ 0 → ⊥ = λ y. n (sym h ∙ y) in
      (k.refused-ran vs out z ∙ ap refused_run_for h, k.refused-day vs out z, k.refused-output vs out z)

pub numbers_as_worded : NumbersAsWorded
unfolding named client_of symbol_of
numbers_as_worded [] = (refl, tt)
numbers_as_worded (v ∷ vs) =
    let more = numbers_as_worded vs in
    (ap₂ ◌∷◌ (div-add-mod' v 65536) more.0, (mod-lt v (omega arith), more.1))
