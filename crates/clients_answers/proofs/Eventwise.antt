-- A day is its events.
use Prim.Native.Nat.{ℕ, ◌+◌}
use mathlib.Core.Path.{◌≡◌, refl, sym, ◌∙◌, ap}
use mathlib.Core.Bool.{cond}
use mathlib.Core.List.{List, [], ◌∷◌, ◌++◌, map}
use lib.ListN.{length, take}
use lib.Dec.{eqb, ltb}
use borrow.Author.Tests.{ltb-true, ltb-false}
use Rattle.base.proofs.Bools.{by}
use Rattle.automaton.specs.declared.Automaton.{Automaton}
use Rattle.configuration.specs.declared.Configuration.{Configuration}
use Rattle.clients_answers.specs.Listed.{outcome, changed, outcomes, changed_by}
use Rattle.clients_answers.specs.Clients.{named, Outcome, monitored, emitted_of, refused_in, receive_for_refusal, received_for, received_clients}
use Rattle.clients_answers.specs.Clients.{day_outcomes, ran_for, ran_clients, ran_for_buffer}
use Rattle.clients_answers.specs.Claims.{ListClear, answers, clients_after, outcome_of, all_emitted, all_refused, DaysAsEvents}
use Rattle.clients_answers.proofs.Isolation.{changed-length}
use Rattle.clients_answers.proofs.Refusals.{clear_list}
use Rattle.clients_answers.proofs.Room.{outcome_beyond, day_clear}
use Rattle.clients_answers.proofs.Single.{events-alone}
use Rattle.clients_answers.proofs.Worded.{client-rows_as_worded}

module _ (a : Automaton) (t : List ℕ) where
  -- one event inside a day is the call for it
  absent-answer : (cs : List Configuration) (i e : ℕ) → receive_for_refusal a t cs i e ≡ 19
      → outcome_of (received_for a t cs i e) ≡ record { refusal = 19; emitted = []; sources = [] }
  unfolding received_for
  absent-answer cs i e h = rw h

  outcome-answer : (cs : List Configuration) (i e : ℕ) → ListClear a t (length cs)
      → outcome (monitored a t) cs i e ≡ outcome_of (received_for a t cs i e)
  outcome-answer cs i e k =
      by (ltb i (length cs))
      (λ h. let r = events-alone a t cs k i e (ltb-true i (length cs) h) in r.inside ∙ rw r.answer)
      (λ h.
      let l = ltb-false i (length cs) h in
      outcome_beyond a t cs i e l ∙ sym (absent-answer cs i e (((client-rows_as_worded a t cs).event i e).row-19.1 (k, l))))

  changed-answer : (cs : List Configuration) (i e : ℕ) → ListClear a t (length cs)
      → received_clients a t cs i e ≡ changed (monitored a t) cs i e
  unfolding received_clients changed_by
  changed-answer cs i e k = rw (clear_list a t (length cs) k)

  -- all of them
  record Eventwise (cs : List Configuration) (xs : List (ℕ × ℕ)) : Type 0 where
    clients : changed_by (monitored a t) cs xs ≡ clients_after a t cs xs
    each : outcomes (monitored a t) cs xs ≡ map outcome_of (answers a t cs xs)
    bytes : emitted_of (outcomes (monitored a t) cs xs) ≡ all_emitted (answers a t cs xs)
    refused : refused_in (outcomes (monitored a t) cs xs) ≡ all_refused (answers a t cs xs)

  eventwise : (xs : List (ℕ × ℕ)) (cs : List Configuration) → ListClear a t (length cs) → Eventwise cs xs
  unfolding changed_by clients_after outcomes emitted_of all_emitted refused_in all_refused answers
  eventwise [] cs k = record { clients = refl; each = refl; bytes = refl; refused = refl }
  eventwise (x ∷ xs) cs k =
      let r = received_for a t cs x.0 x.1 in
      let on = changed-answer cs x.0 x.1 k in
      let more = eventwise xs (changed (monitored a t) cs x.0 x.1) (rw (changed-length (monitored a t) cs x.0 x.1) k) in
      let here = outcome-answer cs x.0 x.1 k in
      record {
        clients = rw on more.clients;
        each = rw (here, on) (ap (λ (os : List Outcome). outcome_of r ∷ os) more.each);
        bytes = rw (here, on) (ap (λ (out : List ℕ). take r.count r.emitted ++ out) more.bytes);
        refused = rw (here, on) (ap (λ (n : ℕ). cond (eqb r.refusal 0) 0 1 + n) more.refused);
      }

pub days_as_events : DaysAsEvents
unfolding ran_clients ran_for ran_for_buffer day_outcomes
days_as_events a t cs vs out z =
    let k = eventwise a t (named vs) cs (day_clear a t cs vs out z) in
    record {
      clients = rw z k.clients;
      each = rw z k.each;
      ran = rw (z, k.bytes, k.refused);
      output = rw (z, k.bytes);
    }
