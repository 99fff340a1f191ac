-- Proofs that what a call hands back is what the next call is given.
use Prim.Native.Nat.{ℕ}
use mathlib.Core.Path.{◌≡◌}
use mathlib.Core.Bool.{true}
use mathlib.Core.List.{List}
use native.Mathlib.Omega.{arith}
use lib.Dec.{eqb}
use borrow.Author.Tests.{eqb-true, eqb-false}
use Rattle.base.proofs.Bools.{by}
use Rattle.automaton.specs.declared.Automaton.{Automaton}
use Rattle.automaton.specs.Automaton.{valid}
use Rattle.automaton.proofs.Facts.{valid_facts}
use Rattle.configuration.specs.declared.Configuration.{Configuration}
use Rattle.configuration.specs.Configuration.{empty_at, initial_answer, initial_of}
use Rattle.configuration.proofs.Facts.{Consistent, configuration-consistent}
use Rattle.configuration.proofs.Rising.{empty-placed}
use Rattle.configuration.proofs.Counts.{places-counted, emitted-counted}
use Rattle.monitor_answers.specs.Answers.{receive_refusal, received, run_refusal, ran}
use Rattle.monitor_answers.proofs.Bounded.{BoundedIn, received-consistent, received-unmoved, received-bounded}
use Rattle.monitor_answers.proofs.Bounded.{ran-consistent, ran-unmoved, ran-bounded}
use Rattle.c_layout.specs.Layout.{automaton_of, configuration_of}
use Rattle.c_layout.specs.Calls.{initial_bytes, received_left, ran_left, receive_leaves, run_leaves}
use Rattle.c_layout.specs.Claims.{Typed, InitialHandedOn, EventHandedOn, RunHandedOn}
use Rattle.c_layout.proofs.Configurations.{typed_out, configuration-kept}

-- a consistent configuration is as its type has it where its input count is
typed_consistent : (a : Automaton) (c : Configuration) → Consistent a c → BoundedIn c → Typed c
typed_consistent a c k b =
    record {
      buffer-length = k.buffer-length;
      places-length = k.places-length;
      places-low = λ i. omega (arith, places-counted a c k i);
      received-low = omega arith;
      emitted-low = omega (arith, emitted-counted a c k);
    }

-- so is the initial one
pub initial_typed : (a : Automaton) → valid a ≡ true → Typed (initial_of a)
unfolding initial_of
initial_typed a v =
    let f = valid_facts a v in
    typed_consistent a _
    (configuration-consistent a f (empty_at a.initial) f.initial-below (tt, omega arith) (empty-placed a.initial))
    (omega arith)

-- and what is handed back, refused or not, where what was given is
module _ (a : Automaton) (t : List ℕ) (c : Configuration) (typed : Typed c) where
  given : BoundedIn c
  given = omega (arith, typed.received-low)

  pub event_typed : (e : ℕ) → Typed (received a t c e).configuration
  event_typed e =
      let n = receive_refusal a t c e in
      by (eqb n 0)
      (λ h. typed_consistent a _ (received-consistent a t c e (eqb-true n 0 h)) (received-bounded a t c e given))
      (λ h. rw (received-unmoved a t c e (eqb-false n 0 h)) typed)

  pub run_typed : (events out : List ℕ) → Typed (ran a t c events out).configuration
  run_typed events out =
      let n = run_refusal a t c events out in
      by (eqb n 0)
      (λ h. typed_consistent a _ (ran-consistent a t c events out (eqb-true n 0 h)) (ran-bounded a t c events out given))
      (λ h. rw (ran-unmoved a t c events out (eqb-false n 0 h)) typed)

pub initial_handed_on : InitialHandedOn
unfolding initial_answer initial_bytes
initial_handed_on record-bytes lent accepted =
    let a = automaton_of record-bytes in
    by (valid a)
    (λ v. rw v (configuration-kept (initial_of a) (initial_typed a v)))
    (λ v. absurd (omega (arith, rw v at accepted)))

-- over bytes of which a configuration as its type has it is taken
module _ (record-bytes t c : List ℕ) (typed : Typed (configuration_of c)) where
  pub event_hands_on : (e : ℕ)
      → configuration_of (receive_leaves record-bytes t c e).configuration
      ≡ (received (automaton_of record-bytes) t (configuration_of c) e).configuration
  unfolding receive_leaves received_left
  event_hands_on e = configuration-kept _ (event_typed (automaton_of record-bytes) t (configuration_of c) typed e)

  pub run_hands_on : (events out : List ℕ)
      → configuration_of (run_leaves record-bytes t c events out).configuration
      ≡ (ran (automaton_of record-bytes) t (configuration_of c) events out).configuration
  unfolding run_leaves ran_left
  run_hands_on events out = configuration-kept _ (run_typed (automaton_of record-bytes) t (configuration_of c) typed events out)

pub event_handed_on : EventHandedOn
event_handed_on record-bytes t c e long low = event_hands_on record-bytes t c (typed_out c long low) e

pub run_handed_on : RunHandedOn
run_handed_on record-bytes t c events out long low = run_hands_on record-bytes t c (typed_out c long low) events out
