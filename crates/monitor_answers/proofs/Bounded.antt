-- What a call hands back: a consistent configuration where no row refuses it, else the one that it
-- was given; and an input count of 32 bits where it was given one.
use Prim.Native.Nat.{ℕ, ◌≤◌}
use mathlib.Core.Path.{◌≡◌}
use mathlib.Core.Bool.{true}
use mathlib.Core.List.{List}
use lib.Dec.{eqb}
use borrow.Author.Tests.{eqb-true, eq-eqb, ne_eqb}
use Rattle.base.proofs.Bools.{by}
use Rattle.automaton.specs.declared.Automaton.{Automaton}
use Rattle.automaton.specs.Automaton.{valid}
use Rattle.automaton.proofs.Facts.{valid_facts}
use Rattle.solver_sets.proofs.Total.{total}
use Rattle.configuration_places.specs.Places.{count_end, input_number}
use Rattle.configuration.specs.declared.Configuration.{Configuration}
use Rattle.configuration.specs.Configuration.{Position, position_of, configuration}
use Rattle.configuration.proofs.Facts.{Consistent, configuration-consistent}
use Rattle.monitor_rule.specs.Step.{by_table}
use Rattle.monitor_rule.proofs.Effects.{OccursAt, advance_occurs}
use Rattle.monitor_rule.proofs.Runs.{run_occurs}
use Rattle.monitor_rule.proofs.Bounded.{advance-bounded, run-bounded}
use Rattle.monitor_answers.specs.Answers.{receive_refusal, received, run_refusal, ran}
use Rattle.monitor_answers.proofs.Accepted.{clear_occurs, receive_clear, receive-event, run_clear}

-- the input count is at most the end of a count
abbrev pub BoundedIn : Configuration → Type 0
BoundedIn c = input_number c.received ≤ count_end

-- a position that can occur makes a consistent configuration
occurs_consistent : (a : Automaton) → valid a ≡ true → (p : Position) → OccursAt a p → Consistent a (configuration p)
occurs_consistent a v p o =
    configuration-consistent a (valid_facts a v) p o.occurs.state-below o.occurs.buffer o.placed

module _ (a : Automaton) (t : List ℕ) (c : Configuration) where
  -- one event
  module _ (e : ℕ) where
    pub received-consistent : receive_refusal a t c e ≡ 0 → Consistent a (received a t c e).configuration
    unfolding received
    received-consistent z =
        let k = receive_clear a t c e z in
        let v = k.record_valid in
        rw (eq-eqb (receive_refusal a t c e) 0 z)
        (occurs_consistent a v _
        (advance_occurs (by_table a t) a (position_of c) e (total a v) (clear_occurs a t c k) (receive-event a t c e z)))

    pub received-unmoved : (receive_refusal a t c e ≡ 0 → ⊥) → (received a t c e).configuration ≡ c
    unfolding received
    received-unmoved n = rw (ne_eqb (receive_refusal a t c e) 0 n)

    pub received-bounded : BoundedIn c → BoundedIn (received a t c e).configuration
    unfolding received
    received-bounded b =
        let n = receive_refusal a t c e in
        by (eqb n 0)
        (λ h. rw h (advance-bounded (by_table a t) a (position_of c) e (receive-event a t c e (eqb-true n 0 h)) b))
        (λ h. rw h b)

  -- a whole day
  module _ (es out : List ℕ) where
    pub ran-consistent : run_refusal a t c es out ≡ 0 → Consistent a (ran a t c es out).configuration
    unfolding ran
    ran-consistent z =
        let k = run_clear a t c es out z in
        let v = k.record_valid in
        rw (eq-eqb (run_refusal a t c es out) 0 z)
        (occurs_consistent a v _ (run_occurs (by_table a t) a (total a v) es (position_of c) (clear_occurs a t c k)))

    pub ran-unmoved : (run_refusal a t c es out ≡ 0 → ⊥) → (ran a t c es out).configuration ≡ c
    unfolding ran
    ran-unmoved n = rw (ne_eqb (run_refusal a t c es out) 0 n)

    pub ran-bounded : BoundedIn c → BoundedIn (ran a t c es out).configuration
    unfolding ran
    ran-bounded b =
        by (eqb (run_refusal a t c es out) 0)
        (λ h. rw h (run-bounded (by_table a t) a es (position_of c) b))
        (λ h. rw h b)
