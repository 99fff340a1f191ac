-- The room that row 16 asks for suffices.
use Prim.Native.Nat.{ℕ, zero, suc, ◌+◌, ◌<◌, ◌≤◌}
use mathlib.Core.Path.{◌≡◌, refl, ap}
use mathlib.Core.Bool.{true}
use mathlib.Core.List.{List, [], ◌∷◌}
use native.Mathlib.Omega.{arith}
use lib.ListN.{length, get_or, set, drop, length-append, length-take, length-drop}
use lib.Seq.{set_out}
use lib.Dec.{eqb, ltb}
use borrow.Author.Tests.{eqb-true, eqb-false, le-ltb, ltb-true, ltb-false}
use Rattle.base.proofs.Bools.{by}
use Rattle.automaton.specs.declared.Automaton.{Automaton}
use Rattle.configuration.specs.declared.Configuration.{Configuration}
use Rattle.configuration.specs.Configuration.{Position, held_events, position_of, configuration, consistent}
use Rattle.monitor_rule.specs.Step.{by_table, advance}
use Rattle.monitor_rule.proofs.Effects.{effect-length}
use Rattle.monitor_answers.specs.Turns.{turn_refusal, turn_emitted, turn_sources, turn_next}
use Rattle.monitor_answers.proofs.Turns.{turn-stands, turn-unmoved, turn-silent, turn_emits, turn_moves}
use Rattle.clients_answers.specs.Listed.{outcome, changed, outcomes, changed_by}
use Rattle.clients_answers.specs.Clients.{none, named, monitored, emitted_of, held_in, held_in_all}
use Rattle.clients_answers.specs.Clients.{run_for_refusal, day_outcomes, ran_for, ran_for_buffer}
use Rattle.clients_answers.specs.Claims.{ListClear, RoomSuffices}
use Rattle.clients_answers.proofs.Isolation.{outcome-own}
use Rattle.clients_answers.proofs.Worded.{held-sum, client-rows_as_worded}

pub named-length : (vs : List ℕ) → length (named vs) ≡ length vs
unfolding named
named-length [] = refl
named-length (v ∷ vs) = ap suc (named-length vs)

module _ (a : Automaton) (t : List ℕ) where
  -- an event inside a day: of a client that is there, and of none
  pub outcome_in : (cs : List Configuration) (i e : ℕ) → i < length cs
      → let c = get_or cs i none in outcome (monitored a t) cs i e ≡ record { refusal = turn_refusal a t c e; emitted = turn_emitted a t c e; sources = turn_sources a t c e }
  outcome_in cs i e l = outcome-own (monitored a t) cs i e l

  pub outcome_beyond : (cs : List Configuration) (i e : ℕ) → length cs ≤ i → outcome (monitored a t) cs i e ≡ record { refusal = 19; emitted = []; sources = [] }
  unfolding outcome
  outcome_beyond cs i e l = rw (le-ltb i (length cs) l)

  pub changed_beyond : (cs : List Configuration) (i e : ℕ) → length cs ≤ i → changed (monitored a t) cs i e ≡ cs
  unfolding changed
  changed_beyond cs i e l = set_out cs i (turn_next a t (get_or cs i none) e) l

  -- what a configuration counts as holding: no more than it has
  held_of : (c : Configuration) → consistent a c ≡ true → length (held_events c) ≤ held_in a c
  unfolding held_in held_events
  held_of c k = rw k (omega (arith, length-take c.held c.buffer))

  held-at_most : (p : Position) → held_in a (configuration p) ≤ length p.buffer
  unfolding held_in
  held-at_most p = by (consistent a (configuration p)) (λ h. rw h (omega arith)) (λ h. rw h (omega arith))

  -- one event for a configuration
  pub turn-fits : (c : Configuration) (e : ℕ) → length (turn_emitted a t c e) + held_in a (turn_next a t c e) ≤ suc (held_in a c)
  turn-fits c e =
      let n = turn_refusal a t c e in
      by (eqb n 0)
      (λ h.
      let z = eqb-true n 0 h in
      let most = held-at_most (advance (by_table a t) a (position_of c) e) in
      let few = held_of c (turn-stands a t c e z) in
      rw (turn_emits a t c e z, turn_moves a t c e z) (omega (arith, effect-length (by_table a t) a c.state (held_events c) e)))
      (λ h.
      let z = eqb-false n 0 h in
      rw (turn-silent a t c e n refl z, turn-unmoved a t c e n refl z) (omega arith))

  -- all of a list: one configuration for another
  pub held-set : (cs : List Configuration) (i : ℕ) (d : Configuration) → i < length cs
      → held_in_all a (set cs i d) + held_in a (get_or cs i none) ≡ held_in_all a cs + held_in a d
  unfolding held_in_all
  held-set [] i d l = absurd (omega arith)
  held-set (c ∷ cs) zero d l = omega arith
  held-set (c ∷ cs) (suc i) d l = omega (arith, held-set cs i d (omega arith))

  -- one event for a client
  own-fits : (cs : List Configuration) (i e : ℕ) → i < length cs
      → length (outcome (monitored a t) cs i e).emitted + held_in_all a (changed (monitored a t) cs i e) ≤ suc (held_in_all a cs)
  unfolding changed
  own-fits cs i e l =
      let c = get_or cs i none in
      rw (outcome_in cs i e l) (omega (arith, turn-fits c e, held-set cs i (turn_next a t c e) l))

  one-fits : (cs : List Configuration) (i e : ℕ)
      → length (outcome (monitored a t) cs i e).emitted + held_in_all a (changed (monitored a t) cs i e) ≤ suc (held_in_all a cs)
  one-fits cs i e =
      by (ltb i (length cs))
      (λ h. own-fits cs i e (ltb-true i (length cs) h))
      (λ h.
      let l = ltb-false i (length cs) h in
      rw (outcome_beyond cs i e l, changed_beyond cs i e l) (omega arith))

  fits : (xs : List (ℕ × ℕ)) (cs : List Configuration)
      → length (emitted_of (outcomes (monitored a t) cs xs)) + held_in_all a (changed_by (monitored a t) cs xs) ≤ length xs + held_in_all a cs
  unfolding emitted_of outcomes changed_by
  fits [] cs = omega arith
  fits (x ∷ xs) cs =
      let o = outcome (monitored a t) cs x.0 x.1 in
      let then = changed (monitored a t) cs x.0 x.1 in
      omega (arith, one-fits cs x.0 x.1, fits xs then, length-append o.emitted (emitted_of (outcomes (monitored a t) then xs)))

  module _ (cs : List Configuration) (vs out : List ℕ) where
    -- a day that is not refused: none of its rows stands
    pub day_clear : run_for_refusal a t cs vs out ≡ 0 → ListClear a t (length cs)
    day_clear z = (((client-rows_as_worded a t cs).accepted vs out).0 z).0

    pub has_room : run_for_refusal a t cs vs out ≡ 0 → length vs + held_in_all a cs ≤ length out
    has_room z = omega (arith, (((client-rows_as_worded a t cs).accepted vs out).0 z).1, held-sum a cs)

    pub written : length (emitted_of (day_outcomes a t cs vs out)) ≤ length out
    unfolding day_outcomes emitted_of
    written =
        by (eqb (run_for_refusal a t cs vs out) 0)
        (λ h. rw h (omega (arith, has_room (eqb-true (run_for_refusal a t cs vs out) 0 h), fits (named vs) cs, named-length vs)))
        (λ h. rw h (omega arith))

    output-length : length (ran_for_buffer a t cs vs out) ≡ length out
    unfolding ran_for_buffer
    output-length =
        let bytes = emitted_of (day_outcomes a t cs vs out) in
        omega (arith, length-append bytes (drop (length bytes) out), length-drop (length bytes) out, written)

pub room_suffices : RoomSuffices
unfolding ran_for
room_suffices a t cs = record { fits = λ xs. fits a t xs cs; written = written a t cs; output-length = output-length a t cs }
