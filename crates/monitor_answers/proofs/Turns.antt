-- Rows 11 and 12 alone, and one event for any configuration below them.
use Prim.Native.Nat.{ℕ, ◌+◌, ◌≤◌}
use mathlib.Core.Path.{◌≡◌, refl, ◌∙◌, sym}
use mathlib.Core.Bool.{Bool, true, false}
use mathlib.Core.List.{List, [], ◌++◌}
use native.Mathlib.Nat.{add-zero}
use native.Mathlib.Omega.{arith}
use lib.ListN.{length}
use lib.Dec.{eqb}
use borrow.Author.Tests.{ne_eqb, eqb-true, eqb-false}
use Rattle.base.specs.Rows.{first}
use Rattle.base.proofs.Bools.{by}
use Rattle.base.proofs.Refusals.{first-before}
use Rattle.automaton.specs.declared.Automaton.{Automaton}
use Rattle.automaton.specs.Automaton.{valid}
use Rattle.automaton.proofs.Facts.{Valid, valid_facts}
use Rattle.solver_sets.specs.Table.{short}
use Rattle.solver_sets.proofs.Total.{total}
use Rattle.configuration.specs.declared.Configuration.{Configuration}
use Rattle.configuration.specs.Configuration.{held_events, position_of, configuration, consistent}
use Rattle.configuration.proofs.Facts.{Consistent, consistent_facts, consistent_of, configuration-consistent}
use Rattle.monitor_rule.specs.Step.{by_table, Effect, effect_from, sources, advance, event_rows, event_refusal}
use Rattle.monitor_rule.proofs.Effects.{OccursAt, consistent_occurs, advance_occurs, effect-length}
use Rattle.monitor_answers.specs.Answers.{table_rows, table_refusal, configuration_rows, call_rows, call_refusal, receive_refusal}
use Rattle.monitor_answers.specs.Turns.{turn_rows, turn_refusal, turn_emitted, turn_sources, turn_next, turned}

module _ (a : Automaton) (t : List ℕ) where
  -- the two rows, one after the other
  pub table_invalid : valid a ≡ false → table_refusal a t ≡ 11
  unfolding table_refusal table_rows first
  table_invalid v = rw v

  pub table-short : valid a ≡ true → short a t ≡ true → table_refusal a t ≡ 12
  unfolding table_refusal table_rows first
  table-short v s = rw (v, s)

  pub table_clear : valid a ≡ true → short a t ≡ false → table_refusal a t ≡ 0
  unfolding table_refusal table_rows first
  table_clear v s = rw (v, s)

  -- neither stands
  pub record Opened : Type 0 where
    pub record_valid : valid a ≡ true
    pub table-long : short a t ≡ false

  pub opened : table_refusal a t ≡ 0 → Opened
  opened h =
      by (valid a)
      (λ v. by (short a t)
      (λ s. absurd (let z = table-short v s in omega arith))
      (λ s. record { record_valid = v; table-long = s }))
      (λ v. absurd (let z = table_invalid v in omega arith))

  -- one that stands also stands before further rows
  pub table-stands : (rows : List (ℕ × Bool)) → (table_refusal a t ≡ 0 → ⊥) → first (table_rows a t ++ rows) ≡ table_refusal a t
  unfolding table_refusal
  table-stands rows z = first-before (table_rows a t) rows z

module _ (a : Automaton) (t : List ℕ) (c : Configuration) where
  pub call_stands : (table_refusal a t ≡ 0 → ⊥) → call_refusal a t c ≡ table_refusal a t
  unfolding call_refusal call_rows
  call_stands z = table-stands a t (configuration_rows a c) z

  module _ (e : ℕ) where
    pub receive_unopened : (table_refusal a t ≡ 0 → ⊥) → receive_refusal a t c e ≡ table_refusal a t
    unfolding receive_refusal call_rows table_rows
    receive_unopened z = table-stands a t (configuration_rows a c ++ event_rows (by_table a t) a (position_of c) e) z

    pub receive_turns : Opened a t → receive_refusal a t c e ≡ turn_refusal a t c e
    unfolding receive_refusal turn_refusal turn_rows call_rows table_rows first
    receive_turns o = rw (o.record_valid, o.table-long)

    -- rows 13 to 15 and 23
    pub turn_inconsistent : consistent a c ≡ false → turn_refusal a t c e ≡ 13
    unfolding turn_refusal turn_rows configuration_rows first
    turn_inconsistent k = rw k

    pub turn-consistent : consistent a c ≡ true → turn_refusal a t c e ≡ event_refusal (by_table a t) a (position_of c) e
    unfolding turn_refusal turn_rows configuration_rows event_refusal first
    turn-consistent k = rw k

    pub turn-stands : turn_refusal a t c e ≡ 0 → consistent a c ≡ true
    turn-stands z = by (consistent a c) (λ k. k) (λ k. absurd (let n = turn_inconsistent k in omega arith))

    -- a refused event
    module _ (n : ℕ) (h : turn_refusal a t c e ≡ n) (z : n ≡ 0 → ⊥) where
      pub turn-refused : (at : ℕ) → record { row = n; configuration = c; written = at } ≡ turned a t c e at
      unfolding turned turn_next turn_emitted
      turn-refused at = rw (h, ne_eqb n 0 z, add-zero at)

      pub turn-unmoved : turn_next a t c e ≡ c
      unfolding turn_next
      turn-unmoved = rw (h, ne_eqb n 0 z)

      pub turn-silent : turn_emitted a t c e ≡ []
      unfolding turn_emitted
      turn-silent = rw (h, ne_eqb n 0 z)

      pub turn_untraced : turn_sources a t c e ≡ []
      unfolding turn_sources
      turn_untraced = rw (h, ne_eqb n 0 z)

    -- an accepted one
    module _ (z : turn_refusal a t c e ≡ 0) where
      abbrev f : Effect
      f = effect_from (by_table a t) a (position_of c) e

      pub turn_emits : turn_emitted a t c e ≡ f.emitted
      unfolding turn_emitted
      turn_emits = rw z

      pub turn_traces : turn_sources a t c e ≡ sources (by_table a t) a (position_of c) e
      unfolding turn_sources
      turn_traces = rw z

      pub turn_moves : turn_next a t c e ≡ configuration (advance (by_table a t) a (position_of c) e)
      unfolding turn_next
      turn_moves = rw z

      pub turn-accepted : (at : ℕ)
          → turned a t c e at ≡ record { row = 0; configuration = configuration (advance (by_table a t) a (position_of c) e); written = at + length f.emitted }
      unfolding turned turn_next turn_emitted
      turn-accepted at = rw z

    -- a consistent configuration stays one, and what is emitted and then held is at most one event
    -- more than what was held
    module _ (o : Opened a t) (k : consistent a c ≡ true) where
      v : Valid a
      v = valid_facts a o.record_valid

      place : Consistent a c
      place = consistent_facts a c v k

      row : turn_refusal a t c e ≡ 0 → event_refusal (by_table a t) a (position_of c) e ≡ 0
      row z = sym (turn-consistent k) ∙ z

      next_occurs : turn_refusal a t c e ≡ 0 → OccursAt a (advance (by_table a t) a (position_of c) e)
      next_occurs z =
          advance_occurs (by_table a t) a (position_of c) e (total a o.record_valid) (consistent_occurs a c place) (row z)

      pub turn_keeps : consistent a (turn_next a t c e) ≡ true
      turn_keeps =
          let n = turn_refusal a t c e in
          by (eqb n 0)
          (λ z.
          let h = eqb-true n 0 z in
          let p = advance (by_table a t) a (position_of c) e in
          let b = next_occurs h in
          rw (turn_moves h)
          (consistent_of a (configuration p) (configuration-consistent a v p b.occurs.state-below b.occurs.buffer b.placed)))
          (λ z. rw (turn-unmoved n refl (eqb-false n 0 z)) k)

      pub turn-room : length (turn_emitted a t c e) + (turn_next a t c e).held ≤ 1 + c.held
      turn-room =
          let n = turn_refusal a t c e in
          by (eqb n 0)
          (λ z.
          let h = eqb-true n 0 z in
          rw (turn_emits h, turn_moves h) (omega (arith, effect-length (by_table a t) a c.state (held_events c) e, place.held-length)))
          (λ z.
          let y = eqb-false n 0 z in
          rw (turn-silent n refl y, turn-unmoved n refl y) (omega arith))
