-- The rows that every call checks first pass where the automaton, the table and the configuration
-- are as they should be.
use mathlib.Core.Path.{◌≡◌}
use mathlib.Core.Bool.{Bool, true, false}
use mathlib.Core.List.{List, ◌++◌}
use native.Mathlib.Omega.{arith}
use Prim.Native.Nat.{ℕ}
use Rattle.base.specs.Rows.{first}
use Rattle.automaton.specs.declared.Automaton.{Automaton}
use Rattle.automaton.specs.Automaton.{valid}
use Rattle.automaton.proofs.Facts.{Valid, valid_facts}
use Rattle.solver_sets.specs.Table.{short}
use Rattle.configuration.specs.declared.Configuration.{Configuration}
use Rattle.configuration.specs.Configuration.{consistent}
use Rattle.configuration.proofs.Facts.{Consistent, consistent_facts}
use Rattle.base.proofs.Bools.{by}
use Rattle.base.proofs.Refusals.{first-before}
use Rattle.monitor_answers.specs.Answers.{table_rows, configuration_rows, call_rows, call_refusal}
pub use Rattle.monitor_answers.specs.Claims.{Clear}

pub rows_pass : (a : Automaton) (t : List ℕ) (c : Configuration) → valid a ≡ true → short a t ≡ false → consistent a c ≡ true
    → (rows : List (ℕ × Bool)) → first (call_rows a t c ++ rows) ≡ first rows
unfolding table_rows configuration_rows call_rows first
rows_pass a t c v s k rows = rw (v, s, k)

module _ (a : Automaton) (t : List ℕ) (c : Configuration) where
  -- the three rows, one after the other
  pub status_invalid : valid a ≡ false → call_refusal a t c ≡ 11
  unfolding call_refusal table_rows configuration_rows call_rows first
  status_invalid v = rw v

  pub status-short : valid a ≡ true → short a t ≡ true → call_refusal a t c ≡ 12
  unfolding call_refusal table_rows configuration_rows call_rows first
  status-short v s = rw (v, s)

  pub status_inconsistent : valid a ≡ true → short a t ≡ false → consistent a c ≡ false → call_refusal a t c ≡ 13
  unfolding call_refusal table_rows configuration_rows call_rows first
  status_inconsistent v s k = rw (v, s, k)

  pub status_clear : valid a ≡ true → short a t ≡ false → consistent a c ≡ true → call_refusal a t c ≡ 0
  unfolding call_refusal table_rows configuration_rows call_rows first
  status_clear v s k = rw (v, s, k)

  -- no row stands
  pub clear : call_refusal a t c ≡ 0 → Clear a t c
  clear h =
      by (valid a)
      (λ v. by (short a t)
      (λ s. absurd (let z = status-short v s in omega arith))
      (λ s. by (consistent a c)
      (λ k. record { record_valid = v; table-long = s; configuration-consistent = k })
      (λ k. absurd (let z = status_inconsistent v s k in omega arith))))
      (λ v. absurd (let z = status_invalid v in omega arith))

  -- a row that stands also stands before further rows
  pub rows_stand : (rows : List (ℕ × Bool)) → (call_refusal a t c ≡ 0 → ⊥) → first (call_rows a t c ++ rows) ≡ call_refusal a t c
  unfolding call_refusal
  rows_stand rows z = first-before (call_rows a t c) rows z

  module _ (k : Clear a t c) where
    pub facts : Valid a
    facts = valid_facts a k.record_valid

    pub place : Consistent a c
    place = consistent_facts a c facts k.configuration-consistent
