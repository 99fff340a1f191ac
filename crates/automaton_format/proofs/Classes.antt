-- What passes the check of the classes.
use Prim.Native.Nat.{ℕ, suc, ◌+◌, ◌-◌, ◌<◌, ◌≤◌}
use mathlib.Core.Path.{◌≡◌}
use mathlib.Core.List.{List, [], ◌∷◌, ◌++◌}
use lib.ListN.{length, get_or, take}
use lib.Seq.{take-suc, take_all}
use lib.Dec.{ltb}
use native.Mathlib.Omega.{arith}
use borrow.Author.Tests.{ltb-true, ltb-false, lt-ltb, le-ltb}
use Rattle.base.specs.Rows.{first}
use Rattle.base.proofs.Bools.{by}
use Rattle.automaton_format.specs.Reading.{tally, item_row, class_row}
use Rattle.automaton_format.proofs.Tally.{tally-front}
use Rattle.automaton_format.proofs.Follows.{Passes}

module _ (most : ℕ) where
  pub class-passes : (before : List ℕ) (c : ℕ) → c ≤ most → tally (before ++ c ∷ []) ≤ 8 → class_row most before c ≡ 0
  unfolding item_row first
  class-passes before c h t = let l : c < most + 1 = omega arith in rw (lt-ltb c (most + 1) l, le-ltb 8 (tally (before ++ c ∷ [])) t)

  pub class-passed : (before : List ℕ) (c : ℕ) → class_row most before c ≡ 0 → (c ≤ most) × (tally (before ++ c ∷ []) ≤ 8)
  unfolding item_row first
  class-passed before c h =
      by (ltb c (most + 1))
      (λ u. by (ltb 8 (tally (before ++ c ∷ [])))
      (λ w. absurd (let z : 8 ≡ 0 = rw (u, w) at h in omega arith))
      (λ w. (omega (arith, ltb-true c (most + 1) u), ltb-false 8 (tally (before ++ c ∷ [])) w)))
      (λ u. absurd (let z : 7 ≡ 0 = rw u at h in omega arith))

  -- all the classes
  pub classes_pass : (cs : List ℕ) → ((i : ℕ) → i < length cs → get_or cs i 0 ≤ most) → tally cs ≤ 8 → Passes (class_row most) [] cs
  classes_pass cs f t i h =
      class-passes (take i cs) (get_or cs i 0) (f i h) (rw (← take-suc cs i 0 h) (omega (arith, tally-front (suc i) cs h)))

  pub classes-tally : (cs : List ℕ) → 1 ≤ length cs → Passes (class_row most) [] cs → tally cs ≤ 8
  classes-tally cs h p =
      let i : ℕ = length cs - 1 in
      let last : i < length cs = omega arith in
      rw (← take-suc cs i 0 last, take_all (suc i) cs (omega arith)) at (class-passed (take i cs) (get_or cs i 0) (p i last)).1
