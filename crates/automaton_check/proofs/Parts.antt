-- A part of a list that is looked at by itself.
use Rattle.std.proofs.Common.{◌≡◌, ◌+◌, ◌≤◌, ℕ, List, length, take, drop, get_or, ltb, zero-add, arith}
use Rattle.std.proofs.lemmas.List.{length-take-le, get_or-take, get_or-drop}
use Rattle.std.proofs.Math.ListN.{length-drop}
use Rattle.base.proofs.Ranges.{each_same}
use Rattle.automaton.specs.Arrays.{below_from}

module _ (l : List ℕ) (used limit : ℕ) where
  pub below_front : used ≤ length l → below_from (take used l) 0 (length (take used l)) limit ≡ below_from l 0 used limit
  unfolding below_from
  below_front h =
      rw (length-take-le used l h)
      (each_same used (λ i. ltb (get_or (take used l) (0 + i) 0) limit) (λ i. ltb (get_or l (0 + i) 0) limit)
      (λ i k. rw (zero-add i, get_or-take used l i 0 k)))

  pub below_part : (count : ℕ) → used + count ≤ length l
      → below_from (take count (drop used l)) 0 (length (take count (drop used l))) limit ≡ below_from l used count limit
  unfolding below_from
  below_part count h =
      rw (length-take-le count (drop used l) (rw (length-drop used l) (omega arith)))
      (each_same count (λ i. ltb (get_or (take count (drop used l)) (0 + i) 0) limit) (λ i. ltb (get_or l (used + i) 0) limit)
      (λ i k. rw (zero-add i, get_or-take count (drop used l) i 0 k, get_or-drop used l i 0)))
