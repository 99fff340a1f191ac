-- A part of a list whose front is stored, as the numbers that are read are.
use Rattle.std.proofs.Common.{◌≡◌, ◌+◌, ◌-◌, ◌≤◌, ℕ, List, [], ◌++◌, length, take, drop, sym, ◌∙◌, ap, arith, append_assoc, zero-add}
use Rattle.std.proofs.lemmas.List.{take-append-drop, drop-append-le, drop-drop, length-take-le}
use Rattle.std.proofs.Math.ListN.{length-drop}
use Rattle.std.proofs.lemmas.List.Edits.{sets, sets-eq}
use Rattle.varint.specs.Varint.{Number}
use Rattle.automaton_format.specs.Reading.{numbers}
use Rattle.automaton_format.proofs.Sections.{numbers_most}
use borrow.Rule.Slice.PartMut.{put_mid, Post-is}

pub numbers_short : (from : ℕ → Number) (check : List ℕ → ℕ → ℕ) (m at : ℕ) → length (numbers from check m [] at).values ≤ m
numbers_short from check m at = omega (arith, numbers_most from check m [] at)

part_stored : (vs z : List ℕ) (from m : ℕ) → length vs ≤ m → from + m ≤ length z
    → take from z ++ (sets (take m (drop from z)) 0 vs ++ drop (from + m) z) ≡ sets z from vs
part_stored vs z from m h k =
    let part : List ℕ = take m (drop from z) in
    let long : length part ≡ m = length-take-le m (drop from z) (rw (length-drop from z) (omega arith)) in
    let inner : sets part 0 vs ≡ vs ++ drop (length vs) part = rw (zero-add (length vs)) at (sets-eq vs part 0 (omega arith)) in
    let rest : drop (from + length vs) z ≡ drop (length vs) part ++ drop (from + m) z =
    sym (drop-drop (length vs) from z) ∙
    ap (drop (length vs)) (sym (take-append-drop m (drop from z))) ∙
    drop-append-le (length vs) part (drop m (drop from z)) (omega arith) ∙
    ap (λ r. drop (length vs) part ++ r) (drop-drop m from z) in
    ap (λ x. take from z ++ (x ++ drop (from + m) z)) inner ∙
    sym (sets-eq vs z from (omega arith) ∙ ap (λ x. take from z ++ vs ++ x) rest ∙ simp append_assoc)

-- the first m places
module _ (z : List ℕ) (m : ℕ) (h : m ≤ length z) where
  pub front_long : length (take m z) ≡ m
  front_long = length-take-le m z h

  pub front_filled : (vs part : List ℕ) → length vs ≤ m → part ≡ sets (take m z) 0 vs → part ++ drop m z ≡ sets z 0 vs
  front_filled vs part l e = ap (λ x. x ++ drop m z) e ∙ (rw (zero-add m) at (part_stored vs z 0 m l (omega arith)))

-- m places from a place on
module _ (z : List ℕ) (from m : ℕ) (h : from + m ≤ length z) where
  count : from + m - from ≡ m
  count = omega arith

  pub part_long : length (take (from + m - from) (drop from z)) ≡ m
  part_long = rw count (length-take-le m (drop from z) (rw (length-drop from z) (omega arith)))

  pub part_filled : (vs part : List ℕ) → length vs ≤ m → part ≡ sets (take (from + m - from) (drop from z)) 0 vs
      → put_mid from (from + m - from) z part ≡ sets z from vs
  part_filled vs part l e =
      ap (λ r. take from z ++ (part ++ r)) (Post-is from (from + m) z (omega arith)) ∙
      rw (e, count) (part_stored vs z from m l h)
