-- Front parts of a list, by their own length.
use Prim.Native.Nat.{ℕ, zero, suc, ◌≤◌}
use mathlib.Core.Path.{◌≡◌, refl, ap}
use mathlib.Core.List.{List, [], ◌∷◌}
use native.Mathlib.Omega.{arith}
use lib.ListN.{length, take}

pub part_length : (n : ℕ) (l : List ℕ) → length (take n l) ≤ length l
part_length zero l = omega arith
part_length (suc n) [] = omega arith
part_length (suc n) (x ∷ l) = omega (arith, part_length n l)

pub take_part : (n : ℕ) (l : List ℕ) → take (length (take n l)) l ≡ take n l
take_part zero l = refl
take_part (suc n) [] = refl
take_part (suc n) (x ∷ l) = ap (λ k. x ∷ k) (take_part n l)
