-- Laws of pairs: the second of n states, the first of m.
use Prim.Native.Nat.{ℕ, zero, suc, ◌*◌, ◌/◌, ◌%◌, ◌<◌}
use mathlib.Core.Path.{◌≡◌, subst}
use native.Mathlib.Nat.{mul-zero, mod-lt, div-add-mod', div-lt_iff_lt-mul}
use native.Mathlib.Omega.{arith}
use lib.Arith.{digits_lt, digits_div, digits_mod}
use Rattle.product_rule.specs.Pairs.{pair}

-- the parts of a pair, and its range
module _ (n p q : ℕ) (l : q < n) where
  pub pair-first : pair n p q / n ≡ p
  pair-first = digits_div p l

  pub pair-second : pair n p q % n ≡ q
  pair-second = digits_mod p l

  pub pair-below : (m : ℕ) → p < m → pair n p q < m * n
  pair-below m h = digits_lt h l

-- there is no pair where the second has no state
some-second : (m n r : ℕ) → r < m * n → 0 < n
some-second m zero r h = let none = mul-zero m in absurd (omega arith)
some-second m (suc n) r h = omega arith

-- each number below m * n is that of a pair of states
module _ (m n r : ℕ) (h : r < m * n) where
  pub first_below : r / n < m
  first_below = (div-lt_iff_lt-mul (some-second m n r h)).1 h

  pub second_below : r % n < n
  second_below = mod-lt r (some-second m n r h)

  pub pair_parts : pair n (r / n) (r % n) ≡ r
  pair_parts = div-add-mod' r n

  -- so what holds of each pair holds of it
  pub of_pairs : (P : ℕ → Type 0) → ((p q : ℕ) → p < m → q < n → P (pair n p q)) → P r
  of_pairs P f = subst P pair_parts (f (r / n) (r % n) first_below second_below)
