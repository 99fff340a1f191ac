-- A number's bytes as std writes and reads them, low byte first.
use Rattle.std.proofs.Common.{◌≡◌, ℕ, zero, suc, ◌+◌, ◌*◌, ◌/◌, ◌%◌, ◌^◌, [], ◌∷◌, refl, sym, ◌∙◌, ap, ap₂, arith}
use Rattle.std.proofs.Math.Nat.{div-one, div-div-eq-div-mul, pow-suc}
use Rattle.std.specs.Int.{w16, w32, w64, bytes_low_first, to_le_bytes, from_le_bytes}
use Rattle.c_layout.specs.Offsets.{place_size, number_size}
use Rattle.c_layout.specs.Layout.{number_bytes, number_of}

low_first : (i k v : ℕ) → bytes_low_first i k v ≡ number_bytes k (v / 256 ^ i)
unfolding number_bytes
low_first i zero v = refl
low_first zero (suc k) v =
    ap₂ (λ b l. b % 256 ∷ l) (sym (div-one v)) (low_first 1 k v ∙ ap (λ x. number_bytes k (x / 256)) (sym (div-one v)))
low_first (suc i) (suc k) v =
    ap (λ l. v / 256 ^ suc i % 256 ∷ l)
    (low_first (suc (suc i)) k v ∙
    ap (number_bytes k) (ap (λ x. v / x) (pow-suc 256 (suc i)) ∙ sym (div-div-eq-div-mul v (256 ^ suc i) 256)))

-- a place's four bytes, a number's eight, and two
pub place-le : (v : ℕ) → to_le_bytes w32 v ≡ number_bytes place_size v
place-le v = low_first 0 4 v ∙ ap (number_bytes 4) (div-one v)

pub number-le : (v : ℕ) → to_le_bytes w64 v ≡ number_bytes number_size v
number-le v = low_first 0 8 v ∙ ap (number_bytes 8) (div-one v)

pub two-le : (v : ℕ) → to_le_bytes w16 v ≡ number_bytes 2 v
two-le v = low_first 0 2 v ∙ ap (number_bytes 2) (div-one v)

-- and the number of four bytes, and of two
pub of-four : (a b c d : ℕ) → from_le_bytes w32 (a ∷ b ∷ c ∷ d ∷ []) ≡ number_of (a ∷ b ∷ c ∷ d ∷ [])
unfolding number_of
of-four a b c d = omega arith

pub of-two : (a b : ℕ) → from_le_bytes w16 (a ∷ b ∷ []) ≡ a + 256 * b
of-two a b = omega arith
