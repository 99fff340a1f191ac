-- Laws of storing one text behind the other.
use Prim.Native.Nat.{ℕ, ◌+◌, ◌<◌, ◌≤◌}
use mathlib.Core.Path.{◌≡◌, refl, ◌∙◌, ap}
use mathlib.Core.List.{List, [], ◌∷◌, ◌++◌}
use native.Mathlib.Omega.{arith}
use lib.ListN.{length, set, take, drop, length-append}
use lib.Seq.{length-sets, sets-eq, take_at, length-take-le}
use Rattle.base.proofs.Stores.{sets_join}
use Rattle.text.specs.Decimal.{Appended}

-- the length is kept
pub kept : {out₀ : List ℕ} {at : ℕ} {p out₁ : List ℕ} {n : ℕ} → Appended out₀ at p out₁ n → length out₁ ≡ length out₀
kept {out₀} {at} {p} x = ap length x.content ∙ length-sets out₀ at p

-- one text, then another
pub behind : {out₀ : List ℕ} {at : ℕ} {p out₁ : List ℕ} {n₁ : ℕ} {q out₂ : List ℕ} {n₂ : ℕ}
    → Appended out₀ at p out₁ n₁ → Appended out₁ n₁ q out₂ n₂ → Appended out₀ at (p ++ q) out₂ n₂
behind {out₀} {at} {p} {out₁} {n₁} {q} {out₂} {n₂} x y =
    record {
      content = y.content ∙ rw (x.content, x.place) (sets_join out₀ at p q);
      place = rw (length-append p q) (omega (arith, x.place, y.place));
      inside = omega (arith, y.inside, kept x);
    }

-- the same text, said otherwise
pub said : {out₀ : List ℕ} {at : ℕ} {p q out₁ : List ℕ} {n : ℕ} → p ≡ q → Appended out₀ at p out₁ n → Appended out₀ at q out₁ n
said e x = rw e at x

-- nothing
pub nothing : (out : List ℕ) → Appended out 0 [] out 0
nothing out = record { content = refl; place = refl; inside = omega arith }

-- one byte
pub one_byte : (out : List ℕ) (at b : ℕ) → at < length out → Appended out at (b ∷ []) (set out at b) (at + 1)
one_byte out at b h = record { content = refl; place = refl; inside = omega arith }

-- room for a text in two parts, after the first
pub room-left : {out₀ : List ℕ} {at : ℕ} {p out₁ : List ℕ} {n : ℕ} (q : List ℕ) → Appended out₀ at p out₁ n
    → at + length (p ++ q) ≤ length out₀ → n + length q ≤ length out₁
room-left {out₀} {at} {p} {out₁} {n} q x h = omega (arith, length-append p q, kept x, x.place)

-- a text at the front
module _ {out₀ p out₁ : List ℕ} {n : ℕ} (x : Appended out₀ 0 p out₁ n) where
  pub front-within : n ≤ length out₁
  front-within = omega (arith, x.inside, kept x)

  pub front_length : length (take n out₁) ≡ n
  front_length = length-take-le n out₁ front-within

  pub front-is : take n out₁ ≡ p
  front-is =
      rw (x.content, sets-eq p out₀ 0 (omega (arith, x.place, x.inside)))
      (take_at p (drop (0 + length p) out₀) n (omega (arith, x.place)))
