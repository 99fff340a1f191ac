-- Laws of a list of symbols, each with a space before it.
use Prim.Native.Nat.{ℕ, ◌+◌, ◌*◌, ◌<◌, ◌≤◌}
use mathlib.Core.Path.{◌≡◌, refl, sym, ◌∙◌, ap}
use mathlib.Core.List.{List, [], ◌∷◌, ◌++◌, append_assoc, append-nil}
use native.Mathlib.Numerals.{add-one}
use native.Mathlib.Omega.{arith}
use lib.ListN.{length, get_or, take}
use lib.Seq.{take-suc, take_all}
use Rattle.text.specs.Decimal.{ascii, decimal, Appended}
use Rattle.day_lines.specs.StatusLines.{spaced, emission}
use Rattle.text.proofs.Digits.{byte_length}
use Rattle.text.proofs.Appending.{behind, said}

spaced-append : (p q : List ℕ) → spaced (p ++ q) ≡ spaced p ++ spaced q
unfolding spaced
spaced-append [] q = refl
spaced-append (e ∷ p) q =
    ap (λ l. ascii " " ++ (decimal e ++ l)) (spaced-append p q) ∙
    ap (λ l. ascii " " ++ l) (sym (append_assoc (decimal e) (spaced p) (spaced q))) ∙
    sym (append_assoc (ascii " ") (decimal e ++ spaced p) (spaced q))

-- one more symbol
pub one_more : (list : List ℕ) (i : ℕ) → i < length list
    → spaced (take (i + 1) list) ≡ spaced (take i list) ++ (32 ∷ decimal (get_or list i 0))
unfolding spaced ascii
one_more list i h =
    rw (add-one i, take-suc list i 0 h)
    (spaced-append (take i list) (get_or list i 0 ∷ []) ∙
    ap (λ l. spaced (take i list) ++ (32 ∷ l)) (append-nil (decimal (get_or list i 0))))

-- the loop over the symbols
pub record Spacing (list out₀ : List ℕ) (at : ℕ) (out : List ℕ) (place i : ℕ) : Type 0 where
  pub within : i ≤ length list
  pub near : place ≤ at + 4 * i
  pub so_far : Appended out₀ at (spaced (take i list)) out place

pub spacing_begins : (list out : List ℕ) (at : ℕ) → at ≤ length out → Spacing list out at out at 0
unfolding spaced
spacing_begins list out at h =
    record { within = omega arith; near = omega arith; so_far = record { content = refl; place = omega arith; inside = h } }

module _ {list out₀ : List ℕ} {at : ℕ} {out : List ℕ} {place i : ℕ} (g : Spacing list out₀ at out place i) where
  pub spacing_goes_on : {out' : List ℕ} {next : ℕ} → i < length list → get_or list i 0 < 256
      → Appended out place (32 ∷ decimal (get_or list i 0)) out' next → Spacing list out₀ at out' next (i + 1)
  spacing_goes_on h byte x =
      record {
        within = omega arith;
        near = omega (arith, x.place, g.near, byte_length (get_or list i 0) byte);
        so_far = said (sym (one_more list i h)) (behind g.so_far x);
      }

  pub spacing_done : length list ≤ i → Appended out₀ at (spaced list) out place × (place ≤ at + 4 * length list)
  spacing_done h =
      (said (ap spaced (take_all i list h)) g.so_far, omega (arith, g.within, g.near))

-- none, or some
pub emission-none : (list : List ℕ) → length list ≡ 0 → ascii " -" ≡ emission list
unfolding emission
emission-none [] h = refl
emission-none (e ∷ list) h = absurd (omega arith)

pub emission-some : (list : List ℕ) → (length list ≡ 0 → ⊥) → spaced list ≡ emission list
unfolding emission
emission-some [] h = absurd (h refl)
emission-some (e ∷ list) h = refl
