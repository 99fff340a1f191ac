-- Laws of showing a token.
use Prim.Native.Nat.{ℕ, ◌+◌, ◌<◌, ◌≤◌}
use mathlib.Core.Path.{◌≡◌, refl, sym, ◌∙◌, ap}
use mathlib.Core.List.{List, [], ◌∷◌, ◌++◌, map, map-append}
use native.Mathlib.Numerals.{add-one}
use native.Mathlib.Omega.{arith}
use Rattle.std.proofs.Common.{min}
use lib.Dec.{leb}
use borrow.Author.Tests.{leb-true, leb-false}
use Rattle.base.proofs.Bools.{by}
use lib.ListN.{length, get_or, set, take}
use lib.Seq.{take-suc, take_all}
use Rattle.text.specs.Decimal.{Appended}
use Rattle.text.proofs.Appending.{behind, said, kept, one_byte}
use Rattle.notation_faults.specs.Messages.{visible, shown}

-- the first 32 bytes, or all that there are
pub first : (w : List ℕ) (n : ℕ) → n ≡ min (length w) 32 → take n w ≡ take 32 w
first w n e =
    by (leb 32 (length w))
    (λ t. let same : n ≡ 32 = omega (arith, leb-true 32 (length w) t) in ap (λ k. take k w) same)
    (λ t. let l = leb-false 32 (length w) t in take_all n w (omega arith) ∙ sym (take_all 32 w (omega arith)))

-- the loop over the bytes
pub record Showing (w out₀ : List ℕ) (at : ℕ) (out : List ℕ) (i : ℕ) : Type 0 where
  pub inside : i ≤ length w
  pub stored : Appended out₀ at (map visible (take i w)) out (at + i)

pub showing_begins : (w out : List ℕ) (at : ℕ) → at + 32 ≤ length out → Showing w out at out 0
showing_begins w out at h =
    record { inside = omega arith; stored = record { content = refl; place = refl; inside = omega arith } }

module _ {w out₀ : List ℕ} {at : ℕ} {out : List ℕ} {i : ℕ} (g : Showing w out₀ at out i) where
  pub showing_length : length out ≡ length out₀
  showing_length = kept g.stored

  -- the bytes that are shown are the first 32
  pub showing_done : (token : List ℕ) → w ≡ take 32 token → length w ≤ i → Appended out₀ at (shown token) out (at + length w)
  unfolding shown
  showing_done token e h =
      let same : i ≡ length w = omega (arith, g.inside) in
      let all : Appended out₀ at (shown token) out (at + i) = said (ap (map visible) (take_all i w h ∙ e)) g.stored in
      rw same at all

  pub showing_goes_on : i < length w → length w ≤ 32 → at + 32 ≤ length out₀ → (b : ℕ) → b ≡ visible (get_or w i 0)
      → Showing w out₀ at (set out (at + i) b) (i + 1)
  showing_goes_on h l room b e =
      let next : take (i + 1) w ≡ take i w ++ get_or w i 0 ∷ [] = rw (add-one i) (take-suc w i 0 h) in
      let more : map visible (take (i + 1) w) ≡ map visible (take i w) ++ b ∷ [] =
      ap (map visible) next ∙ map-append visible (take i w) (get_or w i 0 ∷ []) ∙ ap (λ x. map visible (take i w) ++ x ∷ []) (sym e) in
      let place : at + (i + 1) ≡ at + i + 1 = omega arith in
      record {
        inside = omega arith;
        stored = rw place (said (sym more) (behind g.stored (one_byte out (at + i) b (omega (arith, showing_length)))));
      }
