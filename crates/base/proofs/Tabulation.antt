-- Laws of `tabulate` and `blocks`.
use Prim.Native.Nat.{ℕ, zero, suc, ◌+◌, ◌*◌, ◌<◌}
use mathlib.Core.Path.{◌≡◌, refl, sym, ◌∙◌, ap}
use mathlib.Core.List.{List, [], ◌∷◌, ◌++◌}
use native.Mathlib.Nat.{zero-mul, suc-mul}
use native.Mathlib.Numerals.{add-one}
use native.Mathlib.Omega.{arith}
use lib.ListN.{length, get_or, length-append, get_or-append}
use lib.Seq.{get_or_at, get_or-append-add}
use lib.Arith.{digits_lt}
use lib.Dec.{ltb}
use borrow.Author.Tests.{ltb-true, ltb-false}
use Rattle.base.specs.Tabulate.{tabulate, blocks}
use Rattle.base.proofs.Bools.{by}

pub tabulate-length : (n : ℕ) (f : ℕ → ℕ) → length (tabulate n f) ≡ n
unfolding tabulate
tabulate-length zero f = refl
tabulate-length (suc n) f = length-append (tabulate n f) (f n ∷ []) ∙ omega (arith, tabulate-length n f)

pub tabulate-more : (n : ℕ) (f : ℕ → ℕ) → tabulate (n + 1) f ≡ tabulate n f ++ f n ∷ []
unfolding tabulate
tabulate-more n f = rw (add-one n)

pub tabulate-at : (n : ℕ) (f : ℕ → ℕ) (i : ℕ) → i < n → get_or (tabulate n f) i 0 ≡ f i
unfolding tabulate
tabulate-at zero f i h = absurd (omega arith)
tabulate-at (suc n) f i h =
    let long : length (tabulate n f) ≡ n = tabulate-length n f in
    by (ltb i n)
    (λ u. let l : i < n = ltb-true i n u in get_or-append (tabulate n f) (f n ∷ []) 0 i (omega arith) ∙ tabulate-at n f i l)
    (λ u.
    let e : i ≡ n = omega (arith, ltb-false i n u) in
    get_or_at (tabulate n f) (f n) [] 0 i (omega arith) ∙ ap f (sym e))

pub blocks_more : (n : ℕ) (f : ℕ → List ℕ) → blocks (n + 1) f ≡ blocks n f ++ f n
unfolding blocks
blocks_more n f = rw (add-one n)

-- blocks of one width
module _ (w : ℕ) (f : ℕ → List ℕ) (wide : (r : ℕ) → length (f r) ≡ w) where
  pub blocks-length : (n : ℕ) → length (blocks n f) ≡ n * w
  unfolding blocks
  blocks-length zero = sym (zero-mul w)
  blocks-length (suc n) = length-append (blocks n f) (f n) ∙ omega (arith, blocks-length n, wide n, suc-mul n w)

  pub blocks_at : (n r e : ℕ) → r < n → e < w → get_or (blocks n f) (r * w + e) 0 ≡ get_or (f r) e 0
  unfolding blocks
  blocks_at zero r e h l = absurd (omega arith)
  blocks_at (suc n) r e h l =
      let long : length (blocks n f) ≡ n * w = blocks-length n in
      by (ltb r n)
      (λ u.
      let s : r < n = ltb-true r n u in
      get_or-append (blocks n f) (f n) 0 (r * w + e) (omega (arith, digits_lt s l)) ∙ blocks_at n r e s l)
      (λ u.
      let s : r ≡ n = omega (arith, ltb-false r n u) in
      let at : r * w + e ≡ length (blocks n f) + e = rw (s, long) in
      ap (λ i. get_or (blocks n f ++ f n) i 0) at ∙ get_or-append-add (blocks n f) (f n) e 0 ∙ ap (λ q. get_or (f q) e 0) (sym s))
