-- Lists of which a front part is replaced, and sums over the clients.
use Prim.Native.Nat.{ℕ, zero, suc, ◌+◌, ◌<◌, ◌≤◌}
use mathlib.Core.Path.{◌≡◌, refl, ◌∙◌, ap, ap₂}
use mathlib.Core.List.{List, [], ◌∷◌, ◌++◌}
use native.Mathlib.Omega.{arith}
use lib.ListN.{length, get_or, take, drop, length-take, take-append-drop, get_or-append}
use lib.Seq.{get_or-take}
use lib.Dec.{eqb}
use borrow.Author.Tests.{eqb-true, eqb-false}
use Rattle.base.proofs.Bools.{by}
use Rattle.clients_answers.specs.Claims.{sum_below}

module _ {C : Type 0} where
  past-front : (xs ys zs : List C) (g : ℕ) (d : C) → length xs ≡ length ys → length xs ≤ g → get_or (xs ++ zs) g d ≡ get_or (ys ++ zs) g d
  past-front [] [] zs g d e l = refl
  past-front [] (y ∷ ys) zs g d e l = absurd (omega arith)
  past-front (x ∷ xs) [] zs g d e l = absurd (omega arith)
  past-front (x ∷ xs) (y ∷ ys) zs zero d e l = absurd (omega arith)
  past-front (x ∷ xs) (y ∷ ys) zs (suc g) d e l = past-front xs ys zs g d (omega arith) (omega arith)

  -- a lent front part comes back as ds: what was not lent is as it was
  module _ (n : ℕ) (cs ds : List C) (g : ℕ) (d : C) (e : length ds ≡ length (take n cs)) where
    pub not-lent : length (take n cs) ≤ g → get_or (ds ++ drop n cs) g d ≡ get_or cs g d
    not-lent l = past-front ds (take n cs) (drop n cs) g d e (omega arith) ∙ ap (λ xs. get_or xs g d) (take-append-drop n cs)

    pub was_lent : g < length (take n cs) → get_or (ds ++ drop n cs) g d ≡ get_or ds g d
    was_lent l = get_or-append ds (drop n cs) d g (omega arith)

  pub lent_at : (n : ℕ) (cs : List C) (g : ℕ) (d : C) → g < length (take n cs) → get_or (take n cs) g d ≡ get_or cs g d
  lent_at n cs g d l = get_or-take n cs g d (omega (arith, length-take n cs))

-- sums of the same parts
pub sum_same : (n : ℕ) (f h : ℕ → ℕ) → ((g : ℕ) → g < n → f g ≡ h g) → sum_below n f ≡ sum_below n h
unfolding sum_below
sum_same zero f h s = refl
sum_same (suc n) f h s = ap₂ ◌+◌ (sum_same n f h (λ g l. s g (omega arith))) (s n (omega arith))

-- .. but for d more at i
pub sum_more : (n i d : ℕ) (f h : ℕ → ℕ) → i < n → ((g : ℕ) → g < n → (g ≡ i → ⊥) → f g ≡ h g) → f i ≡ d + h i → sum_below n f ≡ d + sum_below n h
unfolding sum_below
sum_more zero i d f h l s e = absurd (omega arith)
sum_more (suc n) i d f h l s e =
    by (eqb n i)
    (λ q.
    let z = eqb-true n i q in
    let same = sum_same n f h (λ g m. s g (omega arith) (λ k. absurd (omega arith))) in
    let last : f n ≡ d + h n = rw z e in
    omega arith)
    (λ q.
    let z = eqb-false n i q in
    let more = sum_more n i d f h (omega arith) (λ g m k. s g (omega arith) k) e in
    let last = s n (omega arith) z in
    omega arith)

pub sum-none : (n : ℕ) → sum_below n (λ g. 0) ≡ 0
unfolding sum_below
sum-none zero = refl
sum-none (suc n) = omega (arith, sum-none n)
