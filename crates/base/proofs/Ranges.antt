-- Laws of `each` and `count`.
use Prim.Native.Nat.{ℕ, zero, suc, ◌+◌, ◌*◌, ◌<◌, ◌≤◌}
use mathlib.Core.Path.{◌≡◌, refl, sym, ◌∙◌, ap, ap₂}
use mathlib.Core.Bool.{Bool, true, false, not, ◌&&◌, cond, and_assoc, and-true}
use native.Mathlib.Nat.{add-zero, add-suc, zero-mul, suc-mul}
use native.Mathlib.Numerals.{add-one}
use native.Mathlib.Omega.{arith}
use lib.Dec.{eqb}
use borrow.Author.Tests.{eqb-true, eqb-false}
use Rattle.base.specs.Each.{each, count}
use Rattle.base.proofs.Bools.{by, either, clash, and_left, and_right, and_both, and_none, and-right_false}

-- the test at one number
pub each_at : (n : ℕ) (p : ℕ → Bool) → each n p ≡ true → (k : ℕ) → k < n → p k ≡ true
unfolding each
each_at zero p h k l = absurd (omega arith)
each_at (suc n) p h k l =
    by (eqb k n)
    (λ e. rw (eqb-true k n e) (and_right (each n p) (p n) h))
    (λ e. each_at n p (and_left (each n p) (p n) h) k (omega (arith, eqb-false k n e)))

pub each_all : (n : ℕ) (p : ℕ → Bool) → ((k : ℕ) → k < n → p k ≡ true) → each n p ≡ true
unfolding each
each_all zero p h = refl
each_all (suc n) p h = and_both (each_all n p (λ k l. h k (omega arith))) (h n (omega arith))

-- a number that fails
pub each_fails : (n : ℕ) (p : ℕ → Bool) → each n p ≡ false → (k : ℕ) × (k < n) × (p k ≡ false)
unfolding each
each_fails zero p h = absurd (clash refl h)
each_fails (suc n) p h =
    either (and_none (each n p) (p n) h)
    (λ e. let r = each_fails n p e in (r.0, omega arith, r.2))
    (λ e. (n, omega arith, e))

pub each_false : (n : ℕ) (p : ℕ → Bool) (k : ℕ) → k < n → p k ≡ false → each n p ≡ false
each_false n p k l h = by (each n p) (λ e. absurd (clash (each_at n p e k l) h)) (λ e. e)

-- one more number, as a loop counts
pub each_more : (n : ℕ) (p : ℕ → Bool) → each (n + 1) p ≡ (each n p && p n)
unfolding each
each_more n p = rw (add-one n)

-- a flag that falls once a test fails
module _ (p : ℕ → Bool) (i : ℕ) (fine : Bool) (so_far : fine ≡ each i p) where
  pub each_falls : p i ≡ false → false ≡ each (i + 1) p
  each_falls h = sym (each_more i p ∙ and-right_false (each i p) h)

  pub each_keeps : p i ≡ true → fine ≡ each (i + 1) p
  each_keeps h = so_far ∙ sym (each_more i p ∙ ap (λ b. each i p && b) h ∙ and-true (each i p))

-- the same test below n
pub each_same : (n : ℕ) (p r : ℕ → Bool) → ((k : ℕ) → k < n → p k ≡ r k) → each n p ≡ each n r
unfolding each
each_same zero p r h = refl
each_same (suc n) p r h = ap₂ ◌&&◌ (each_same n p r (λ k l. h k (omega arith))) (h n (omega arith))

-- in two parts
pub each_split : (n m : ℕ) (p : ℕ → Bool) → each (n + m) p ≡ (each n p && each m (λ k. p (n + k)))
unfolding each
each_split n zero p = rw (add-zero n) (sym (and-true (each n p)))
each_split n (suc m) p =
    rw (add-suc n m) (ap (λ b. b && p (n + m)) (each_split n m p) ∙ and_assoc (each n p) (each m (λ k. p (n + k))) (p (n + m)))

-- blocks of equal width, as one
pub each-pairs : (w k : ℕ) (p : ℕ → Bool) → each k (λ q. each w (λ e. p (q * w + e))) ≡ each (k * w) p
unfolding each
each-pairs w zero p = rw (zero-mul w)
each-pairs w (suc k) p =
    ap (λ b. b && each w (λ e. p (k * w + e))) (each-pairs w k p) ∙ sym (each_split (k * w) w p) ∙ ap (λ n. each n p) (sym (suc-mul k w))

pub count-more : (n : ℕ) (p : ℕ → Bool) → count (n + 1) p ≡ count n p + cond (p n) 1 0
unfolding count
count-more n p = rw (add-one n)

-- a count that grows where a test holds
module _ (p : ℕ → Bool) (i n : ℕ) (so_far : n ≡ count i p) where
  pub count_adds : p i ≡ true → n + 1 ≡ count (i + 1) p
  count_adds h = sym (count-more i p ∙ rw (h, ← so_far))

  pub count_skips : p i ≡ false → n ≡ count (i + 1) p
  count_skips h = sym (count-more i p ∙ rw (h, ← so_far) (omega arith))

pub count-max : (n : ℕ) (p : ℕ → Bool) → count n p ≤ n
unfolding count
count-max zero p = omega arith
count-max (suc n) p = by (p n) (λ e. rw e (omega (arith, count-max n p))) (λ e. rw e (omega (arith, count-max n p)))

pub count_same : (n : ℕ) (p r : ℕ → Bool) → ((k : ℕ) → k < n → p k ≡ r k) → count n p ≡ count n r
unfolding count
count_same zero p r h = refl
count_same (suc n) p r h = ap₂ ◌+◌ (count_same n p r (λ k l. h k (omega arith))) (ap (λ b. cond b 1 0) (h n (omega arith)))

-- fewer numbers where p holds only where r does, ..
pub count_mono : (n : ℕ) (p r : ℕ → Bool) → ((k : ℕ) → k < n → p k ≡ true → r k ≡ true) → count n p ≤ count n r
unfolding count
count_mono zero p r h = omega arith
count_mono (suc n) p r h =
    let c = count_mono n p r (λ k l. h k (omega arith)) in
    by (p n) (λ e. rw (e, h n (omega arith) e) (omega arith)) (λ e. rw e (omega arith))

-- .. and not everywhere
pub count_fewer : (n : ℕ) (p r : ℕ → Bool) → ((k : ℕ) → k < n → p k ≡ true → r k ≡ true) → (k : ℕ) → k < n → r k ≡ true → p k ≡ false
    → count n p < count n r
unfolding count
count_fewer zero p r h k l a b = absurd (omega arith)
count_fewer (suc n) p r h k l a b =
    by (eqb k n)
    (λ e. let g = eqb-true k n e in
    let a' : r n ≡ true = rw g at a in
    let b' : p n ≡ false = rw g at b in
    rw (a', b') (omega (arith, count_mono n p r (λ k l. h k (omega arith)))))
    (λ e. let c = count_fewer n p r (λ k l. h k (omega arith)) k (omega (arith, eqb-false k n e)) a b in
    by (p n) (λ f. rw (f, h n (omega arith) f) (omega arith)) (λ f. rw f (omega arith)))

-- more numbers, no fewer of them
pub count_longer : (n m : ℕ) (p : ℕ → Bool) → n ≤ m → count n p ≤ count m p
unfolding count
count_longer n zero p h = let e : n ≡ 0 = omega arith in rw e (omega arith)
count_longer n (suc m) p h =
    by (eqb n (suc m))
    (λ t. rw (eqb-true n (suc m) t) (omega arith))
    (λ t. omega (arith, count_longer n m p (omega (arith, eqb-false n (suc m) t))))

-- a test holds of a number or it does not
pub count-not : (n : ℕ) (p : ℕ → Bool) → count n p + count n (λ k. not (p k)) ≡ n
unfolding count
count-not zero p = omega arith
count-not (suc n) p = by (p n) (λ e. rw e (omega (arith, count-not n p))) (λ e. rw e (omega (arith, count-not n p)))
