-- Laws of sets as numbers.
use Prim.Native.Nat.{ℕ, zero, suc, ◌+◌, ◌-◌, ◌*◌, ◌/◌, ◌%◌, ◌^◌, ◌<◌, ◌≤◌}
use mathlib.Core.Path.{◌≡◌, refl, sym, ◌∙◌, ap}
use mathlib.Core.Bool.{Bool, true, false, not, ◌&&◌, ◌||◌, cond}
use native.Mathlib.Nat.{zero-div, mod-le, mod-one, mod-eq_of_lt, div-eq_of_lt}
use native.Mathlib.Numerals.{add-one, one-add}
use native.Mathlib.Omega.{arith}
use lib.Dec.{eqb, ltb}
use lib.Pow.{pow_mono, high, low, field, mod-mod-pow, mod-pow-add}
use lib.Bits.{bit_or, or_shr, or_mod}
use borrow.Author.Tests.{eqb-true, eqb-false, ltb-true, ltb-false, not-false}
use Rattle.base.specs.Each.{each, count}
use Rattle.base.specs.Masks.{has, mask}
use Rattle.base.proofs.Bools.{by, clash, and_left, and_right, or_neither, same_test}
use Rattle.base.proofs.Ranges.{each_at, each_fails, count_same, count_fewer}

-- the empty set
pub has-nothing : (q : ℕ) → has 0 q ≡ false
unfolding has
has-nothing q = rw (zero-div (2 ^ q))

-- a number below 2 ^ n has no states from n on
pub has_beyond : (n x q : ℕ) → x < 2 ^ n → n ≤ q → has x q ≡ false
unfolding has
has_beyond n x q h l =
    let e : x / 2 ^ q ≡ 0 = div-eq_of_lt (omega (arith, pow_mono l)) in
    rw e

-- the states below n do not see what stands from n on
pub has-mod : (n x q : ℕ) → q < n → has (x % 2 ^ n) q ≡ has x q
unfolding has
has-mod n x q l =
    let e : n ≡ n - q - 1 + 1 + q = omega arith in
    ap (λ k. eqb (x % 2 ^ k / 2 ^ q % 2) 1) e ∙
    ap (λ y. eqb (y % 2) 1) (field x (n - q - 1 + 1) q) ∙
    ap (λ y. eqb y 1) (mod-mod-pow (x / 2 ^ q) (n - q - 1) 1)

-- state n added, or not, to states below n
module _ (n x : ℕ) (h : x < 2 ^ n) where
  abbrev plus : Bool → ℕ
  plus b = x + cond b (2 ^ n) 0

  parts : (b : Bool) → plus b ≡ cond b 1 0 * 2 ^ n + x
  parts true = omega arith
  parts false = omega arith

  pub has-added : (b : Bool) → has (plus b) n ≡ b
  unfolding has
  has-added b = ap (λ y. eqb (y / 2 ^ n % 2) 1) (parts b) ∙ ap (λ y. eqb (y % 2) 1) (high (cond b 1 0) n h) ∙ bit b
    where
      bit : (b : Bool) → eqb (cond b 1 0 % 2) 1 ≡ b
      bit true = refl
      bit false = refl

  pub has-before : (b : Bool) (q : ℕ) → q < n → has (plus b) q ≡ has x q
  has-before b q l =
      sym (has-mod n (plus b) q l) ∙ ap (λ y. has (y % 2 ^ n) q) (parts b) ∙ ap (λ y. has y q) (low (cond b 1 0) n h)

  pub added_lt : (b : Bool) → plus b < 2 ^ suc n
  added_lt true = omega arith
  added_lt false = omega arith

-- the set of one state
pub has_one : (n q : ℕ) → has (2 ^ n) q ≡ true → q ≡ n
has_one n q h =
    let start : 0 ≤ n = omega arith in
    let some : 0 < 2 ^ n = omega (arith, pow_mono start) in
    by (ltb q n)
    (λ l.
    let e : 2 ^ n ≡ 0 + 2 ^ n = omega arith in
    absurd (clash h (ap (λ y. has y q) e ∙ has-before n 0 some true q (ltb-true q n l) ∙ has-nothing q)))
    (λ l.
    by (ltb n q)
    (λ m. absurd (clash h (has_beyond (suc n) (2 ^ n) q (omega (arith, added_lt n 0 some true)) (ltb-true n q m))))
    (λ m. omega (arith, ltb-false q n l, ltb-false n q m)))

pub mask_lt : (n : ℕ) (p : ℕ → Bool) → mask n p < 2 ^ n
unfolding mask
mask_lt zero p = omega arith
mask_lt (suc n) p = added_lt n (mask n p) (mask_lt n p) (p n)

-- one more state, as a loop adds it
pub mask-more : (n : ℕ) (p : ℕ → Bool) → mask (n + 1) p ≡ mask n p + cond (p n) (2 ^ n) 0
unfolding mask
mask-more n p = rw (add-one n)

module _ (n : ℕ) (p : ℕ → Bool) (x : ℕ) (so_far : x ≡ mask n p) where
  pub mask_adds : {b : ℕ} → b ≡ 2 ^ n → p n ≡ true → x + b ≡ mask (n + 1) p
  mask_adds e h = sym (mask-more n p ∙ rw (h, e, so_far))

  pub mask-passes : p n ≡ false → x ≡ mask (n + 1) p
  mask-passes h = so_far ∙ sym (mask-more n p ∙ rw h (omega arith))

  pub mask-room : {b : ℕ} (m : ℕ) → n < m → b ≡ 2 ^ n → x + b < 2 ^ m
  mask-room {b} m l e = let k : suc n ≤ m = omega arith in omega (arith, mask_lt n p, pow_mono k)

inside : (n : ℕ) (p : ℕ → Bool) (q : ℕ) → q < n → has (mask n p) q ≡ p q
unfolding mask
inside zero p q l = absurd (omega arith)
inside (suc n) p q l =
    by (eqb q n)
    (λ e. rw (eqb-true q n e) (has-added n (mask n p) (mask_lt n p) (p n)))
    (λ e. let l' : q < n = omega (arith, eqb-false q n e) in has-before n (mask n p) (mask_lt n p) (p n) q l' ∙ inside n p q l')

pub has-mask : (n : ℕ) (p : ℕ → Bool) (q : ℕ) → has (mask n p) q ≡ (ltb q n && p q)
has-mask n p q =
    by (ltb q n)
    (λ e. rw e (inside n p q (ltb-true q n e)))
    (λ e. rw e (has_beyond n (mask n p) q (mask_lt n p) (ltb-false q n e)))

-- membership, both ways
module _ (n : ℕ) (p : ℕ → Bool) (q : ℕ) where
  pub mask_in : has (mask n p) q ≡ true → (q < n) × (p q ≡ true)
  mask_in h =
      let g = sym (has-mask n p q) ∙ h in
      (ltb-true q n (and_left (ltb q n) (p q) g), and_right (ltb q n) (p q) g)

  pub in-mask : q < n → p q ≡ true → has (mask n p) q ≡ true
  in-mask l h = inside n p q l ∙ h

  pub mask-out : q < n → has (mask n p) q ≡ false → p q ≡ false
  mask-out l h = sym (inside n p q l) ∙ h

-- the same states below n
pub mask-same : (n : ℕ) (p r : ℕ → Bool) → ((q : ℕ) → q < n → p q ≡ r q) → mask n p ≡ mask n r
unfolding mask
mask-same zero p r h = refl
mask-same (suc n) p r h = rw (mask-same n p r (λ q l. h q (omega arith)), h n (omega arith))

-- one state less
pub mask-without : (n : ℕ) (p r : ℕ → Bool) (q : ℕ) → q < n → p q ≡ true → r q ≡ false → ((k : ℕ) → (k ≡ q → ⊥) → p k ≡ r k) → mask n p ≡ mask n r + 2 ^ q
unfolding mask
mask-without zero p r q l h g same = absurd (omega arith)
mask-without (suc n) p r q l h g same =
    by (eqb q n)
    (λ e. let f = eqb-true q n e in
    let h' : p n ≡ true = rw f at h in
    let g' : r n ≡ false = rw f at g in
    rw (f, h', g', mask-same n p r (λ k b. same k (λ x. omega arith))) (omega arith))
    (λ e. let f = eqb-false q n e in
    rw (same n (λ x. f (sym x))) (omega (arith, mask-without n p r q (omega arith) h g same)))

-- a number is the mask of what it has
digit : (y m : ℕ) → y < 2 → cond (eqb y 1) m 0 ≡ y * m
digit zero m h = omega arith
digit (suc zero) m h = omega arith
digit (suc (suc y)) m h = absurd (omega arith)

pub mask-has : (n x : ℕ) → mask n (has x) ≡ x % 2 ^ n
unfolding mask has
mask-has zero x = sym (mod-one x)
mask-has (suc n) x =
    let split : x % 2 ^ suc n ≡ x / 2 ^ n % 2 * 2 ^ n + x % 2 ^ n = rw (← one-add n) (mod-pow-add x 1 n) in
    omega (arith, mask-has n x, digit (x / 2 ^ n % 2) (2 ^ n) (omega arith))

-- two sets with the same states are equal
pub same_set : (n x y : ℕ) → x < 2 ^ n → y < 2 ^ n → ((q : ℕ) → q < n → has x q ≡ has y q) → x ≡ y
same_set n x y a b h =
    sym (mod-eq_of_lt a) ∙ sym (mask-has n x) ∙ mask-same n (has x) (has y) h ∙ mask-has n y ∙ mod-eq_of_lt b

-- a part is at most the whole, ..
pub mask_mono : (n : ℕ) (p r : ℕ → Bool) → ((q : ℕ) → q < n → p q ≡ true → r q ≡ true) → mask n p ≤ mask n r
unfolding mask
mask_mono zero p r h = omega arith
mask_mono (suc n) p r h =
    let m = mask_mono n p r (λ q l. h q (omega arith)) in
    by (p n) (λ e. rw (e, h n (omega arith) e) (omega arith)) (λ e. rw e (omega arith))

pub mask-part : (n x : ℕ) (p : ℕ → Bool) → mask n (λ q. has x q && p q) ≤ x
mask-part n x p =
    omega (arith, mask_mono n (λ q. has x q && p q) (has x) (λ q _ h. and_left (has x q) (p q) h), mask-has n x, mod-le x (2 ^ n))

-- .. and one that is not the whole lacks a state of it
pub lacks : (n x y : ℕ) → x < 2 ^ n → y < 2 ^ n → ((q : ℕ) → has y q ≡ true → has x q ≡ true) → (y ≡ x → ⊥)
    → (q : ℕ) × (q < n) × (has x q ≡ true) × (has y q ≡ false)
lacks n x y a b part ne =
    by (each n (λ q. not (has x q) || has y q))
    (λ e. absurd (ne (same_set n y x b a λ q l. same_test (has y q) (has x q) (part q) (λ h. rw h at (each_at n (λ q. not (has x q) || has y q) e q l)))))
    (λ e.
    let r = each_fails n (λ q. not (has x q) || has y q) e in
    let o = or_neither (not (has x r.0)) (has y r.0) r.2 in
    (r.0, r.1, not-false (has x r.0) o.0, o.1))

-- the union
pub has-or : (x y q : ℕ) → has (bit_or x y) q ≡ (has x q || has y q)
unfolding has
has-or x y q =
    ap (λ z. eqb (z % 2) 1) (or_shr x y q) ∙
    ap (λ z. eqb z 1) (or_mod (x / 2 ^ q) (y / 2 ^ q) 1) ∙
    bits (x / 2 ^ q % 2) (y / 2 ^ q % 2) (omega arith) (omega arith)
  where
    bits : (v w : ℕ) → v < 2 → w < 2 → eqb (bit_or v w) 1 ≡ (eqb v 1 || eqb w 1)
    bits zero w h k = refl
    bits (suc zero) zero h k = refl
    bits (suc zero) (suc zero) h k = refl
    bits (suc zero) (suc (suc w)) h k = absurd (omega arith)
    bits (suc (suc v)) w h k = absurd (omega arith)

-- a part that is not the whole has fewer states
pub fewer_states : (n x y : ℕ) → x < 2 ^ n → y < 2 ^ n → ((q : ℕ) → has y q ≡ true → has x q ≡ true) → (y ≡ x → ⊥)
    → count n (has y) < count n (has x)
fewer_states n x y a b part ne =
    let d = lacks n x y a b part ne in
    count_fewer n (has y) (has x) (λ q _. part q) d.0 d.1 d.2 d.3

-- as many states as the test has
pub count-mask : (n : ℕ) (p : ℕ → Bool) → count n (has (mask n p)) ≡ count n p
count-mask n p = count_same n (has (mask n p)) p (inside n p)
