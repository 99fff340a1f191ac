-- Case analysis on tests.
use Prim.Native.Nat.{ℕ, ◌≤◌}
use mathlib.Core.Path.{◌≡◌, refl, sym, ◌∙◌}
use mathlib.Core.Logic.{◌⊎◌, inl, inr}
use mathlib.Core.Bool.{Bool, true, false, cond, ◌&&◌, ◌||◌}
use native.Mathlib.Omega.{arith}
use lib.Dec.{eqb}

-- by the two values of a test, each remembered
pub by {ℓ} : {A : Type ℓ} (b : Bool) → (b ≡ true → A) → (b ≡ false → A) → A
by true yes' no' = yes' refl
by false yes' no' = no' refl

pub either {ℓ} : {A B : Type 0} {C : Type ℓ} → A ⊎ B → (A → C) → (B → C) → C
either (inl a) f g = f a
either (inr b) f g = g b

pub clash : {b : Bool} → b ≡ true → b ≡ false → ⊥
clash {b} p q = let z : ◌≡◌ {A = ℕ} 0 1 = cc in omega arith

pub refuted : (b : Bool) → (b ≡ true → ⊥) → b ≡ false
refuted b f = by b (λ p. absurd (f p)) (λ p. p)

pub and_left : (a b : Bool) → (a && b) ≡ true → a ≡ true
and_left true b h = refl
and_left false b h = h

pub and_right : (a b : Bool) → (a && b) ≡ true → b ≡ true
and_right true b h = h
and_right false b h = absurd (clash refl (sym h))

pub and-pair : (a b : Bool) → (a && b) ≡ true → (a ≡ true) × (b ≡ true)
and-pair a b h = (and_left a b h, and_right a b h)

pub and_both : {a b : Bool} → a ≡ true → b ≡ true → (a && b) ≡ true
and_both {a} {b} p q = rw (p, q)

pub and_none : (a b : Bool) → (a && b) ≡ false → (a ≡ false) ⊎ (b ≡ false)
and_none true b h = inr h
and_none false b h = inl refl

pub and-left_false : {a : Bool} (b : Bool) → a ≡ false → (a && b) ≡ false
and-left_false b p = rw p

pub and-right_false : (a : Bool) {b : Bool} → b ≡ false → (a && b) ≡ false
and-right_false true p = p
and-right_false false p = refl

pub or_some : (a b : Bool) → (a || b) ≡ true → (a ≡ true) ⊎ (b ≡ true)
or_some true b h = inl refl
or_some false b h = inr h

pub or_left : {a : Bool} (b : Bool) → a ≡ true → (a || b) ≡ true
or_left b p = rw p

pub or_right : (a : Bool) {b : Bool} → b ≡ true → (a || b) ≡ true
or_right true p = refl
or_right false p = p

pub or_neither : (a b : Bool) → (a || b) ≡ false → (a ≡ false) × (b ≡ false)
or_neither true b h = absurd (clash refl h)
or_neither false b h = (refl, h)

-- two tests that hold together are equal
pub same_test : (a b : Bool) → (a ≡ true → b ≡ true) → (b ≡ true → a ≡ true) → a ≡ b
same_test a b f g = by a (λ p. p ∙ sym (f p)) (λ p. by b (λ q. absurd (clash (g q) p)) (λ q. p ∙ sym q))

-- a test as 1 or 0
pub flag_low : (t : Bool) → cond t 1 0 ≤ 1
flag_low t = by t (λ h. rw h (omega arith)) (λ h. rw h (omega arith))

pub flag_tests : (t : Bool) → eqb (cond t 1 0) 1 ≡ t
flag_tests t = by t (λ h. rw h) (λ h. rw h)
