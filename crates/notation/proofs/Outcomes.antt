-- Laws of numbers that are read one after the other, and of bytes at the front of a buffer.
use Prim.Native.Nat.{ℕ, zero, suc, ◌+◌, ◌<◌, ◌≤◌}
use mathlib.Core.Path.{◌≡◌, refl, sym, ◌∙◌}
use mathlib.Core.List.{List, [], ◌∷◌}
use native.Mathlib.Nat.{zero-add}
use native.Mathlib.Omega.{arith}
use lib.ListN.{length}
use lib.Seq.{sets, sets-eq}
use borrow.Author.Tests.{le-leb, lt-leb}
use Rattle.text.specs.Decimal.{Appended}
use Rattle.notation.specs.Outcomes.{Outcome, numbers, faulty, before, placed}

module _ {F : Type 0} where
  -- numbers, or a fault
  pub split : {A : Type 0} (r : Outcome F) → ((vs : List ℕ) → r ≡ numbers vs → A) → ((f : F) → r ≡ faulty f → A) → A
  split (numbers vs) y n = y vs refl
  split (faulty f) y n = n f refl

  abbrev none : Outcome F
  none = numbers []

  pub none_left : (l : List ℕ) → none ≡ numbers l → l ≡ []
  none_left l h = cc

  pub one_left : (v : ℕ) (r : Outcome F) (l : List ℕ) → before v r ≡ numbers l → (m : List ℕ) × (l ≡ v ∷ m) × (r ≡ numbers m)
  unfolding before
  one_left v (numbers m) l h = (m, cc, refl)
  one_left v (faulty f) l h = let z : ◌≡◌ {A = ℕ} 0 1 = cc in absurd (omega arith)

  pub no_fault : (f : F) (l : List ℕ) → faulty f ≡ numbers l → ⊥
  no_fault f l h = let z : ◌≡◌ {A = ℕ} 0 1 = cc in omega arith

  pub fault-before : (v : ℕ) (r : Outcome F) (f : F) → before v r ≡ faulty f → r ≡ faulty f
  unfolding before
  fault-before v (numbers vs) f h = let z : ◌≡◌ {A = ℕ} 0 1 = cc in absurd (omega arith)
  fault-before v (faulty g) f h = h

  pub same-fault : {f g : F} → faulty f ≡ faulty g → f ≡ g
  same-fault h = cc

-- where a pass over a list stands: as many steps are left after the next as are enough
pub record Stands (s : List ℕ) (at : ℕ) : Type 0 where
  pub steps : ℕ
  pub enough : length s < at + suc steps
  pub inside : at ≤ length s

unfoldable pub stands-first : (s : List ℕ) → Stands s 0
stands-first s = record { steps = length s; enough = omega arith; inside = omega arith }

module _ {s : List ℕ} {at next : ℕ} (g : Stands s at) (after : at < next) (within : next ≤ length s) where
  pub left : (k : ℕ) × (g.steps ≡ suc k)
  left = less g.steps (omega (arith, g.enough))
    where
      less : (m : ℕ) → 0 < m → (k : ℕ) × (m ≡ suc k)
      less zero h = absurd (omega arith)
      less (suc m) h = (m, refl)

  unfoldable pub stands-next : Stands s next
  stands-next = record { steps = left.0; enough = omega (arith, g.enough, left.1); inside = within }

-- bytes at the front of a buffer
module _ (b out : List ℕ) where
  pub placed-fits : length b ≤ length out → sets out 0 b ≡ placed b out
  unfolding placed
  placed-fits h =
      sets-eq b out 0 (omega arith) ∙ rw (zero-add (length b), le-leb (length b) (length out) h)

  pub placed-short : length out < length b → out ≡ placed b out
  unfolding placed
  placed-short h = rw (lt-leb (length b) (length out) h)

  pub placed-stored : length b ≤ length out → Appended out 0 b (placed b out) (length b)
  placed-stored h = record { content = sym (placed-fits h); place = sym (zero-add (length b)); inside = h }
