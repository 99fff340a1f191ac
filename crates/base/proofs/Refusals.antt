-- Laws of `first`: a row is passed where its condition fails, and stands where it holds.
use Prim.Native.Nat.{ℕ}
use mathlib.Core.Path.{◌≡◌, refl, sym, ◌∙◌}
use mathlib.Core.Logic.{◌↔◌}
use mathlib.Core.Bool.{Bool, true, false, not}
use mathlib.Core.List.{List, [], ◌∷◌, ◌++◌}
use Rattle.base.specs.Rows.{first}
use Rattle.base.proofs.Bools.{by}

module _ (n : ℕ) (b : Bool) (rows : List (ℕ × Bool)) where
  pub first-stands : b ≡ true → first ((n, b) ∷ rows) ≡ n
  unfolding first
  first-stands h = rw h

  pub first_passes : b ≡ false → first ((n, b) ∷ rows) ≡ first rows
  unfolding first
  first_passes h = rw h

  -- a number that neither it nor a later row has is not given
  pub first_never : (m : ℕ) → (n ≡ m → ⊥) → (first rows ≡ m → ⊥) → first ((n, b) ∷ rows) ≡ m → ⊥
  first_never m own later h = by b (λ t. own (sym (first-stands t) ∙ h)) (λ f. later (sym (first_passes f) ∙ h))

  -- A row in words, X where its condition holds and Y where it fails. Its number is given exactly
  -- where it holds, if no later row gives it ..
  module _ {X Y : Type 0} (worded : (b ≡ true) ↔ X) (worded-not : (b ≡ false) ↔ Y) where
    pub first-own : (first rows ≡ n → ⊥) → (first ((n, b) ∷ rows) ≡ n) ↔ X
    first-own later = (
      λ h. by b worded.0 (λ f. absurd (later (sym (first_passes f) ∙ h))),
      λ x. first-stands (worded.1 x),
    )

    -- .. and another number where it fails and later rows give that
    pub first-later : {Z : Type 0} (m : ℕ) → (n ≡ m → ⊥) → (Y → (first rows ≡ m) ↔ Z) → (first ((n, b) ∷ rows) ≡ m) ↔ (Y × Z)
    first-later m own later = (
      λ h. by b
          (λ t. absurd (own (sym (first-stands t) ∙ h)))
          (λ f. let y = worded-not.0 f in (y, (later y).0 (sym (first_passes f) ∙ h))),
      λ (y, z). first_passes (worded-not.1 y) ∙ (later y).1 z,
    )

-- rows before others: one that stands also stands for all, and where none of all stands, none does
pub first-before : (rows more : List (ℕ × Bool)) → (first rows ≡ 0 → ⊥) → first (rows ++ more) ≡ first rows
unfolding first
first-before [] more z = absurd (z refl)
first-before ((n, b) ∷ rows) more z = by b (λ t. rw t) (λ f. rw f (first-before rows more (λ h. z (rw f h))))

pub first_clear : (rows more : List (ℕ × Bool)) → first (rows ++ more) ≡ 0 → first rows ≡ 0
unfolding first
first_clear [] more h = refl
first_clear ((n, b) ∷ rows) more h = by b (λ t. rw t (rw t at h)) (λ f. rw f (first_clear rows more (rw f at h)))

-- a condition that is another's contrary, in words
pub contrary : (b : Bool) → ((not b ≡ true) ↔ (b ≡ false)) × ((not b ≡ false) ↔ (b ≡ true))
contrary true = ((λ h. sym h, λ h. sym h), (λ h. refl, λ h. refl))
contrary false = ((λ h. refl, λ h. refl), (λ h. sym h, λ h. sym h))
