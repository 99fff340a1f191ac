-- Definition 6 of source document 000, untimed, as printed. (It prints F_G in the last equation,
-- which its untimed section does not define; F is read.) Sets of states are families of types over
-- the states; σ ranges over lists of controllable symbols.
use Rattle.std.specs.Prelude.{ℕ, ◌<◌, ◌≡◌, ◌⊎◌, ◌↔◌, Bool, true, List, [], ◌∷◌, ◌++◌}
use Rattle.base.specs.All.{AllOf}
use Rattle.automaton.specs.declared.Automaton.{Automaton}
use Rattle.automaton.specs.Automaton.{uncontrollable, accepts, step, reached}
use Rattle.solver_sets.specs.Table.{Controllable}

abbrev pub States : Type 1
States = ℕ → Type 0

-- F
abbrev pub Final : Automaton → States
Final a q = accepts a q ≡ true

abbrev pub Union : States → States → States
Union X Y q = X q ⊎ Y q

abbrev pub Intersection : States → States → States
Intersection X Y q = X q × Y q

abbrev pub Complement : States → States
Complement X q = X q → ⊥

-- X ⊆ Y, over the states of the automaton
abbrev pub Within : Automaton → States → States → Type 0
Within a X Y = (q : ℕ) → q < a.states → X q → Y q

-- X = ∅
abbrev pub Empty : Automaton → States → Type 0
Empty a X = (q : ℕ) → q < a.states → X q → ⊥

-- Pred_e(X): the states that e takes into X
abbrev pub Pred : Automaton → ℕ → States → States
Pred a e X q = X (step a q e)

-- an uncontrollable symbol
abbrev pub Uncontrollable : Automaton → ℕ → Type 0
Uncontrollable a e = (e < a.symbols) × (uncontrollable a e ≡ true)

-- a list of them: an element of Σu*
abbrev pub AllUncontrollable : Automaton → List ℕ → Type 0
AllUncontrollable a = AllOf (Uncontrollable a)

-- uPred(X): the states that some uncontrollable symbol takes into X
abbrev pub UPred : Automaton → States → States
UPred a X q = (e : ℕ) × Uncontrollable a e × Pred a e X q

-- a set as a decidable one
abbrev pub In : (ℕ → Bool) → States
In y q = y q ≡ true

-- the family { Y ⊆ F | Y ∩ uPred(complement of (Y ∪ I)) = ∅ }
pub record Family (a : Automaton) (I : States) (y : ℕ → Bool) : Type 0 where
  pub final : Within a (In y) (Final a)
  pub closed : Empty a (Intersection (In y) (UPred a (Complement (Union (In y) I))))

-- its maximum: a member that holds every other member
pub record Maximum (a : Automaton) (I : States) (y : ℕ → Bool) : Type 0 where
  pub member : Family a I y
  pub largest : (z : ℕ → Bool) → Family a I z → Within a (In z) (In y)

-- the four equations
pub record Definition6 (a : Automaton) (S I : List ℕ → States) : Type 0 where
  pub I-empty : Empty a (I [])
  pub S-empty : (q : ℕ) → q < a.states → S [] q ↔ (Final a q × ((σ : List ℕ) → AllUncontrollable a σ → Final a (reached a q σ)))
  pub I-first : (e : ℕ) (σ : List ℕ) → Controllable a (e ∷ σ) → (q : ℕ) → q < a.states
      → I (e ∷ σ) q ↔ Pred a e (Union (S σ) (I σ)) q
  pub S-last : (σ : List ℕ) (e : ℕ) → Controllable a (σ ++ e ∷ [])
      → (y : ℕ → Bool) × Maximum a (I (σ ++ e ∷ [])) y × ((q : ℕ) → q < a.states → S (σ ++ e ∷ []) q ↔ Union (S σ) (In y) q)
