-- Numbers that are read one after the other, and bytes at the front of a lent buffer.
use Rattle.std.specs.Prelude.{ℕ, cond, List, ◌∷◌, ◌++◌, length, drop, leb}

-- what was read: numbers, or the first fault
pub data Outcome (F : Type 0) : Type 0 where
  numbers : List ℕ → Outcome F
  faulty : F → Outcome F

-- a number, and what is read after it
unfoldable pub before : {F : Type 0} → ℕ → Outcome F → Outcome F
before v (numbers vs) = numbers (v ∷ vs)
before v (faulty f) = faulty f

-- a lent buffer after bytes were put at its front; as it was where it is too short for them
unfoldable pub placed : List ℕ → List ℕ → List ℕ
placed b out = cond (leb (length b) (length out)) (b ++ drop (length b) out) out
