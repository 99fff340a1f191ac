-- Refusals: the rows that a call checks, in its order.
use Rattle.std.specs.Prelude.{ℕ, Bool, cond, List, [], ◌∷◌}

-- the number of the first row whose condition holds; 0 where none does
unfoldable pub first : List (ℕ × Bool) → ℕ
first [] = 0
first (row ∷ rows) = cond row.1 row.0 (first rows)
