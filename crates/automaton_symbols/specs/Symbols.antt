-- What the functions over the symbols' classes hand back.
use Rattle.std.specs.Prelude.{ℕ, zero, suc, cond, not, List, [], ◌∷◌, ◌++◌, length}
use Rattle.base.specs.Each.{those}
use Rattle.base.specs.Pad.{pad}
use Rattle.automaton.specs.Arrays.{controllable_at, controllable_in}
pub use Rattle.automaton_symbols.specs.declared.Ranking.{Ranking}
pub use Rattle.automaton_symbols.specs.declared.Symbols.{Symbols}

-- the rank of each symbol below m among the controllable ones, from 1; 0 for an uncontrollable one
unfoldable pub ranks_to : List ℕ → ℕ → List ℕ
ranks_to classes zero = []
ranks_to classes (suc e) = ranks_to classes e ++ cond (controllable_at classes e) (controllable_in classes (suc e)) 0 ∷ []

unfoldable pub ranking_of : List ℕ → ℕ → Ranking
ranking_of classes m = record { count = controllable_in classes m; ranks = pad 16 (ranks_to classes m) }

-- the symbols below m that are not controllable, rising
abbrev pub free_to : List ℕ → ℕ → List ℕ
free_to classes m = those m (λ e. not (controllable_at classes e))

-- .. as an array, with their number
unfoldable pub free_of : List ℕ → ℕ → Symbols
free_of classes m = record { count = length (free_to classes m); list = pad 16 (free_to classes m) }
