-- The table level by level: the buffers of one length, symbol by symbol. What its inner functions
-- hand back.
use Rattle.std.specs.Prelude.{ℕ, zero, suc, ◌+◌, ◌*◌, ◌≡◌, cond, List, [], ◌∷◌, ◌++◌, get_or}
use Rattle.std.specs.Int.Bits.{bit_or}
use Rattle.std.proofs.lemmas.List.Edits.{sets as stores}
use Rattle.automaton.specs.Arrays.{controllable_at}
use Rattle.solver_sets.specs.declared.Sets.{Sets}
use Rattle.solver_sets.specs.Table.{pairs, rounds_sum}
use Rattle.solver_rounds.specs.Rounds.{settled_on, predecessors}

-- the sets of a buffer that begins with e, where `goal` has the states of either set of what
-- follows e
unfoldable pub sets_from : List ℕ → List ℕ → ℕ → ℕ → ℕ → ℕ → ℕ → Sets
sets_from next free n u accepting e goal =
    let i = predecessors next n e goal in
    let r = settled_on next free n u i accepting in
    record { winning = r.set; intermediate = i; rounds = r.rounds }

-- the states of either set of the j-th buffer of those that stand from a place on
unfoldable pub goal_at : List ℕ → ℕ → ℕ → ℕ
goal_at t from j = bit_or (get_or t (from + 2 * j) 0) (get_or t (from + 2 * j + 1) 0)

-- the sets that f makes of each of `count` buffers from a place on
unfoldable pub symbol_sets : (ℕ → Sets) → List ℕ → ℕ → ℕ → List Sets
symbol_sets f t from zero = []
symbol_sets f t from (suc j) = symbol_sets f t from j ++ f (goal_at t from j) ∷ []

-- the same for each controllable symbol below m in turn
unfoldable pub level_of : (ℕ → ℕ → Sets) → List ℕ → ℕ → List ℕ → ℕ → ℕ → List Sets
level_of f classes zero t from count = []
level_of f classes (suc e) t from count =
    level_of f classes e t from count ++ cond (controllable_at classes e) (symbol_sets (f e) t from count) []

-- a table with sets stored from a place on
abbrev pub stored : List ℕ → ℕ → List Sets → List ℕ
stored t at ss = stores t at (pairs ss)

-- what filling a table leaves and hands back: the sets stored from a place on, and the sum of
-- their rounds
abbrev pub SetsStored : List ℕ → ℕ → List Sets → List ℕ → ℕ → Type 0
SetsStored t at ss t' r = (t' ≡ stored t at ss) × (r ≡ rounds_sum ss)
