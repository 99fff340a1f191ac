-- What is proved of the solver beside its contract.
use Rattle.std.specs.Prelude.{ℕ, ◌+◌, ◌*◌, ◌<◌, ◌≡◌, ◌↔◌, true, List, get_or}
use Rattle.base.specs.Masks.{has}
use Rattle.automaton.specs.declared.Automaton.{Automaton}
use Rattle.solver_sets.specs.Definition6.{States, Definition6}
use Rattle.solver_sets.specs.Table.{index, Buffer, Solved}
use Rattle.solver_answers.specs.Solving.{solve_refusal, solved_table}

-- what the solver leaves is solved
abbrev pub LeavesSolved : Type 0
LeavesSolved = (a : Automaton) (t : List ℕ) → solve_refusal a t ≡ 0 → Solved a (solved_table a t)

-- what it writes is Definition 6's: whatever satisfies that holds q in S, or in I, of a buffer
-- exactly where bit q of its place is set
abbrev pub SolvesDefinition6 : Type 1
SolvesDefinition6 =
    (a : Automaton) (t : List ℕ) → solve_refusal a t ≡ 0 → (S I : List ℕ → States) → Definition6 a S I
    → (w : List ℕ) → Buffer a w → (q : ℕ) → q < a.states
    → (S w q ↔ (has (get_or (solved_table a t) (2 * index a w) 0) q ≡ true))
    × (I w q ↔ (has (get_or (solved_table a t) (2 * index a w + 1) 0) q ≡ true))
