-- What the solver's calls answer, and what they leave in the lent table (document 01, "Where it
-- may rest, where it must release"; rows 11 and 12).
use Rattle.std.specs.Prelude.{ℕ, ◌*◌, cond, not, List, [], ◌∷◌, ◌++◌, drop, eqb}
use Rattle.base.specs.Rows.{first}
use Rattle.automaton.specs.declared.Automaton.{Automaton}
use Rattle.automaton.specs.Automaton.{valid}
use Rattle.solver_sets.specs.Table.{buffers_count, short, table, rounds}

-- What solving gives: the rounds that struck a state, summed over all buffers (refusal 0), or the
-- refusing row with 0 rounds.
pub record Solution : Type 0 where
  pub refusal : ℕ
  pub rounds : ℕ

abbrev pub solved : ℕ → Solution
solved rounds = record { refusal = 0; rounds = rounds }

abbrev pub solve_refused : ℕ → Solution
solve_refused row = record { refusal = row; rounds = 0 }

-- How many buffers there are (refusal 0), or the refusing row with 0.
pub record Count : Type 0 where
  pub refusal : ℕ
  pub count : ℕ

abbrev pub counted : ℕ → Count
counted count = record { refusal = 0; count = count }

abbrev pub count_refused : ℕ → Count
count_refused row = record { refusal = row; count = 0 }

-- the rows that solving checks
unfoldable pub solve_refusal : Automaton → List ℕ → ℕ
solve_refusal a t = first ((11, not (valid a)) ∷ (12, short a t) ∷ [])

-- the answer: the rounds that struck, summed over all buffers
unfoldable pub solution : Automaton → List ℕ → Solution
solution a t =
    cond (eqb (solve_refusal a t) 0)
    (record { refusal = 0; rounds = rounds a })
    (record { refusal = solve_refusal a t; rounds = 0 })

-- the lent table afterwards
unfoldable pub solved_table : Automaton → List ℕ → List ℕ
solved_table a t = cond (eqb (solve_refusal a t) 0) (table a ++ drop (2 * buffers_count a) t) t

-- how many buffers there are: T, or 11
unfoldable pub count_answer : Automaton → Count
count_answer a =
    cond (valid a)
    (record { refusal = 0; count = buffers_count a })
    (record { refusal = 11; count = 0 })
