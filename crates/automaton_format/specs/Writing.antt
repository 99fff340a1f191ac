-- Writing a sheet: its numbers in their order, each in the fewest bytes (document 01, "The sheet";
-- rows 11 and 16).
use Rattle.std.specs.Prelude.{ℕ, zero, suc, ◌*◌, cond, not, List, [], ◌∷◌, ◌++◌, length, take, drop, eqb, ltb}
use Rattle.base.specs.Rows.{first}
unfoldable pub use Rattle.varint.specs.Varint.{encoded}
use Rattle.automaton.specs.declared.Automaton.{Automaton}
use Rattle.automaton.specs.Automaton.{valid}

-- the next states of the first k states, m each
unfoldable pub next_numbers : List ℕ → ℕ → ℕ → List ℕ
next_numbers next m zero = []
next_numbers next m (suc k) = next_numbers next m k ++ take m (drop (k * 16) next)

-- the sheet's numbers: n, m, B, start, m classes, n flags, n × m next states
unfoldable pub record_numbers : Automaton → List ℕ
record_numbers a =
    a.states ∷ a.symbols ∷ a.capacity ∷ a.initial ∷
    (take a.symbols a.classes ++
    (take a.states a.accepting ++
    next_numbers a.next a.symbols a.states))

unfoldable pub record_bytes : Automaton → List ℕ
record_bytes a = encoded (record_numbers a)

-- What writing gives: the length written (refusal 0), or the refusing row with length 0.
pub record Written : Type 0 where
  pub refusal : ℕ
  pub length : ℕ

abbrev pub written : ℕ → Written
written n = record { refusal = 0; length = n }

abbrev pub refused : ℕ → Written
refused row = record { refusal = row; length = 0 }

-- the rows that writing checks
unfoldable pub write_refusal : Automaton → List ℕ → ℕ
write_refusal a out = first ((11, not (valid a)) ∷ (16, ltb (length out) (length (record_bytes a))) ∷ [])

-- the answer, and the lent buffer afterwards
unfoldable pub write_answer : Automaton → List ℕ → Written
write_answer a out =
    cond (eqb (write_refusal a out) 0)
    (record { refusal = 0; length = length (record_bytes a) })
    (record { refusal = write_refusal a out; length = 0 })

unfoldable pub write_buffer : Automaton → List ℕ → List ℕ
write_buffer a out =
    cond (eqb (write_refusal a out) 0) (record_bytes a ++ drop (length (record_bytes a)) out) out
