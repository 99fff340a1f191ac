-- What is proved of reading and writing: demand 2's second sentence; where a fault stands, and
-- what a refused read hands back.
use Rattle.std.specs.Prelude.{ℕ, ◌≤◌, ◌≡◌, true, List, length}
use Rattle.automaton.specs.declared.Automaton.{Automaton}
use Rattle.automaton.specs.Automaton.{valid, blank}
use Rattle.automaton_format.specs.Reading.{parsed, parse}
use Rattle.automaton_format.specs.Writing.{record_bytes}

-- a sheet that is written reads back as itself
abbrev pub WrittenReadsBack : Type 0
WrittenReadsBack = (a : Automaton) → valid a ≡ true → parse (record_bytes a) ≡ parsed a

-- a record that was read passes row 11
abbrev pub ReadIsValid : Type 0
ReadIsValid = (s : List ℕ) (a : Automaton) → parse s ≡ parsed a → valid a ≡ true

-- a sheet that is read and written again, padded or not, reads as the same record, and no bytes
-- that read so are shorter
abbrev pub ReadAgain : Type 0
ReadAgain =
    (s : List ℕ) (a : Automaton) → parse s ≡ parsed a → (parse (record_bytes a) ≡ parsed a) × (length (record_bytes a) ≤ length s)

-- a fault's row is one of the first ten, and its place is within the bytes or at their end
abbrev pub RefusedInside : Type 0
RefusedInside = (s : List ℕ) → ((parse s).refusal ≤ 10) × ((parse s).place ≤ length s)

-- a refused read hands back an all-zero record
abbrev pub RefusedBlank : Type 0
RefusedBlank = (s : List ℕ) → ((parse s).refusal ≡ 0 → ⊥) → (parse s).automaton ≡ blank
