-- Places in the input and in the output (document 02, Card 4), and the numbers that they stand
-- for.
use Rattle.std.specs.Prelude.{ℕ, ◌-◌, List, ◌++◌, length, replicate}
pub use Rattle.configuration_places.specs.declared.InputPlace.{InputPlace}
pub use Rattle.configuration_places.specs.declared.OutputPlace.{OutputPlace}

abbrev pub input_place : ℕ → InputPlace
input_place n = record { 0 = n }

abbrev pub input_number : InputPlace → ℕ
input_number p = p.0

abbrev pub output_place : ℕ → OutputPlace
output_place n = record { 0 = n }

abbrev pub output_number : OutputPlace → ℕ
output_number p = p.0

-- the end of a count: the last number of 32 bits
abbrev pub count_end : ℕ
count_end = 4294967295

-- the wait from an earlier place in the input to a later one
abbrev pub waited : InputPlace → InputPlace → ℕ
waited later earlier = input_number later - input_number earlier

-- an array of which a front part is used: the list, then 0 up to n places
unfoldable pub pad_places : ℕ → List InputPlace → List InputPlace
pad_places n l = l ++ replicate (n - length l) (input_place 0)
