-- Lines that a program prints, as bytes (document 01, "The day program").
use Rattle.std.specs.Prelude.{ℕ, List, ◌++◌}
use Rattle.text.specs.Decimal.{ascii, decimal}

-- a refused event
unfoldable pub refused_event_line : ℕ → ℕ → List ℕ
refused_event_line e row = ascii "in " ++ (decimal e ++ (ascii " refused " ++ (decimal row ++ ascii "\n")))

-- the last line: how many events were accepted and refused
unfoldable pub end_line : ℕ → ℕ → List ℕ
end_line accepted refused = ascii "end " ++ (decimal accepted ++ (ascii " " ++ (decimal refused ++ ascii "\n")))

-- a refusal outside one event: with the place of the fault, and alone
unfoldable pub fault_line : ℕ → ℕ → List ℕ
fault_line row at = ascii "refused " ++ (decimal row ++ (ascii " at " ++ (decimal at ++ ascii "\n")))

unfoldable pub refusal_line : ℕ → List ℕ
refusal_line row = ascii "refused " ++ (decimal row ++ ascii "\n")

-- The room that a line can take, whatever its numbers: a number below 2 ^ 64 has 20 digits at
-- most, a byte 3.
abbrev pub line_room : ℕ
line_room = 96

-- row 18: the most bytes that a program takes as its input
abbrev pub max_input : ℕ
max_input = 60000
