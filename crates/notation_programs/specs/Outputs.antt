-- What the programs `pack` and `unpack` write: bytes on standard output, or a line on standard
-- error.
use Rattle.std.specs.Prelude.{ℕ, cond, List, [], length, ltb}
use Rattle.text.specs.Decimal.{ascii}
use Rattle.text_lines.specs.Lines.{fault_line, refusal_line, max_input}
use Rattle.notation.specs.Outcomes.{numbers, faulty}
use Rattle.notation.specs.Packing.{Reading, reading, encoded, refused}
use Rattle.notation_unpack.specs.Unpacking.{Decoded, decoded, line_of}
use Rattle.notation_faults.specs.Messages.{message}

-- the program `pack`: a text of at most so many bytes
abbrev pub max_text : ℕ
max_text = 262144

-- the numbers in seven-bit groups; nothing where there is a fault
unfoldable pub packed_bytes : Reading → List ℕ
packed_bytes (numbers vs) = encoded vs
packed_bytes (faulty x) = []

unfoldable pub pack_output : List ℕ → List ℕ
pack_output s = cond (ltb max_text (length s)) [] (packed_bytes (reading s))

-- the line that names the fault; nothing where there is none
unfoldable pub fault_note : List ℕ → Reading → List ℕ
fault_note s (numbers vs) = []
fault_note s (faulty x) = message s (refused x.0 x.1)

unfoldable pub pack_note : List ℕ → List ℕ
pack_note s = cond (ltb max_text (length s)) (ascii "more than 262144 bytes of text\n") (fault_note s (reading s))

-- the program `unpack`: the numbers in decimal
unfoldable pub line_text : Decoded → List ℕ
line_text (numbers vs) = line_of vs
line_text (faulty x) = []

unfoldable pub unpack_output : List ℕ → List ℕ
unpack_output s = cond (ltb max_input (length s)) [] (line_text (decoded s))

-- the first fault, as the day program prints one
unfoldable pub row_note : Decoded → List ℕ
row_note (numbers vs) = []
row_note (faulty x) = fault_line x.0 x.1

unfoldable pub unpack_note : List ℕ → List ℕ
unpack_note s = cond (ltb max_input (length s)) (refusal_line 18) (row_note (decoded s))
