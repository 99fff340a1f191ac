-- What is proved of unpacking, and of packing again.
use Rattle.std.specs.Prelude.{ℕ, ◌*◌, ◌≤◌, ◌≡◌, List, [], ◌∷◌, length}
use Rattle.varint.specs.Claims.{AreBytes}
use Rattle.text.specs.Decimal.{ascii}
use Rattle.notation.specs.Outcomes.{numbers}
use Rattle.notation.specs.Packing.{reading, encoded}
use Rattle.notation_unpack.specs.Unpacking.{decoded, line_of}

-- the line that unpacking writes is read as the same numbers, ..
abbrev pub LineReadsBack : Type 0
LineReadsBack = (s vs : List ℕ) → AreBytes s → decoded s ≡ numbers vs → reading (line_of vs) ≡ numbers vs

-- .. which packing then writes in no more bytes than they had
abbrev pub PacksShortest : Type 0
PacksShortest = (s vs : List ℕ) → AreBytes s → decoded s ≡ numbers vs → length (encoded vs) ≤ length s

-- what packing writes is read as the text's numbers
abbrev pub PackedReadsBack : Type 0
PackedReadsBack = (t vs : List ℕ) → reading t ≡ numbers vs → decoded (encoded vs) ≡ numbers vs

-- a line takes at most four bytes for each byte of its numbers
abbrev pub LineBounded : Type 0
LineBounded = (s vs : List ℕ) → AreBytes s → decoded s ≡ numbers vs → length (line_of vs) ≤ 4 * length s

pub record CasesUnpacked : Type 0 where
  pub line : line_of (3 ∷ 0 ∷ 128 ∷ []) ≡ ascii "3 0 128\n"
  pub padded : decoded (128 ∷ 0 ∷ 7 ∷ []) ≡ numbers (0 ∷ 7 ∷ [])
