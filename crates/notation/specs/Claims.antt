-- What is proved of packing.
use Rattle.std.specs.Prelude.{ℕ, ◌≤◌, ◌<◌, ◌≡◌, List, [], ◌∷◌, length, get_or}
use Prim.Native.String.{String}
use Rattle.text.specs.Decimal.{ascii}
use Rattle.notation.specs.Words.{Fault, NotNumber}
use Rattle.notation.specs.Outcomes.{numbers}
use Rattle.notation.specs.Packing.{reading, encoded, done, packed}

-- what is packed is never longer than the text, ..
abbrev pub NeverLonger : Type 0
NeverLonger = (s vs : List ℕ) → reading s ≡ numbers vs → length (encoded vs) ≤ length s

-- .. so a text with no fault is packed whole into any buffer that is as long as the text
abbrev pub RoomInText : Type 0
RoomInText =
    (s vs out : List ℕ) → reading s ≡ numbers vs → length s ≤ length out → packed (reading s) out ≡ done (length (encoded vs))

-- every number of a text is one of three groups at most
abbrev pub ReadSmall : Type 0
ReadSmall = (s vs : List ℕ) → reading s ≡ numbers vs → (i : ℕ) → i < length vs → get_or vs i 0 < 2097152

-- a text has these numbers
abbrev pub Says : String → List ℕ → Type 0
Says text vs = reading (ascii text) ≡ numbers vs

-- a text is refused, with the fault in this line at this token
abbrev pub Refused : String → Fault → ℕ → ℕ → ℕ → Type 0
Refused text f line from to = packed (reading (ascii text)) []
    ≡ record { fault = f; line = line; from = from; to = to; length = 0 }

pub record CasesRead : Type 0 where
  -- document 01's sheet V
  pub automaton : Says "3 2 1 0, 0 1, 1 0 1, 1 0, 1 2, 2 2" (3 ∷ 2 ∷ 1 ∷ 0 ∷ 0 ∷ 1 ∷ 1 ∷ 0 ∷ 1 ∷ 1 ∷ 0 ∷ 1 ∷ 2 ∷ 2 ∷ 2 ∷ [])
  pub comments : Says "# 7\n1# 2, 3\r\n\t4 #\n" (1 ∷ 4 ∷ [])
  pub first-stands : Refused "1,-2\n99999999999" NotNumber 1 2 4
