-- Packing: the numbers of a text in seven-bit groups, each in the fewest bytes.
use Rattle.std.specs.Prelude.{ℕ, zero, suc, ◌+◌, Bool, true, false, cond, List, [], length, ltb, leb}
unfoldable pub use Rattle.varint.specs.Varint.{encoded}
use Rattle.notation.specs.Outcomes.{Outcome, numbers, faulty, before, placed}
use Rattle.notation.specs.Tokens.{Token, token_at, bytes_of}
use Rattle.notation.specs.Words.{Fault, None, NotNumber, TooLarge, NoRoom, word_of}

-- What packing answers: how many bytes were written, or the fault, with the number of the line
-- where it stands and the token's beginning and end (0 where there is none).
pub record Packed : Type 0 where
  pub fault : Fault
  pub line : ℕ
  pub from : ℕ
  pub to : ℕ
  pub length : ℕ

-- a text's numbers, or its first fault and the token where it stands
abbrev pub Reading : Type 0
Reading = Outcome (Fault × Token)

-- whether nothing is wrong
unfoldable pub sound : Fault → Bool
sound None = true
sound NotNumber = false
sound TooLarge = false
sound NoRoom = false

-- What a text says from a place on, with so many lines ended before it. (A token has a byte at
-- least, so as many steps as there are bytes and one are enough.)
unfoldable pub reading_from : ℕ → List ℕ → ℕ → ℕ → Reading
reading_from zero s lines at = numbers []
reading_from (suc k) s lines at =
    let t = token_at s lines at in
    let w = word_of (bytes_of s t) in
    cond (ltb t.from t.to)
    (cond (sound w.fault) (before w.value (reading_from k s t.lines t.to)) (faulty (w.fault, t)))
    (numbers [])

-- what a text says
unfoldable pub reading : List ℕ → Reading
reading s = reading_from (suc (length s)) s 0 0

-- answers: so many bytes; no room; a fault at a token, whose line is counted from 1
unfoldable pub done : ℕ → Packed
done n = record { fault = None; line = 0; from = 0; to = 0; length = n }

unfoldable pub no_room : Packed
no_room = record { fault = NoRoom; line = 0; from = 0; to = 0; length = 0 }

unfoldable pub refused : Fault → Token → Packed
refused f t = record { fault = f; line = t.lines + 1; from = t.from; to = t.to; length = 0 }

-- what packing into a lent buffer answers
unfoldable pub packed : Reading → List ℕ → Packed
packed (faulty x) out = refused x.0 x.1
packed (numbers vs) out = cond (leb (length (encoded vs)) (length out)) (done (length (encoded vs))) no_room

-- .. and what the buffer then holds
unfoldable pub packed_buffer : Reading → List ℕ → List ℕ
packed_buffer (faulty x) out = out
packed_buffer (numbers vs) out = placed (encoded vs) out
