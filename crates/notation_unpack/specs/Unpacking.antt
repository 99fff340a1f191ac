-- Unpacking: numbers in seven-bit groups, written out in decimal.
use Rattle.std.specs.Prelude.{ℕ, zero, suc, cond, List, [], ◌∷◌, ◌++◌, length, ltb, leb, eqb}
use Prim.Native.Char.{code}
use Rattle.varint.specs.Varint.{read}
use Rattle.text.specs.Decimal.{decimal}
use Rattle.notation.specs.Outcomes.{Outcome, numbers, faulty, before, placed}

-- What unpacking answers: how many bytes of text were written, or the refusing row with the place
-- where the faulty number begins (0 for row 16).
pub record Unpacked : Type 0 where
  pub refusal : ℕ
  pub place : ℕ
  pub length : ℕ

-- numbers, or the row of the first fault and the place where the faulty number begins
abbrev pub Decoded : Type 0
Decoded = Outcome (ℕ × ℕ)

-- What bytes say from a place on. (A number has a byte at least, so as many steps as there are
-- bytes and one are enough.)
unfoldable pub decoded_from : ℕ → List ℕ → ℕ → Decoded
decoded_from zero s at = numbers []
decoded_from (suc k) s at =
    let n = read s at in
    cond (ltb at (length s))
    (cond (eqb n.refusal 0) (before n.value (decoded_from k s n.place)) (faulty (n.refusal, n.place)))
    (numbers [])

-- what bytes say
unfoldable pub decoded : List ℕ → Decoded
decoded s = decoded_from (suc (length s)) s 0

-- what stands after a number, by the numbers that follow: a space, and a newline after the last
unfoldable pub mark : List ℕ → ℕ
mark [] = code "\n"
mark (v ∷ vs) = code " "

-- numbers as a line of text; no line for none
unfoldable pub line_of : List ℕ → List ℕ
line_of [] = []
line_of (v ∷ vs) = decimal v ++ (mark vs ∷ line_of vs)

-- answers: so many bytes of text; a row and its place
unfoldable pub done : ℕ → Unpacked
done n = record { refusal = 0; place = 0; length = n }

unfoldable pub refused : ℕ → ℕ → Unpacked
refused row at = record { refusal = row; place = at; length = 0 }

-- what unpacking into a lent buffer answers: the first fault (row 1 or 2), or 16 where there is
-- too little room
unfoldable pub unpacked : Decoded → List ℕ → Unpacked
unpacked (faulty x) out = refused x.0 x.1
unpacked (numbers vs) out = cond (leb (length (line_of vs)) (length out)) (done (length (line_of vs))) (refused 16 0)

-- .. and what the buffer then holds
unfoldable pub unpacked_buffer : Decoded → List ℕ → List ℕ
unpacked_buffer (faulty x) out = out
unpacked_buffer (numbers vs) out = placed (line_of vs) out
