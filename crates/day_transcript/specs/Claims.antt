-- What is printed on some inputs: document 01's sample, a full buffer that the newcomer opens and
-- one that it does not (document 02, Card 5), and ways in which an input can begin and end.
use Rattle.std.specs.Prelude.{ℕ, ◌+◌, ◌*◌, ◌<◌, ◌≤◌, ◌≡◌, List, [], ◌∷◌, ◌++◌, length}
use Prim.Native.String.{String}
use Rattle.varint.specs.Claims.{AreBytes}
use Rattle.text.specs.Decimal.{ascii}
use Rattle.text_lines.specs.Lines.{line_room, max_input}
use Rattle.day_transcript.specs.Transcript.{transcript}

-- the sheet V, with its length before it
unfoldable pub v : List ℕ
v = 15 ∷ 3 ∷ 2 ∷ 1 ∷ 0 ∷ 0 ∷ 1 ∷ 1 ∷ 0 ∷ 1 ∷ 1 ∷ 0 ∷ 1 ∷ 2 ∷ 2 ∷ 2 ∷ []

-- the sheet W, likewise
unfoldable pub w : List ℕ
w =
    28 ∷ 4 ∷ 4 ∷ 2 ∷ 0 ∷
    0 ∷ 0 ∷ 1 ∷ 1 ∷
    1 ∷ 1 ∷ 0 ∷ 0 ∷
    1 ∷ 0 ∷ 3 ∷ 0 ∷
    1 ∷ 0 ∷ 2 ∷ 1 ∷
    2 ∷ 3 ∷ 3 ∷ 1 ∷
    3 ∷ 3 ∷ 3 ∷ 3 ∷ []

-- a sheet of one state, six controllable symbols and hold 5: 2T is 18,662
unfoldable pub large : List ℕ
large = 17 ∷ 1 ∷ 6 ∷ 5 ∷ 0 ∷ 1 ∷ 1 ∷ 1 ∷ 1 ∷ 1 ∷ 1 ∷ 1 ∷ 0 ∷ 0 ∷ 0 ∷ 0 ∷ 0 ∷ 0 ∷ []

-- the lines that V begins with
abbrev pub v_line : String
v_line = "sheet 3 2 1 start 0 guarded no"

abbrev pub answer_held : String
answer_held = "in 1 out - state 0 held 1 guarded yes"

-- lines, each with its newline
unfoldable pub lines : List String → List ℕ
lines [] = []
lines (l ∷ ls) = ascii l ++ (ascii "\n" ++ lines ls)

-- on the input these lines are printed, and nothing else
abbrev pub Prints : List ℕ → List String → Type 0
Prints input ls = transcript input ≡ lines ls

pub record CasesPrinted : Type 0 where
  pub sample : Prints (v ++ 1 ∷ 0 ∷ []) (v_line ∷ answer_held ∷ "in 0 out 0 1 state 2 held 0 guarded yes" ∷ "end 2 0" ∷ [])
  -- Answer twice: the second opens the full buffer
  pub full-opened : Prints (v ++ 1 ∷ 1 ∷ []) (v_line ∷ answer_held ∷ "in 1 out 1 state 0 held 1 guarded yes" ∷ "end 2 0" ∷ [])
  -- Page three times: the third does not
  pub row-15 : Prints (w ++ 2 ∷ 2 ∷ 2 ∷ [])
      ("sheet 4 4 2 start 0 guarded yes" ∷ "in 2 out - state 0 held 1 guarded yes" ∷
      "in 2 out - state 0 held 2 guarded yes" ∷ "in 2 refused 15" ∷ "end 2 1" ∷ [])
  pub event-unfinished : Prints (v ++ 2 ∷ 128 ∷ []) (v_line ∷ "in 2 refused 14" ∷ "refused 1 at 17" ∷ [])
  pub padded-length : Prints (129 ∷ 0 ∷ 33 ∷ []) ("refused 3 at 2" ∷ [])
  pub too_large : Prints (large ++ 128 ∷ []) ("refused 12" ∷ [])

-- an input of more than 60,000 bytes
abbrev pub LongRefused : Type 0
LongRefused = (s : List ℕ) → 60000 < length s → Prints s ("refused 18" ∷ [])

-- no transcript of bytes is longer than a line for each byte that is taken, and two
abbrev pub TranscriptBounded : Type 0
TranscriptBounded = (s : List ℕ) → AreBytes s → length (transcript s) ≤ line_room * (max_input + 2)
