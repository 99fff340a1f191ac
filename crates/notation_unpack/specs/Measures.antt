-- How much room a line takes, and what stands after a number: what inner functions answer and ask.
use Rattle.std.specs.Prelude.{ℕ, ◌+◌, ◌-◌, ◌≤◌, ◌≡◌, Bool, cond, not, ◌&&◌, List, length, ltb, leb}
use Prim.Native.Char.{code}
use Rattle.notation.specs.Outcomes.{numbers, faulty}
use Rattle.notation_unpack.specs.Unpacking.{Unpacked, Decoded, decoded, line_of, done, refused}

-- the first fault, or the bytes of text, where of `room` places `left` are left and `short` says
-- whether they were too few already
unfoldable pub measured : ℕ → ℕ → Bool → Decoded → Unpacked
measured room left short (faulty x) = refused x.0 x.1
measured room left short (numbers vs) =
    cond (not short && leb (length (line_of vs)) left) (done (room - left + length (line_of vs))) (refused 16 0)

-- what stands after a number, by the place after it and the end of the bytes
unfoldable pub mark_at : ℕ → ℕ → ℕ
mark_at at end = cond (ltb at end) (code " ") (code "\n")

-- what `store_line` asks: bytes have no fault, and there is room for their line
pub record StoreLineRequires (s out : List ℕ) : Type 0 where
  pub values : List ℕ
  pub read : decoded s ≡ numbers values
  pub room : length (line_of values) ≤ length out
