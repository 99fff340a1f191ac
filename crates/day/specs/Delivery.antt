-- What the day program hands over.
use Rattle.std.specs.Prelude.{ℕ, ◌+◌, ◌<◌, ◌≡◌, Bool, true, false, List, ◌++◌, length, take}

-- A text was handed over in pieces, one after the other, each from the front of a lent buffer: so
-- many bytes, which are all, or up to the first piece that could not be handed over whole. The
-- buffer still has that piece; the ones before it were.
pub data Delivered (text out : List ℕ) : ℕ → Bool → Type 0 where
  complete : Delivered text out (length text) true
  stopped : (before piece after : List ℕ) (count : ℕ) → before ++ (piece ++ after) ≡ text → take (length piece) out ≡ piece
      → count < length piece
      → Delivered text out (length before + count) false
