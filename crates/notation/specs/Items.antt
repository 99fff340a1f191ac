-- Items of a text, each a token with what its bytes are, and the check that packing makes of them
-- first: what inner functions answer and ask.
use Rattle.std.specs.Prelude.{ℕ, ◌+◌, ◌≤◌, ◌≡◌, cond, List, length, ltb}
use Rattle.notation.specs.Tokens.{Token, token_at, bytes_of}
use Rattle.notation.specs.Words.{Word, max_number, word_of}
use Rattle.notation.specs.Outcomes.{numbers, faulty}
use Rattle.notation.specs.Packing.{Packed, Reading, reading, encoded, done, refused}

-- a token and what its bytes are
pub record Item : Type 0 where
  pub token : Token
  pub word : Word

-- a number, and one more than the largest for all above it
unfoldable pub capped : ℕ → ℕ
capped v = cond (ltb max_number v) 2097152 v

-- the next token and what its bytes are
unfoldable pub item_at : List ℕ → ℕ → ℕ → Item
item_at s lines at = let t = token_at s lines at in record { token = t; word = word_of (bytes_of s t) }

-- the first fault, or how many bytes packing takes, after n of them
unfoldable pub checked : ℕ → Reading → Packed
checked n (faulty x) = refused x.0 x.1
checked n (numbers vs) = done (n + length (encoded vs))

-- what `store_groups` asks: a text has no fault, and there is room for its numbers
pub record StoreGroupsRequires (s out : List ℕ) : Type 0 where
  pub values : List ℕ
  pub read : reading s ≡ numbers values
  pub room : length (encoded values) ≤ length out
