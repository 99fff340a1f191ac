-- The number that a token's bytes stand for.
use Rattle.std.specs.Prelude.{ℕ, ◌+◌, ◌-◌, ◌*◌, Bool, true, cond, ◌&&◌, List, [], ◌∷◌, leb, ltb}
use Prim.Native.Char.{code}

-- What is wrong: nothing; a token that is no number, or one over 2,097,151; a lent buffer that is
-- too short.
pub data Fault : Type 0 where
  None : Fault
  NotNumber : Fault
  TooLarge : Fault
  NoRoom : Fault

-- what a token's bytes are: a number, or a fault, with value 0
pub record Word : Type 0 where
  pub fault : Fault
  pub value : ℕ

-- the largest number of three groups of seven bits
abbrev pub max_number : ℕ
max_number = 2097151

unfoldable pub is_digit : ℕ → Bool
is_digit b = leb (code "0") b && leb b (code "9")

-- each byte is a digit
unfoldable pub all_digits : List ℕ → Bool
all_digits [] = true
all_digits (b ∷ w) = is_digit b && all_digits w

-- the value of digits that stand after digits of value v
unfoldable pub value_from : ℕ → List ℕ → ℕ
value_from v [] = v
value_from v (b ∷ w) = value_from (v * 10 + (b - code "0")) w

-- answers: a number; a fault
abbrev pub number : ℕ → Word
number v = record { fault = None; value = v }

abbrev pub wrong : Fault → Word
wrong f = record { fault = f; value = 0 }

-- what bytes are after digits of value v: a number where all of them are digits and it is not too
-- large
unfoldable pub word_from : ℕ → List ℕ → Word
word_from v w =
    cond (all_digits w)
    (cond (ltb max_number (value_from v w)) (wrong TooLarge) (number (value_from v w)))
    (wrong NotNumber)

-- what a token's bytes are
unfoldable pub word_of : List ℕ → Word
word_of w = word_from 0 w
