-- Tokens of a text: what stands between separators, outside comments.
use Rattle.std.specs.Prelude.{ℕ, ◌+◌, ◌-◌, Bool, false, cond, not, ◌&&◌, ◌||◌, List, [], ◌∷◌, take, drop, eqb}
use Prim.Native.Char.{code}
pub use Rattle.notation.specs.declared.Place.{Place}
pub use Rattle.notation.specs.declared.Token.{Token}

-- a byte between numbers
unfoldable pub separator : ℕ → Bool
separator b = eqb b (code " ") || (eqb b (code ",") || (eqb b (code "\t") || (eqb b (code "\n") || eqb b (code "\r"))))

-- a byte at which a token ends: a separator, or the beginning of a comment
unfoldable pub ends : ℕ → Bool
ends b = separator b || eqb b (code "#")

-- whether the byte after b is in a comment, which goes to its line's end; c says whether b is in
-- one
unfoldable pub comment : Bool → ℕ → Bool
comment c b = (c || eqb b (code "#")) && not (eqb b (code "\n"))

-- how many lines end with a byte
unfoldable pub newlines : ℕ → ℕ
newlines b = cond (eqb b (code "\n")) 1 0

-- Where the next token begins, past separators and comments, and how many lines end before it.
-- Given are the bytes from the place `at` on, whether the first of them is in a comment, and how
-- many lines end before it.
unfoldable pub beginning : List ℕ → Bool → ℕ → ℕ → Place
beginning [] c lines at = record { lines = lines; at = at }
beginning (b ∷ s) c lines at =
    cond (c || ends b) (beginning s (comment c b) (lines + newlines b) (at + 1)) (record { lines = lines; at = at })

-- how many bytes stand before the next separator or comment
unfoldable pub token_length : List ℕ → ℕ
token_length [] = 0
token_length (b ∷ s) = cond (ends b) 0 (token_length s + 1)

-- the first token from a place on; an empty one at the text's end where there is none
unfoldable pub token_at : List ℕ → ℕ → ℕ → Token
token_at s lines at =
    let p = beginning (drop at s) false lines at in
    record { lines = p.lines; from = p.at; to = p.at + token_length (drop p.at s) }

-- the bytes of a token
unfoldable pub bytes_of : List ℕ → Token → List ℕ
bytes_of s t = take (t.to - t.from) (drop t.from s)
