-- What is proved of reading and writing one number.
use Rattle.std.specs.Prelude.{ℕ, ◌+◌, ◌≤◌, ◌<◌, ◌≡◌, List, ◌++◌, length, get_or}
use Rattle.varint.specs.Varint.{value, read, bytes}

-- a number that is written reads back as itself, whatever stands before and after it
abbrev pub ReadsBack : Type 0
ReadsBack =
    (v : ℕ) (p q : List ℕ) → v < 2097152 → read (p ++ (bytes v ++ q)) (length p) ≡ value v (length p + length (bytes v))

-- each number of a list is a byte
abbrev pub AreBytes : List ℕ → Type 0
AreBytes s = (i : ℕ) → i < length s → get_or s i 0 < 256

-- a number is written in no more bytes than it was read from
abbrev pub Fewest : Type 0
Fewest = (s : List ℕ) (at v next : ℕ) → AreBytes s → read s at ≡ value v next → at + length (bytes v) ≤ next
