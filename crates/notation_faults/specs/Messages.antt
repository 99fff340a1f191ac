-- What is said of a fault in a text.
use Rattle.std.specs.Prelude.{ℕ, ◌-◌, cond, ◌&&◌, List, [], ◌++◌, map, take, drop, leb}
use Prim.Native.Char.{code}
use Rattle.text.specs.Decimal.{ascii, decimal}
use Rattle.notation.specs.Words.{Fault, None, NotNumber, TooLarge, NoRoom}
use Rattle.notation.specs.Packing.{Packed}

-- a byte as it is shown: itself where it is a printable character of ASCII, else `?`
unfoldable pub visible : ℕ → ℕ
visible b = cond (leb (code " ") b && leb b (code "~")) b (code "?")

-- a token as it is shown: its first 32 bytes
unfoldable pub shown : List ℕ → List ℕ
shown w = map visible (take 32 w)

-- a line that names the number of the faulty line and what stands there
unfoldable pub token_line : ℕ → List ℕ → List ℕ → List ℕ
token_line line w ending = ascii "line " ++ (decimal line ++ (ascii ": " ++ (shown w ++ ending)))

-- what is said of the bytes w of a faulty token, by its fault
unfoldable pub said : Fault → ℕ → List ℕ → List ℕ
said None line w = []
said NotNumber line w = token_line line w (ascii " is no number\n")
said TooLarge line w = token_line line w (ascii " is over 2097151\n")
said NoRoom line w = ascii "no room for the bytes\n"

-- what is said of packing's answer on a text; nothing where there is no fault
unfoldable pub message : List ℕ → Packed → List ℕ
message s p = said p.fault p.line (take (p.to - p.from) (drop p.from s))
