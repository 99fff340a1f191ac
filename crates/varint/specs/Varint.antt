-- Numbers in one to three groups of seven bits, the low group first, the top bit set on all bytes
-- but the last (document 01, "The sheet").
use Rattle.std.specs.Prelude.{Option, Some, None, ℕ, zero, suc, ◌+◌, ◌-◌, ◌*◌, ◌/◌, ◌%◌, Bool, cond, ◌&&◌, List, [], ◌∷◌, ◌++◌, length, get_or, drop, ltb, leb}
use Rattle.varint.specs.declared.Decoded.{Decoded}

-- What stands at a place of the input: the value and the place after it (refusal 0), or the
-- refusing row and the place where the number begins, with value 0.
pub record Number : Type 0 where
  pub refusal : ℕ
  pub value : ℕ
  pub place : ℕ

-- a number that was read: its value and the place after it
abbrev pub value : ℕ → ℕ → Number
value v next = record { refusal = 0; value = v; place = next }

-- .. as it is answered
abbrev pub decoded : Decoded → Number
decoded d = value d.value d.place

-- a fault: its row and the place where the number begins
abbrev pub fault : ℕ → ℕ → Number
fault row at = record { refusal = row; value = 0; place = at }

-- The number that begins at `start`, of which `low` is read and at most k groups of weight `unit`
-- and more are left, the next at `at`. Row 1: the bytes end; row 2: a third byte with its top bit
-- set.
unfoldable pub groups : List ℕ → ℕ → ℕ → ℕ → ℕ → ℕ → Number
groups s start zero unit low at = fault 2 start
groups s start (suc k) unit low at =
    cond (ltb at (length s))
    (cond (ltb (get_or s at 0) 128)
    (value (low + get_or s at 0 * unit) (at + 1))
    (groups s start k (unit * 128) (low + (get_or s at 0 - 128) * unit) (at + 1)))
    (fault 1 start)

-- what stands at a place; past the end too
unfoldable pub read : List ℕ → ℕ → Number
read s at = groups s at 3 1 0 at

-- the bytes of v in at most k groups
unfoldable pub encode : ℕ → ℕ → List ℕ
encode zero v = []
encode (suc k) v = cond (ltb v 128) (v ∷ []) ((v % 128 + 128) ∷ encode k (v / 128))

unfoldable pub bytes : ℕ → List ℕ
bytes v = encode 3 v

-- numbers one after the other
unfoldable pub encoded : List ℕ → List ℕ
encoded [] = []
encoded (v ∷ vs) = bytes v ++ encoded vs

-- v is a number of three groups at most, and there is room for its bytes
unfoldable pub fits : List ℕ → ℕ → Bool
fits out v = ltb v 2097152 && leb (length (bytes v)) (length out)

-- a lent buffer after v was written into it
unfoldable pub written : List ℕ → ℕ → List ℕ
written out v = cond (fits out v) (bytes v ++ drop (length (bytes v)) out) out

-- how many bytes were written
unfoldable pub written_length : List ℕ → ℕ → ℕ
written_length out v = cond (fits out v) (length (bytes v)) 0

-- .. where that is not said, none were
abbrev pub count : Option ℕ → ℕ
count (Some n) = n
count None = 0
