-- A sheet with its length before it: a number L, then L bytes of sheet. So a day's input begins,
-- and so does the input of the program `merge`.
use Rattle.std.specs.Prelude.{ℕ, ◌+◌, cond, List, length, take, drop, eqb, ltb}
use Rattle.varint.specs.Varint.{read}
use Rattle.automaton_format.specs.Reading.{Parsed, refused, parse}

-- the sheet after L, at a place: the place after it, or its first fault, both from the input's
-- first byte
unfoldable pub automaton_at : ℕ → ℕ → Parsed → Parsed
automaton_at from count p =
    cond (eqb p.refusal 0)
    (record { refusal = 0; place = from + count; automaton = p.automaton })
    (refused p.refusal (from + p.place))

-- What an input begins with, the number L and L bytes of sheet: the automaton and the place after
-- it, or the first fault.
unfoldable pub opening : List ℕ → Parsed
opening s =
    let l = read s 0 in
    cond (eqb l.refusal 0)
    (cond (ltb (length s) (l.place + l.value))
    (refused 1 l.place)
    (automaton_at l.place l.value (parse (take l.value (drop l.place s)))))
    (refused l.refusal l.place)
