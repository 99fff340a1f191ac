-- The parts of a line, joined.
use Prim.Native.Nat.{ℕ}
use mathlib.Core.Path.{◌≡◌, ap}
use mathlib.Core.Bool.{Bool}
use mathlib.Core.List.{List, ◌++◌, append_assoc}
use Rattle.text.specs.Decimal.{ascii, decimal}
use Rattle.day_lines.specs.StatusLines.{winning_end, automaton_line, emission, event_line}

pub automaton_joined : (n m b q : ℕ) (g : Bool)
    → ((ascii "sheet " ++ decimal n) ++ (ascii " " ++ decimal m)) ++
    ((ascii " " ++ decimal b) ++ ((ascii " start " ++ decimal q) ++ winning_end g)) ≡ automaton_line n m b q g
unfolding ascii automaton_line
automaton_joined n m b q g =
    ap (λ l. ascii "sheet " ++ l)
    (append_assoc (decimal n) (ascii " " ++ decimal m) ((ascii " " ++ decimal b) ++ ((ascii " start " ++ decimal q) ++ winning_end g)))

pub event_joined : (e : ℕ) (out : List ℕ) (q h : ℕ) (g : Bool)
    → (ascii "in " ++ (decimal e ++ ascii " out")) ++ (emission out ++ ((ascii " state " ++ decimal q) ++ ((ascii " held " ++ decimal h) ++ winning_end g)))
    ≡ event_line e out q h g
unfolding ascii event_line
event_joined e out q h g =
    ap (λ l. ascii "in " ++ l)
    (append_assoc (decimal e) (ascii " out") (emission out ++ ((ascii " state " ++ decimal q) ++ ((ascii " held " ++ decimal h) ++ winning_end g))))
