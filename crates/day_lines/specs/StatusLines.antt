-- The lines of a day that end in whether the gate is guarded, as bytes (document 01, "The day
-- program").
use Rattle.std.specs.Prelude.{ℕ, Bool, cond, List, [], ◌∷◌, ◌++◌}
use Rattle.text.specs.Decimal.{ascii, decimal}

-- whether guarded, up to the line's end
unfoldable pub winning_end : Bool → List ℕ
winning_end g = ascii " guarded " ++ (cond g (ascii "yes") (ascii "no") ++ ascii "\n")

-- n, m, B, the start, and whether fresh is guarded
unfoldable pub automaton_line : ℕ → ℕ → ℕ → ℕ → Bool → List ℕ
automaton_line n m b q g =
    ascii "sheet " ++ (decimal n ++
    (ascii " " ++ (decimal m ++
    (ascii " " ++ (decimal b ++
    (ascii " start " ++ (decimal q ++
    winning_end g)))))))

-- symbols (document 01's kinds), each with a space before it
unfoldable pub spaced : List ℕ → List ℕ
spaced [] = []
spaced (e ∷ es) = ascii " " ++ (decimal e ++ spaced es)

-- the symbols emitted; `-` for none
unfoldable pub emission : List ℕ → List ℕ
emission [] = ascii " -"
emission (e ∷ es) = spaced (e ∷ es)

-- an event: the kind received, the kinds put out, the state, the count held, whether guarded
unfoldable pub event_line : ℕ → List ℕ → ℕ → ℕ → Bool → List ℕ
event_line e out q h g =
    ascii "in " ++ (decimal e ++
    (ascii " out" ++ (emission out ++
    (ascii " state " ++ (decimal q ++
    (ascii " held " ++ (decimal h ++
    winning_end g)))))))
