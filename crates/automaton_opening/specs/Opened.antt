-- What an input begins with, as it is answered.
use Rattle.automaton_format.specs.Reading.{Parsed}
use Rattle.automaton_opening.specs.declared.Opened.{Opened}

-- an automaton that was read, and the place after its sheet
abbrev pub opened : Opened → Parsed
opened o = record { refusal = 0; place = o.place; automaton = o.automaton }
