-- The claims on what the program `merge` writes, hypotheses met.
use Rattle.std.specs.Prelude.{ℕ, ◌≡◌, true, List, [], ◌∷◌, ◌++◌, length, replicate, leb}
use Rattle.automaton.specs.declared.Automaton.{Automaton}
use Rattle.automaton.specs.Automaton.{valid}
use Rattle.automaton_format.specs.Reading.{parsed, parse}
use Rattle.automaton_format.specs.Writing.{record_bytes}
use Rattle.text_lines.specs.Lines.{fault_line, refusal_line}
use Rattle.product_rule.specs.Product.{product_of}
use Rattle.product_rule.specs.Claims.{sheet_v, no_answer}
use Rattle.product_merge.specs.Outputs.{merge_output, merge_note}
use Rattle.product_merge.specs.Claims as written
use Rattle.product_merge.specs.Claims.{Writes, Says, TwoSheets}

-- V and the sheet that lets no Answer out
abbrev pub two : List ℕ
two = written.v ++ written.no_answer

-- V and a sheet of six states with one symbol; such a sheet twice
abbrev pub other : List ℕ
other = written.v ++ written.six 0

abbrev pub six_twice : List ℕ
six_twice = 17 ∷ (written.six 0 ++ written.six 0)

abbrev pub sheet_six : Automaton
sheet_six = (parse (written.six 0)).automaton

-- faults of the first sheet, and of the second
abbrev pub first_faulty : List ℕ
first_faulty = 2 ∷ 3 ∷ 17 ∷ 33 ∷ []

abbrev pub second_faulty : List ℕ
second_faulty = written.v ++ 2 ∷ 2 ∷ 1 ∷ 2 ∷ []

pub record Written : Type 0 where
  pub both : TwoSheets two sheet_v no_answer
  pub product : Writes two (record_bytes (product_of sheet_v no_answer))
      × (parse (merge_output two) ≡ parsed (product_of sheet_v no_answer))
  pub pass-11 : (valid sheet_v ≡ true) × (valid no_answer ≡ true)
  pub room : leb (length (merge_output two)) 564 ≡ true
  pub row_24 : Says other (refusal_line 24)
  pub row_25 : Says six_twice (refusal_line 25)
  -- 4 at 2 of the first, 6 at 19 of the second
  pub first-fault : Says first_faulty (fault_line 4 2)
  pub second-fault : Says second_faulty (fault_line 6 19)
  pub row-18 : Says (replicate 60001 0) (refusal_line 18)
  -- bytes and no line, a line and no bytes
  pub no_line : (merge_output two ≡ [] → ⊥) × (merge_note two ≡ [])
  pub no_bytes : (merge_output [] ≡ []) × (merge_note [] ≡ [] → ⊥)
