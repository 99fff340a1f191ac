-- What the program `merge` writes (document 02, Card 6): the bytes of the merged sheet on standard
-- output, or a line on standard error. Its input: a number L, L bytes of the first sheet, and the
-- second sheet up to the end.
use Rattle.std.specs.Prelude.{ℕ, ◌-◌, cond, List, [], length, drop, eqb, ltb}
use Rattle.automaton.specs.declared.Automaton.{Automaton}
use Rattle.automaton_format.specs.Reading.{Parsed, parse}
use Rattle.automaton_format.specs.Writing.{record_bytes}
use Rattle.automaton_format.specs.Opening.{automaton_at, opening}
use Rattle.text_lines.specs.Lines.{fault_line, refusal_line, max_input}
use Rattle.product_rule.specs.Product.{product_answer}

-- what goes to standard output, and what to standard error
pub record Output : Type 0 where
  pub bytes : List ℕ
  pub note : List ℕ

abbrev pub written : List ℕ → Output
written bytes = record { bytes = bytes; note = [] }

abbrev pub said : List ℕ → Output
said line = record { bytes = []; note = line }

-- two records: the product's bytes, or the row that refuses it
unfoldable pub merged_records : Automaton → Automaton → Output
merged_records a b =
    let p = product_answer a b in
    cond (eqb p.refusal 0) (written (record_bytes p.automaton)) (said (refusal_line p.refusal))

-- the second sheet, from a place to the input's end; the place of its fault counts from the
-- input's first byte
unfoldable pub second_from : List ℕ → ℕ → Parsed
second_from s from = automaton_at from (length s - from) (parse (drop from s))

-- 18, then the first fault from the left, then what becomes of the two records
unfoldable pub merging : List ℕ → Output
merging s =
    let a = opening s in
    let b = second_from s a.place in
    cond (ltb max_input (length s))
    (said (refusal_line 18))
    (cond (eqb a.refusal 0)
    (cond (eqb b.refusal 0)
    (merged_records a.automaton b.automaton)
    (said (fault_line b.refusal b.place)))
    (said (fault_line a.refusal a.place)))

unfoldable pub merge_output : List ℕ → List ℕ
merge_output s = (merging s).bytes

unfoldable pub merge_note : List ℕ → List ℕ
merge_note s = (merging s).note
