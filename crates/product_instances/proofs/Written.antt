-- The instances of the claims on what the program `merge` writes.
use Prim.Native.Nat.{ℕ, ◌*◌, ◌<◌, ◌≤◌}
use mathlib.Core.Path.{◌≡◌, refl}
use mathlib.Core.Logic.{inl}
use mathlib.Core.List.{List, []}
use native.Mathlib.Omega.{arith}
use lib.ListN.{length, drop, replicate, length-replicate}
use borrow.Author.Tests.{le-leb}
use Rattle.base.specs.Each.{each, count}
use Rattle.base.specs.Pad.{pad}
use Rattle.base.specs.Rows.{first}
use Rattle.base.proofs.Bools.{either}
use Rattle.varint.specs.Varint.{groups, read}
use Rattle.automaton.specs.Arrays.{controllable_in}
use Rattle.automaton_format.specs.Reading.{parsed, checked, between, item_row, numbers, next_states, after_number, after_numbers, tables, automaton_from, parse}
use Rattle.automaton_format.specs.Writing.{record_bytes}
use Rattle.automaton_format.specs.Opening.{automaton_at, opening}
use Rattle.text_lines.specs.Lines.{max_input}
use Rattle.product_rule.specs.Product.{product_of}
use Rattle.product_rule.specs.Claims.{Matching, sheet_v, no_answer}
use Rattle.product_merge.specs.Outputs.{merge_output}
use Rattle.product_merge.specs.Claims as written
use Rattle.product_merge.specs.Claims.{TwoSheets}
use Rattle.product_merge.proofs.Cases.{cases-merged}
use Rattle.product_merge.proofs.Worded.{merge_rows_as_worded, bytes-or-line}
use Rattle.product_instances.specs.Written.{two, other, six_twice, sheet_six, first_faulty, second_faulty, Written}

-- what a sheet is read by
unfoldable reading : ℕ
unfolding
    each count pad first groups read controllable_in checked between item_row numbers next_states after_number after_numbers tables automaton_from parse
    automaton_at opening written.v written.no_answer written.six sheet_v no_answer
reading = 0

-- V and the other
two-read : TwoSheets two sheet_v no_answer
unfolding reading
two-read = record { few = omega arith; first = (refl, refl); second = refl }

matching : Matching sheet_v no_answer
unfolding sheet_v no_answer
matching =
    let v = (merge_rows_as_worded two).never-11 sheet_v no_answer two-read in
    record { first-valid = v.0; second-valid = v.1; same_number = refl; same_class = λ e _. refl }

-- V and six states, which have one symbol
other-read : TwoSheets other sheet_v sheet_six
unfolding reading
other-read = record { few = omega arith; first = (refl, refl); second = refl }

one_symbol : sheet_v.symbols ≡ sheet_six.symbols → ⊥
unfolding reading
one_symbol h = omega arith

-- six states twice
six-read : TwoSheets six_twice sheet_six sheet_six
unfolding reading
six-read = record { few = omega arith; first = (refl, refl); second = refl }

six_matching : Matching sheet_six sheet_six
six_matching =
    let v = (merge_rows_as_worded six_twice).never-11 sheet_six sheet_six six-read in
    record { first-valid = v.0; second-valid = v.1; same_number = refl; same_class = λ e _. refl }

thirty_six : 32 < sheet_six.states * sheet_six.states
unfolding reading
thirty_six = omega arith

-- the faults: row and place of the first, and of the second
first_found : ((opening first_faulty).refusal ≡ 4) × ((opening first_faulty).place ≡ 2)
unfolding reading
first_found = (refl, refl)

abbrev second-part : List ℕ
second-part = drop (opening second_faulty).place second_faulty

second-found : ((opening second_faulty).refusal ≡ 0) × ((opening second_faulty).place ≡ 16) × ((parse second-part).refusal ≡ 6) × ((parse second-part).place ≡ 3)
unfolding reading
second-found = (refl, refl, refl, refl)

second_short : length second_faulty ≤ max_input
unfolding written.v
second_short = omega arith

few : sheet_v.states * no_answer.states ≤ 32
unfolding sheet_v no_answer
few = omega arith

product-written : written.Writes two (record_bytes (product_of sheet_v no_answer)) × (parse (merge_output two) ≡ parsed (product_of sheet_v no_answer))
product-written = (merge_rows_as_worded two).merged sheet_v no_answer two-read matching few

pub written-met : Written
written-met =
    let rows = merge_rows_as_worded in
    let (row, place) = first_found in
    let (none, from, second-row, second-place) = second-found in
    record {
      both = two-read;
      product = product-written;
      pass-11 = (rows two).never-11 sheet_v no_answer two-read;
      room = le-leb _ _ (rows two).never-16;
      row_24 = (rows other).row_24 sheet_v sheet_six other-read (inl one_symbol);
      row_25 = (rows six_twice).row_25 sheet_six sheet_six six-read six_matching thirty_six;
      first-fault = rw (row, place) at ((rows first_faulty).first-fault (omega arith) (λ z. omega arith));
      second-fault = rw (second-row, second-place, from) at ((rows second_faulty).second-fault second_short none (λ z. omega arith));
      row-18 = (rows (replicate 60001 0)).row-18 (omega (arith, length-replicate {A = ℕ} 60001 0));
      no_line = either (bytes-or-line two) (λ x. x) (λ x. absurd (x.1 product-written.0.1));
      no_bytes = either (bytes-or-line []) (λ x. absurd (x.0 cases-merged.nothing.0)) (λ x. x);
    }
