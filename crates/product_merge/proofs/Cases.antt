-- The cases are written as they should be, by computation.
use Prim.Native.Nat.{ℕ, ◌<◌}
use mathlib.Core.Path.{refl, ap}
use mathlib.Core.List.{List}
use lib.ListN.{length}
use Rattle.base.specs.Each.{each, count}
use Rattle.base.specs.Pad.{pad}
use Rattle.base.specs.Rows.{first}
use Rattle.base.specs.Tabulate.{tabulate, blocks}
use Rattle.varint.specs.Varint.{groups, read, encode, bytes, encoded}
use Rattle.automaton.specs.Arrays.{controllable_in, stands, places_stand}
use Rattle.automaton.specs.Automaton.{controllables, shaped, ranged, classes_stand, flags_stand, next_stand, valid}
use Rattle.automaton_format.specs.Reading.{checked, between, item_row, numbers, next_states, after_number, after_numbers, tables, automaton_from, parse}
use Rattle.automaton_format.specs.Writing.{next_numbers, record_numbers, record_bytes}
use Rattle.automaton_format.specs.Opening.{automaton_at, opening}
use Rattle.text.specs.Decimal.{ascii, digit, digits, decimal}
use Rattle.text_lines.specs.Lines.{fault_line, refusal_line}
use Rattle.product_rule.specs.Pairs.{pair_flags, pair_next, pair_states, same_classes}
use Rattle.product_rule.specs.Product.{product_of, same_symbols, product_refusal, product_answer}
use Rattle.product_merge.specs.Outputs.{merged_records, second_from, merging, merge_output, merge_note}
use Rattle.product_merge.specs.Claims.{v, no_answer, merged_v, six, four, eight, four_by_eight, SaysLine, CasesMerged}
use Rattle.product_merge.proofs.Merging.{merge_long}

-- every definition that the output rests on
unfoldable all : ℕ
unfolding each count pad first tabulate blocks groups read encode bytes encoded controllable_in stands places_stand controllables shaped ranged
    classes_stand flags_stand next_stand valid checked between item_row numbers next_states after_number after_numbers tables automaton_from
    parse next_numbers record_numbers record_bytes automaton_at opening ascii digit digits decimal fault_line refusal_line pair_flags
    pair_next pair_states same_classes product_of same_symbols product_refusal product_answer merged_records second_from merging merge_output
    merge_note v no_answer merged_v six four eight four_by_eight
all = 0

long-said : (s : List ℕ) → 60000 < length s → SaysLine s "refused 18"
unfolding merge_output merge_note refusal_line decimal digits digit ascii
long-said s h = let e = merge_long s h in (ap (λ o. o.bytes) e, ap (λ o. o.note) e)

pub cases-merged : CasesMerged
unfolding all
cases-merged =
    record {
      merged = (refl, refl);
      nothing = (refl, refl);
      length-too-long = (refl, refl);
      too_few = (refl, refl);
      first-fault = (refl, refl);
      second-missing = (refl, refl);
      second-fault = (refl, refl);
      more_bytes = (refl, refl);
      symbols-differ = (refl, refl);
      classes_differ = (refl, refl);
      too_many = (refl, refl);
      thirty_two = (refl, refl);
      too_long = long-said;
    }
