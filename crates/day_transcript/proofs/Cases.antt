-- The cases are printed as they should be, by computation.
use Prim.Native.Nat.{ℕ}
use mathlib.Core.Path.{refl}
use borrow.Author.Tests.{lt-ltb}
use lib.ListN.{length}
use Rattle.base.specs.Each.{each, count, those, last_or}
use Rattle.base.specs.Masks.{has, mask}
use Rattle.base.specs.Pad.{pad}
use Rattle.base.specs.Rows.{first}
use Rattle.varint.specs.Varint.{groups, read}
use Rattle.automaton.specs.Arrays.{controllable_in, stands, places_stand}
use Rattle.automaton.specs.Automaton.{controllable, controllables, accepts, step, reached, shaped, ranged, classes_stand, flags_stand, next_stand, valid}
use Rattle.automaton_format.specs.Reading.{checked, between, item_row, numbers, next_states, after_number, after_numbers, tables, automaton_from, parse}
use Rattle.automaton_format.specs.Opening.{automaton_at, opening}
use Rattle.solver_sets.specs.Sets.{accepting_set, admits, stays, refine, settle, settled, sets_of, empty_sets, into, sets_for}
use Rattle.solver_sets.specs.Table.{rank, in_base_k, shorter, index, buffers_count, short, extended, buffers_at, buffers_to, pairs, table}
use Rattle.configuration.specs.Configuration.{held_events, controllable_symbol, place_stands, buffer_stands, place_numbers, input_stands, inputs_stand, consistent_in, initial_of}
use Rattle.monitor_rule.specs.Step.{by_table, qualifies, qualifying, release, remaining, arrival, effect, in_line, sources, is_shut, event_rows}
use Rattle.monitor_answers.specs.Answers.{table_rows, configuration_rows, call_rows, is_winning, call_refusal, status, receive_refusal, received}
use Rattle.text.specs.Decimal.{ascii, digit, digits, decimal}
use Rattle.text_lines.specs.Lines.{refused_event_line, end_line, fault_line, refusal_line}
use Rattle.day_lines.specs.StatusLines.{winning_end, automaton_line, spaced, emission, event_line}
use Rattle.day_transcript.specs.Transcript.{session_from, first_line, answer_line, after, event_lines, session_lines, too_long, over_places, transcript}
use Rattle.day_transcript.specs.Claims.{v, w, large, lines, CasesPrinted, LongRefused}

-- every definition that the transcript rests on
unfoldable all : ℕ
unfolding each count those last_or has mask pad first groups read controllable_in stands places_stand controllable controllables
    accepts step reached shaped ranged classes_stand flags_stand next_stand valid checked between item_row numbers next_states after_number after_numbers tables
    automaton_from parse accepting_set admits stays refine settle settled sets_of empty_sets into sets_for rank in_base_k shorter index
    buffers_count short extended buffers_at buffers_to pairs table held_events controllable_symbol place_stands buffer_stands
    place_numbers input_stands inputs_stand consistent_in initial_of by_table qualifies qualifying release remaining arrival effect in_line sources is_shut event_rows table_rows configuration_rows
    call_rows is_winning
    call_refusal status receive_refusal received ascii digit digits decimal spaced emission event_line refused_event_line end_line
    fault_line refusal_line opening session_from first_line answer_line after event_lines session_lines too_long over_places transcript v w large
    lines winning_end automaton_line automaton_at
all = 0

pub cases_printed : CasesPrinted
unfolding all
cases_printed =
    record {
      sample = refl;
      full-opened = refl;
      row-15 = refl;
      event-unfinished = refl;
      padded-length = refl;
      too_large = refl;
    }

pub long-refused : LongRefused
unfolding transcript too_long refusal_line decimal digits digit ascii lines
long-refused s h = rw (lt-ltb 60000 (length s) h)
