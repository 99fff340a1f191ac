-- The marked cases compute.
use Prim.Native.Nat.{ℕ}
use mathlib.Core.Path.{refl}
use lib.ListN.{drop}
use Rattle.base.specs.All.{AllOf}
use Rattle.base.specs.Each.{each, count, those, last_or}
use Rattle.base.specs.Rows.{first}
use Rattle.base.specs.Pad.{pad}
use Rattle.base.specs.Masks.{has, mask}
use Rattle.varint.specs.Varint.{groups, read, encode, bytes}
use Rattle.automaton.specs.Arrays.{controllable_in, stands, places_stand}
use Rattle.automaton.specs.Automaton.{controllable, controllables, accepts, step, reached, shaped, ranged, classes_stand, flags_stand, next_stand, valid}
use Rattle.automaton_format.specs.Reading.{checked, between, item_row, numbers, next_states, after_number, after_numbers, tables, automaton_from, parse}
use Rattle.solver_sets.specs.Sets.{accepting_set, admits, stays, refine, settle, settled, sets_of, empty_sets, into, sets_for}
use Rattle.solver_sets.specs.Table.{rank, in_base_k, shorter, index, buffers_count, short, extended, buffers_at, buffers_to, pairs, rounds_sum, table, rounds}
use Rattle.configuration.specs.Configuration.{held_events, place_numbers, controllable_symbol, place_stands, buffer_stands, input_stands, inputs_stand, consistent_in, initial_of}
use Rattle.solver_answers.specs.Solving.{count_answer}
use Rattle.monitor_rule.specs.Step.{by_table, qualifies, qualifying, release, remaining, arrival, effect, in_line, sources, is_shut, event_rows}
use Rattle.monitor_answers.specs.Answers.{table_rows, configuration_rows, call_rows, is_winning, call_refusal, status, receive_refusal, received}
use Rattle.enforcement.specs.Calls.{handed_back, reply, replies}
use Rattle.enforcement_cases.specs.Cases.{automaton_v, automaton_w, automaton_pair, behind, sized, Holds, cases, MarkedCases}

-- all that a case computes by
unfoldable opened : ℕ
unfolding
    each count those last_or first pad has mask
    groups read encode bytes
    controllable_in stands places_stand controllable controllables accepts step reached shaped ranged classes_stand flags_stand next_stand valid
    checked between item_row numbers next_states after_number after_numbers tables automaton_from parse
    accepting_set admits stays refine settle settled sets_of empty_sets into sets_for
    rank in_base_k shorter index buffers_count short extended buffers_at buffers_to pairs rounds_sum table rounds
    held_events place_numbers controllable_symbol place_stands buffer_stands input_stands inputs_stand consistent_in initial_of count_answer
    by_table qualifies qualifying release remaining arrival effect in_line sources is_shut event_rows
    table_rows configuration_rows call_rows is_winning call_refusal status receive_refusal received handed_back reply replies
    automaton_v automaton_w automaton_pair behind sized
opened = 0

-- numbers and their bytes, and how many buffers there are
numbers_hold : AllOf Holds (drop 27 cases)
unfolding opened
numbers_hold = ((refl, refl), ((refl, refl), ((refl, refl), (refl, ((refl, refl), ((refl, refl), ((refl, refl), tt)))))))

-- the end of the input count, and row 13
ends_hold : AllOf Holds (drop 16 cases)
unfolding opened
ends_hold = (refl, (refl, (refl, (refl, (refl, (refl, (refl, (refl, (refl, (refl, (refl, numbers_hold)))))))))))

-- a full buffer
full_hold : AllOf Holds (drop 12 cases)
unfolding opened
full_hold = (refl, (refl, (refl, (refl, ends_hold))))

pub marked-cases : MarkedCases
unfolding opened
marked-cases = (refl, (refl, ((refl, refl), ((refl, refl), (refl, (refl, (refl, (refl, (refl, (refl, (refl, (refl, full_hold))))))))))))
