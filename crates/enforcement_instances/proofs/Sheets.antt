-- The sheets V and W: they pass row 11, and their tables are solved.
use mathlib.Core.Path.{◌≡◌, refl}
use mathlib.Core.Bool.{true}
use mathlib.Core.List.{[], append-nil}
use Prim.Native.Nat.{ℕ}
use Rattle.base.specs.Each.{each, count, those, last_or}
use Rattle.base.specs.Rows.{first}
use Rattle.base.specs.Pad.{pad}
use Rattle.base.specs.Masks.{has, mask}
use Rattle.varint.specs.Varint.{groups, read}
use Rattle.automaton.specs.Arrays.{controllable_in, stands, places_stand}
use Rattle.automaton.specs.Automaton.{controllable, controllables, step, reached}
use Rattle.automaton.specs.Automaton.{shaped, ranged, classes_stand, flags_stand, next_stand, valid}
use Rattle.automaton_format.specs.Reading.{checked, between, item_row, numbers, next_states, after_number, after_numbers, tables, automaton_from, parse, parsed}
use Rattle.automaton_format.proofs.Trips.{read-is-valid}
use Rattle.solver_sets.specs.Table.{index, rank, in_base_k, shorter, buffers_count, short, table, Solved}
use Rattle.solver_sets.proofs.Tables.{table-is-solved}
use Rattle.solver_answers.specs.Solving.{solve_refusal, solved_table}
use Rattle.solver_answers.proofs.Answers.{leaves-solved}
use Rattle.configuration.specs.Configuration.{held_events, place_numbers, controllable_symbol, place_stands, buffer_stands, input_stands, inputs_stand}
use Rattle.configuration.specs.Configuration.{consistent_in, initial_of}
use Rattle.monitor_rule.specs.Step.{by_table, qualifies, qualifying, release, remaining, arrival, effect}
use Rattle.monitor_rule.specs.Step.{in_line, sources, is_shut, event_rows, event_refusal, run_of}
use Rattle.monitor_answers.specs.Answers.{table_rows, configuration_rows, call_rows, is_winning, call_refusal, status, receive_refusal, received, room, run_refusal, ran}
use Rattle.enforcement_cases.specs.Cases.{bytes_w, automaton_v, automaton_w}
use Rattle.enforcement_cases.proofs.Cases.{marked-cases}
use Rattle.enforcement_instances.specs.Statements.{filled, padded_v, table_w}

pub valid-w : valid automaton_w ≡ true
valid-w = read-is-valid bytes_w automaton_w marked-cases.1.0

pub read-v : parse padded_v ≡ parsed automaton_v
unfolding
    each count pad groups read controllable_in first
    checked between item_row numbers next_states after_number after_numbers tables automaton_from parse automaton_v
read-v = refl

pub valid-v : valid automaton_v ≡ true
valid-v = read-is-valid padded_v automaton_v read-v

-- what the solver asks of W's table
pub solves_w : solve_refusal automaton_w (filled 16 9) ≡ 0
unfolding solve_refusal first short buffers_count shorter controllables controllable_in count automaton_w pad
solves_w = rw valid-w refl

pub buffers-w : buffers_count automaton_w ≡ 7
unfolding buffers_count shorter controllables controllable_in count automaton_w pad
buffers-w = refl

-- W's table is that of the marked cases
pub table-w : solved_table automaton_w (filled 16 9) ≡ table_w
unfolding solved_table buffers_count shorter controllables controllable_in count automaton_w pad
table-w = rw (solves_w, marked-cases.1.1.1.0.0) refl

pub solved-w : Solved automaton_w table_w
solved-w = rw table-w at (leaves-solved automaton_w (filled 16 9) solves_w)

-- the table that document 01 has for V
pub solved-v : Solved automaton_v (table automaton_v)
solved-v = rw (append-nil (table automaton_v)) at ((table-is-solved automaton_v valid-v).1 [])

-- what computes a call over W's table
unfoldable pub computing : ℕ
unfolding
    each count those last_or first pad has mask step reached controllable controllables controllable_in
    stands places_stand shaped ranged classes_stand flags_stand next_stand valid
    held_events place_numbers controllable_symbol place_stands buffer_stands input_stands inputs_stand consistent_in initial_of
    shorter rank in_base_k index buffers_count short
    by_table qualifies qualifying release remaining arrival effect in_line sources is_shut event_rows event_refusal
    table_rows configuration_rows call_rows call_refusal is_winning status receive_refusal received room run_refusal run_of ran automaton_w
computing = 0
