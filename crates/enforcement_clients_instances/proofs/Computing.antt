-- What computes the calls over a list of clients, and the published functions.
use Prim.Native.Nat.{ℕ}
use Rattle.base.specs.Each.{each, count, those, last_or}
use Rattle.base.specs.Rows.{first}
use Rattle.base.specs.Pad.{pad}
use Rattle.base.specs.Masks.{has, mask}
use Rattle.varint.specs.Varint.{groups, read}
use Rattle.automaton.specs.Arrays.{controllable_in}
use Rattle.automaton.specs.Automaton.{controllable, controllables, accepts, step, reached}
use Rattle.solver_sets.specs.Table.{index, rank, in_base_k, shorter, buffers_count, short}
use Rattle.solver_sets.specs.Sets.{accepting_set, admits, stays, refine, settle, settled, sets_of, empty_sets, into, sets_for}
use Rattle.configuration.specs.Configuration.{held_events, place_numbers, controllable_symbol, place_stands, buffer_stands, input_stands, inputs_stand}
use Rattle.configuration.specs.Configuration.{consistent_in, initial_of}
use Rattle.monitor_rule.specs.Step.{by_sets, by_table, qualifies, qualifying, release, remaining, arrival, effect, in_line, sources}
use Rattle.monitor_rule.specs.Step.{is_shut, event_rows, event_refusal}
use Rattle.monitor_answers.specs.Answers.{table_rows, configuration_rows, is_winning, room}
use Rattle.monitor_answers.specs.Turns.{turn_rows, turn_refusal, turn_emitted, turn_sources, turn_next}
use Rattle.enforcement.specs.Store.{state_of, added, released, store, store_all, refused_of}
use Rattle.enforcement.specs.Calls.{configuration_at, since, sources_since}
use Rattle.enforcement_cases.specs.Cases.{automaton_w}
use Rattle.enforcement_instances.proofs.Sheets.{computing}
use Rattle.clients_answers.specs.Listed.{outcome, changed, outcomes, changed_by, events_of, part_of, alone, after_alone}
use Rattle.clients_answers.specs.Clients.{initial_clients, client_of, symbol_of, named, list_rows, list_refusal, client_rows}
use Rattle.clients_answers.specs.Clients.{emitted_of, refused_in, receive_for_refusal, received_for, received_clients}
use Rattle.clients_answers.specs.Clients.{held_in, held_in_all, run_for_refusal, day_outcomes, ran_for, ran_clients, ran_for_buffer}
use Rattle.clients_answers.specs.Claims.{sum_below, answers, clients_after, all_emitted, all_refused}
use Rattle.feed_record.specs.Serials.{distance, following, ahead}
use Rattle.feed_record.specs.Records.{numbers, byte_rows, record_in, serial_rows, record_rows, admission}
use Rattle.feed_answers.specs.Feed.{entry_refusal, feed_refusal, fed_for, event_in, fed_clients}
use Rattle.enforcement_clients.specs.ClientCalls.{lent_by, events_by, refusal_in, reply, leaves, replies, leaves_all, whole_refusal, reaches}
use Rattle.enforcement_clients.specs.ClientCalls.{own_by, own_all, seen_by, seen_all, meetings, moments_from, moments_of}
use Rattle.enforcement_clients.specs.Functions.{fed_own, bad_count, no_room, refusal_of, fed_in, put_out, absentees, refused_day, event_refusal_of}
use Rattle.enforcement_clients.specs.Functions.{answer_in, expected_in, lent_of, expected, fed, expected_all, fed_all, events_in, events_to, configurations_at}
use Rattle.enforcement_clients.specs.Claims.{outcomes_to}

-- the step of a client, without row 11's check, which is long (it is rewritten by what is known)
unfoldable pub stepping : ℕ
unfolding
    each count those last_or first pad has mask controllable controllables controllable_in step reached
    index rank in_base_k shorter buffers_count short
    held_events place_numbers controllable_symbol place_stands buffer_stands input_stands inputs_stand consistent_in initial_of
    by_table qualifies qualifying release remaining arrival effect in_line sources is_shut event_rows event_refusal
    configuration_rows is_winning turn_rows turn_refusal turn_emitted turn_sources turn_next automaton_w
    outcome changed outcomes changed_by events_of part_of alone after_alone
    initial_clients client_of symbol_of named emitted_of refused_in held_in held_in_all sum_below
stepping = 0

-- one record of the feed by itself
unfoldable pub admitting : ℕ
unfolding
    first groups read numbers byte_rows record_in serial_rows record_rows distance following ahead admission
admitting = 0

-- one event, a day, and a record of the feed
unfoldable pub listing : ℕ
unfolding
    stepping admitting entry_refusal feed_refusal fed_for event_in fed_clients table_rows room list_rows list_refusal client_rows
    receive_for_refusal received_for received_clients run_for_refusal day_outcomes ran_for ran_clients ran_for_buffer
    answers clients_after all_emitted all_refused
listing = 0

-- lists of calls, with row 11's check
unfoldable pub calling : ℕ
unfolding
    listing computing lent_by events_by refusal_in reply leaves replies leaves_all whole_refusal reaches
    own_by own_all seen_by seen_all meetings moments_from moments_of outcomes_to
calling = 0

-- one published function, which reads no table
unfoldable pub storing : ℕ
unfolding
    stepping accepts accepting_set admits stays refine settle settled sets_of empty_sets into sets_for by_sets
    state_of added released store store_all refused_of configuration_at since sources_since
storing = 0

-- all of them
unfoldable pub feeding : ℕ
unfolding
    storing admitting event_in lent_by events_by refusal_in fed_own bad_count no_room refusal_of fed_in put_out absentees refused_day event_refusal_of
    answer_in expected_in lent_of expected fed expected_all fed_all events_in events_to configurations_at
feeding = 0
