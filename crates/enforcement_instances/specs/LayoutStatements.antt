-- The claims on what lies where in lent bytes and on what a call leaves there, at W's bytes and at
-- bytes of any contents.
use Rattle.std.specs.Prelude.{ℕ, ◌+◌, ◌*◌, ◌≡◌, true, false, List, [], ◌∷◌, map, length}
use Rattle.configuration.specs.declared.Configuration.{Configuration}
use Rattle.configuration.specs.Configuration.{configuration, initial_of}
use Rattle.game.specs.Game.{Verdict}
use Rattle.monitor_answers.specs.declared.Status.{Status}
use Rattle.monitor_answers.specs.declared.Received.{Received}
use Rattle.monitor_answers.specs.declared.Ran.{Ran}
use Rattle.monitor_answers.specs.Answers.{received, ran}
use Rattle.enforcement.specs.Calls.{Call, replies}
use Rattle.enforcement.specs.Claims.{Enforced}
use Rattle.enforcement_cases.specs.Cases.{automaton_w, at, answer}
use Rattle.c_layout.specs.Offsets.{max_symbols, automaton_size, automaton_states}
use Rattle.c_layout.specs.Offsets.{automaton_symbols, automaton_capacity, automaton_initial}
use Rattle.c_layout.specs.Offsets.{automaton_classes, automaton_accepting, automaton_next}
use Rattle.c_layout.specs.Offsets.{configuration_size, configuration_state, configuration_held}
use Rattle.c_layout.specs.Offsets.{configuration_buffer, configuration_places, configuration_received, configuration_emitted}
use Rattle.c_layout.specs.Offsets.{place_size, number_size, status_size}
use Rattle.c_layout.specs.Offsets.{received_size, received_emitted, received_count, received_winning, received_places}
use Rattle.c_layout.specs.Offsets.{ran_size, ran_length, ran_refused, verdict_size, verdict_may_rest, verdict_can_rest}
use Rattle.c_layout.specs.Layout.{byte_at, part, automaton_bytes, automaton_of}
use Rattle.c_layout.specs.Layout.{configuration_bytes, configuration_of, number_bytes, number_of}
use Rattle.c_layout.specs.Answers.{status_bytes, verdict_bytes}
use Rattle.c_layout.specs.Calls.{initial_bytes, received_left, ran_left, receive_leaves, run_leaves}
use Rattle.enforcement_bytes.specs.ByteCalls.{laid, leaves_all}
use Rattle.enforcement_instances.specs.Statements.{filled, table_w}

-- W's record in bytes
abbrev pub record_w : List ℕ
record_w = automaton_bytes automaton_w

-- a configuration of W: state 1, Page held at place 300 of 70,001; and its bytes
abbrev pub late_page : Configuration
late_page = configuration (at 1 (2 ∷ []) (300 ∷ []) 70001 70000)

abbrev pub held_page : List ℕ
held_page = configuration_bytes late_page

-- W's answer to Sign, at place 302, with Page and Receipt held, at 300 and 301; a day's, with 300
-- bytes of output and 2 events refused; the game's, where rest is only to be reached; and a yes
abbrev pub signed : Received
signed = answer 0 (0 ∷ 2 ∷ 3 ∷ []) (302 ∷ 300 ∷ 301 ∷ []) (at 1 [] [] 303 303) true

abbrev pub long_run : Ran
long_run = record { refusal = 0; configuration = configuration (at 1 [] [] 300 300); length = 300; refused = 2 }

abbrev pub later : Verdict
later = record { refusal = 0; may_rest = false; can_rest = true }

abbrev pub says_yes : Status
says_yes = record { refusal = 0; winning = true }

-- what stands at each offset of lent bytes
pub record Placed : Type 0 where
  pub automaton-size : length record_w ≡ automaton_size
  pub states : byte_at record_w automaton_states ≡ 4
  pub symbols : byte_at record_w automaton_symbols ≡ 4
  pub capacity : byte_at record_w automaton_capacity ≡ 2
  pub initial : byte_at record_w automaton_initial ≡ 0
  -- Page is controllable, state 1 is accepting, Receipt leads from state 2 to state 1
  pub classes : byte_at record_w (automaton_classes + 2) ≡ 1
  pub accepting : byte_at record_w (automaton_accepting + 1) ≡ 1
  pub next : byte_at record_w (automaton_next + 2 * max_symbols + 3) ≡ 1
  -- taken out of any bytes
  pub automaton-out : byte_at (filled automaton_size 7) automaton_capacity ≡ (automaton_of (filled automaton_size 7)).capacity
  pub configuration-size : length held_page ≡ configuration_size
  pub state : byte_at held_page configuration_state ≡ 1
  pub held : byte_at held_page configuration_held ≡ 1
  pub buffer : byte_at held_page (configuration_buffer + 0) ≡ 2
  -- the place in the input, low byte first, 300 is 44 and 1; both counts
  pub place-low-first : (byte_at held_page (configuration_places + 0 * place_size + 0) ≡ 44)
      × (byte_at held_page (configuration_places + 0 * place_size + 1) ≡ 1)
  pub place : number_of (part (configuration_places + 0 * place_size) place_size held_page) ≡ 300
  pub received-count : number_of (part configuration_received place_size held_page) ≡ 70001
  pub emitted-count : number_of (part configuration_emitted place_size held_page) ≡ 70000
  pub configuration-out : byte_at (filled configuration_size 7) configuration_held
      ≡ (configuration_of (filled configuration_size 7)).held
  pub number-size : length (number_bytes number_size 60001) ≡ number_size
  pub number-low-first : byte_at (number_bytes number_size 60001) (0 + 1) ≡ 234
  pub number-value : number_of (part 0 number_size (number_bytes number_size 60001)) ≡ 60001
  pub status-size : length (status_bytes says_yes) ≡ status_size
  pub status : byte_at (status_bytes says_yes) 0 ≡ 1
  pub received-size : length (received_left signed).answer ≡ received_size
  pub emitted : byte_at (received_left signed).answer (received_emitted + 2) ≡ 3
  pub count : byte_at (received_left signed).answer received_count ≡ 3
  pub winning : byte_at (received_left signed).answer received_winning ≡ 1
  -- Sign's place, and Receipt's
  pub emitted-place : number_of (part (received_places + 0 * place_size) place_size (received_left signed).answer) ≡ 302
  pub emitted-place-low-first : byte_at (received_left signed).answer (received_places + 2 * place_size + 0) ≡ 45
  pub ran-size : length (ran_left long_run []).answer ≡ ran_size
  pub written-low-first : byte_at (ran_left long_run []).answer (ran_length + 1) ≡ 1
  pub written : number_of (part ran_length number_size (ran_left long_run []).answer) ≡ 300
  pub refused : number_of (part ran_refused number_size (ran_left long_run []).answer) ≡ 2
  pub verdict-size : length (verdict_bytes later) ≡ verdict_size
  pub may-rest : byte_at (verdict_bytes later) verdict_may_rest ≡ 0
  pub can-rest : byte_at (verdict_bytes later) verdict_can_rest ≡ 1

-- bytes of any contents, and a configuration's that are all 0
abbrev pub any_record : List ℕ
any_record = filled automaton_size 7

abbrev pub any_bytes : List ℕ
any_bytes = filled configuration_size 7

abbrev pub at_zero : List ℕ
at_zero = filled configuration_size 0

-- what lies where in lent bytes
pub record Layouts : Type 0 where
  pub offsets_hold : Placed
  pub automaton-kept : automaton_of record_w ≡ automaton_w
  pub automaton-bytes-kept : automaton_bytes (automaton_of any_record) ≡ any_record
  pub configuration-kept : configuration_of held_page ≡ late_page
  pub configuration-bytes-kept : configuration_bytes (configuration_of any_bytes) ≡ any_bytes
  pub number-kept : number_of (number_bytes number_size 60001) ≡ 60001
  -- a record with seven states, seven kinds and seven places in its buffer
  pub refused-initial_keeps : initial_bytes any_record any_bytes ≡ any_bytes
  -- an event that W has no kind for
  pub refused-event_keeps : ((receive_leaves record_w table_w at_zero 4).configuration ≡ at_zero)
      × ((receive_leaves record_w table_w at_zero 4).answer ≡ filled received_size 0)
  -- a day of one event with no room
  pub refused-run_keeps : ((run_leaves record_w table_w at_zero (0 ∷ []) []).configuration ≡ at_zero)
      × ((run_leaves record_w table_w at_zero (0 ∷ []) []).answer ≡ filled ran_size 0)
      × ((run_leaves record_w table_w at_zero (0 ∷ []) []).output ≡ [])
  -- W's initial configuration, over bytes that held something else
  pub initial_handed_on : configuration_of (initial_bytes record_w any_bytes) ≡ initial_of (automaton_of record_w)
  pub event_handed_on : configuration_of (receive_leaves record_w table_w at_zero 0).configuration
      ≡ (received (automaton_of record_w) table_w (configuration_of at_zero) 0).configuration
  pub run_handed_on : configuration_of (run_leaves record_w table_w at_zero (0 ∷ 2 ∷ []) (filled 2 9)).configuration
      ≡ (ran (automaton_of record_w) table_w (configuration_of at_zero) (0 ∷ 2 ∷ []) (filled 2 9)).configuration
  -- what a call leaves beside its answer
  pub left_as_answered : ((received_left signed).refusal ≡ 0)
      × ((ran_left long_run (7 ∷ [])).refusal ≡ 0)
      × ((ran_left long_run (7 ∷ [])).output ≡ 7 ∷ [])
  -- calls through the interface over W's bytes
  pub as_by_value : (xs : List Call) → leaves_all record_w table_w at_zero xs
      ≡ map laid (replies (automaton_of record_w) table_w (configuration_of at_zero) xs)
  -- W's record in its bytes, any calls
  pub bytes-enforced : (xs : List Call) → (leaves_all record_w table_w (initial_bytes record_w any_bytes) xs
      ≡ map laid (replies (automaton_of record_w) table_w (initial_of (automaton_of record_w)) xs))
      × Enforced (automaton_of record_w) table_w xs
