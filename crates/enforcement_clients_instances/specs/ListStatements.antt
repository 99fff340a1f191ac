-- The claims on the calls over a list of clients at sheet W, hypotheses met.
use Rattle.std.specs.Prelude.{ℕ, ◌+◌, ◌*◌, ◌<◌, ◌≤◌, ◌≡◌, ◌⊎◌, true, false, List, [], ◌∷◌, ◌++◌, map, length, get_or, take, drop, replicate}
use Rattle.base.specs.Pad.{pad}
use Rattle.automaton.specs.declared.Automaton.{Automaton}
use Rattle.automaton.specs.Automaton.{valid}
use Rattle.solver_sets.specs.Table.{short, table}
use Rattle.configuration_places.specs.Places.{input_place, input_number, output_place}
use Rattle.configuration.specs.declared.Configuration.{Configuration}
use Rattle.configuration.specs.Configuration.{configuration, held_events, consistent}
use Rattle.monitor_rule.specs.Claims.{Opens, Tabled}
use Rattle.enforcement_cases.specs.Cases.{automaton_v, automaton_w, at}
use Rattle.enforcement_instances.specs.Statements.{filled, table_w}
use Rattle.enforcement_instances.specs.MonitorStatements.{wide_v}
use Rattle.clients_answers.specs.declared.ReceivedFor.{ReceivedFor}
use Rattle.clients_answers.specs.Listed.{Stepping, outcome, changed, outcomes, changed_by, events_of, part_of}
use Rattle.clients_answers.specs.Clients.{none, initial_clients, named, Outcome, monitored, emitted_of, held_in, held_in_all}
use Rattle.clients_answers.specs.Clients.{receive_for_refusal, refused_for, received_for, received_clients}
use Rattle.clients_answers.specs.Clients.{run_for_refusal, day_outcomes, refused_run_for, ran_for, ran_clients, ran_for_buffer}
use Rattle.clients_answers.specs.Claims.{WrongCount, answers, clients_after, outcome_of, all_emitted, all_refused}

-- an event of a day's list, by its client and symbol
abbrev pub sent : ℕ → ℕ → ℕ
sent g e = g * 65536 + e

-- a configuration that row 13 refuses: no such state, 200 held, and counts of any value
abbrev pub broken : Configuration
broken =
    record {
      state = 9;
      held = 200;
      buffer = replicate 6 7;
      places = replicate 6 (input_place 7);
      received = input_place 0;
      emitted = output_place 4294967295;
    }

-- a client that asked for a Page before it signed; that client when it has signed, and when a
-- Receipt has then let the Page go
abbrev pub waiting : Configuration
waiting = configuration (at 0 (2 ∷ []) (0 ∷ []) 1 0)

abbrev pub waiting_signed : Configuration
waiting_signed = configuration (at 1 (2 ∷ []) (0 ∷ []) 2 1)

abbrev pub waiting_served : Configuration
waiting_served = configuration (at 1 [] [] 3 3)

-- a client that signed, and one that then asked for two Pages
abbrev pub signed_once : Configuration
signed_once = configuration (at 1 [] [] 1 1)

abbrev pub full : Configuration
full = configuration (at 1 (2 ∷ 2 ∷ []) (1 ∷ 2 ∷ []) 3 1)

-- it is client 0 here, beside a broken one and one that signed
abbrev pub here : List Configuration
here = waiting ∷ broken ∷ signed_once ∷ []

-- and client 2 there, beside one with two Pages held and one at its start
abbrev pub there : List Configuration
there = full ∷ configuration (at 0 [] [] 0 0) ∷ waiting ∷ []

-- Its events: Sign, Receipt, three Pages and a kind that there is not. Between them here: a Page
-- of the broken one, a Receipt of client 2, and Sign of a client 3, which is not there.
abbrev pub day_here : List ℕ
day_here =
    sent 0 0 ∷ sent 1 2 ∷ sent 0 3 ∷ sent 2 3 ∷ sent 0 2 ∷ sent 0 2 ∷ sent 3 0 ∷ sent 0 2 ∷ sent 0 7 ∷ []

-- there: Sign, Page and Withdraw of client 0, and Sign of client 1
abbrev pub day_there : List ℕ
day_there =
    sent 0 0 ∷ sent 2 0 ∷ sent 2 3 ∷ sent 1 0 ∷ sent 2 2 ∷ sent 0 2 ∷ sent 2 2 ∷ sent 2 2 ∷ sent 0 1 ∷ sent 2 7 ∷ []

-- the broken one as client 0
abbrev pub beside : List Configuration
beside = broken ∷ waiting ∷ waiting ∷ []

abbrev pub day_beside : List ℕ
day_beside = sent 2 1 ∷ sent 0 2 ∷ sent 1 0 ∷ []

-- what an event brings that goes out or lets others go: the symbols, and their places; one that is
-- held; and a refused one
abbrev pub lets : List ℕ → List ℕ → Outcome
lets emitted sources = record { refusal = 0; emitted = emitted; sources = sources }

abbrev pub brings : ℕ → Outcome
brings row = record { refusal = row; emitted = []; sources = [] }

-- Sign goes out, Receipt lets the Page and itself go, two Pages are held, the third finds the
-- buffer full and does not open it, and the last is no kind
abbrev pub own_outcomes : List Outcome
own_outcomes =
    lets (0 ∷ []) (1 ∷ []) ∷ lets (2 ∷ 3 ∷ []) (0 ∷ 2 ∷ []) ∷ brings 0 ∷ brings 0 ∷ brings 15 ∷ brings 14 ∷ []

-- the client then: of its events Sign had place 1, Receipt 2, and the Pages 3 and 4
abbrev pub after_day : Configuration
after_day = configuration (at 1 (2 ∷ 2 ∷ []) (3 ∷ 4 ∷ []) 5 3)

-- the answer to an accepted event that leaves its client winning: what is emitted, and its places
-- in the input
abbrev pub answer_for : List ℕ → List ℕ → ReceivedFor
answer_for emitted sources =
    record {
      refusal = 0;
      emitted = pad 7 emitted;
      count = length emitted;
      winning = true;
      places = map input_place (pad 7 sources);
    }

-- noninterference at W: what the client received here, and by the claim there
pub record Isolating : Type 0 where
  pub part-here : part_of 0 (named day_here) (day_outcomes automaton_w table_w here day_here (filled 10 9)) ≡ own_outcomes
  pub last-here : get_or (ran_clients automaton_w table_w here day_here (filled 10 9)) 0 none ≡ after_day
  pub refusal : run_for_refusal automaton_w table_w there day_there (filled 13 9) ≡ 0
  pub part : part_of 2 (named day_there) (day_outcomes automaton_w table_w there day_there (filled 13 9)) ≡ own_outcomes
  pub last : get_or (ran_clients automaton_w table_w there day_there (filled 13 9)) 2 none ≡ after_day
  -- the broken one itself, over a table that nobody solved: its Page is refused alike
  pub broken-here : part_of 1 (named day_here) (day_outcomes automaton_w (filled 14 9) here day_here (filled 10 9))
      ≡ brings 13 ∷ []
  pub broken-part : part_of 0 (named day_beside) (day_outcomes automaton_w (filled 14 9) beside day_beside (filled 5 9))
      ≡ brings 13 ∷ []
  pub broken-last : get_or (ran_clients automaton_w (filled 14 9) beside day_beside (filled 5 9)) 0 none ≡ broken
  -- days that row 12 refuses, with no room either
  pub short : run_for_refusal automaton_w [] there day_there [] ≡ 12
  pub short-last : get_or (ran_clients automaton_w [] there day_there []) 2 none ≡ waiting
  -- with one place less than its events and what is held, the day there is one that 16 refuses
  pub no_room : run_for_refusal automaton_w table_w there day_there (filled 12 9) ≡ 16
  -- one event: Sign of the client, and a Page of the broken one
  pub event : received_for automaton_w table_w there 2 0 ≡ answer_for (0 ∷ []) (1 ∷ [])
  pub event-last : get_or (received_clients automaton_w table_w there 2 0) 2 none ≡ waiting_signed
  pub broken-event : (received_for automaton_w (filled 14 9) beside 0 2).refusal ≡ 13
  pub broken-event-last : get_or (received_clients automaton_w (filled 14 9) beside 0 2) 0 none ≡ broken

-- a step that has nothing of an automaton: sums
abbrev pub adding : Stepping ℕ ℕ
adding = record { says = λ c e. c + e; next = λ c e. c + e; absent = 99; none = 0 }

abbrev pub added : List (ℕ × ℕ)
added = (1, 1) ∷ (0, 5) ∷ (7, 3) ∷ (1, 2) ∷ []

-- isolation for any step, here that one: the record 1 of two
pub record AnyStep : Type 0 where
  pub part : part_of 1 added (outcomes adding (10 ∷ 20 ∷ []) added) ≡ 21 ∷ 23 ∷ []
  pub last : get_or (changed_by adding (10 ∷ 20 ∷ []) added) 1 0 ≡ 23
  pub count : length (changed_by adding (10 ∷ 20 ∷ []) added) ≡ 2
  -- whose own events they are
  pub own : events_of 1 added ≡ 1 ∷ 2 ∷ []
  -- and its part of what came of four events, whatever that is
  pub own-part : part_of {O = ℕ} 1 added (11 ∷ 12 ∷ 13 ∷ 14 ∷ []) ≡ 11 ∷ 14 ∷ []

-- so many clients at their start
abbrev pub crowd : ℕ → List Configuration
crowd n = initial_clients automaton_w n

-- the row of one event and of a day over W's table
abbrev pub row : List Configuration → ℕ → ℕ → ℕ
row = receive_for_refusal automaton_w table_w

abbrev pub day_row : List Configuration → List ℕ → List ℕ → ℕ
day_row = run_for_refusal automaton_w table_w

-- a broken one, and one with two Pages held
abbrev pub pair : List Configuration
pair = broken ∷ full ∷ []

-- one whose count is at its end, and one that waits
abbrev pub at_end : Configuration
at_end = configuration (at 1 [] [] 4294967295 4294967295)

abbrev pub end_pair : List Configuration
end_pair = at_end ∷ waiting ∷ []

-- an event opens the buffer of a client of W, by its table
abbrev pub OpensW : Configuration → ℕ → Type 0
OpensW c e = Opens (Tabled automaton_w table_w) automaton_w c.state (held_events c) e

-- the row of an event inside a day
abbrev pub inside : List Configuration → ℕ → ℕ → ℕ
inside cs i e = (outcome (monitored automaton_w table_w) cs i e).refusal

-- the rows at lists of 0, 1, 2, 500 and 501
pub record Rows : Type 0 where
  -- 11 and 12 before 20
  pub row_11 : receive_for_refusal wide_v (table automaton_v) [] 0 0 ≡ 11
  pub row_12 : receive_for_refusal automaton_w (filled 13 9) [] 0 0 ≡ 12
  pub none_lent : (i e : ℕ) → row [] i e ≡ 20
  pub too_many : (i e : ℕ) → row (crowd 501) i e ≡ 20
  -- 19 at the count
  pub one_lent : row (crowd 1) 0 0 ≡ 0
  pub past_one : row (crowd 1) 1 0 ≡ 19
  pub last-of-500 : row (crowd 500) 499 2 ≡ 0
  pub past-500 : row (crowd 500) 500 2 ≡ 19
  -- 19 before 14; 13 before 14, and of the client's own alone
  pub no-client : row pair 2 9 ≡ 19
  pub row-13 : row pair 0 9 ≡ 13
  pub row-14 : row pair 1 4 ≡ 14
  pub row-15 : row pair 1 3 ≡ 15
  -- 23 by the client's own count: Sign of the other is accepted
  pub row-23 : row end_pair 0 0 ≡ 23
  pub row-0-beside : row end_pair 1 0 ≡ 0
  pub row_0 : row pair 1 1 ≡ 0
  pub answered : (received_for automaton_w table_w (crowd 500) 500 2).refusal ≡ 19
  -- and the other way
  pub only-11 : (a : Automaton) (i e : ℕ) → receive_for_refusal a table_w here i e ≡ 11 → valid a ≡ false
  pub only-12 : (t : List ℕ) → receive_for_refusal automaton_w t here 0 0 ≡ 12 → length t < 14
  pub only-20 : (cs : List Configuration) (i e : ℕ) → row cs i e ≡ 20 → WrongCount (length cs)
  pub only-19 : (cs : List Configuration) (i e : ℕ) → row cs i e ≡ 19 → length cs ≤ i
  pub only-13 : (c : Configuration) (e : ℕ) → row (broken ∷ c ∷ []) 1 e ≡ 13 → consistent automaton_w c ≡ false
  pub only-14 : (cs : List Configuration) (i e : ℕ) → row cs i e ≡ 14 → 4 ≤ e
  pub only-15 : (cs : List Configuration) (i e : ℕ) → row cs i e ≡ 15
      → (2 ≤ length (held_events (get_or cs i none))) × (OpensW (get_or cs i none) e → ⊥)
  pub only-23 : (cs : List Configuration) (i e : ℕ) → row cs i e ≡ 23 → input_number (get_or cs i none).received ≡ 4294967295
  pub only-0 : (c : Configuration) → row (broken ∷ c ∷ []) 1 2 ≡ 0 → (length (held_events c) < 2) ⊎ OpensW c 2

pub record DayRows : Type 0 where
  pub row_11 : run_for_refusal wide_v (table automaton_v) [] (0 ∷ []) [] ≡ 11
  pub row_12 : run_for_refusal automaton_w (filled 13 9) [] (0 ∷ []) [] ≡ 12
  -- 20 before 16
  pub none_lent : (vs : List ℕ) → day_row [] vs [] ≡ 20
  pub too_many : (vs : List ℕ) → day_row (crowd 501) vs [] ≡ 20
  pub one_lent : day_row (crowd 1) (sent 0 0 ∷ sent 1 0 ∷ []) (9 ∷ 9 ∷ []) ≡ 0
  pub full-count : day_row (crowd 500) (sent 499 0 ∷ sent 500 0 ∷ []) (9 ∷ 9 ∷ []) ≡ 0
  -- one event and two held, the broken one's 200 not counted: room for three, and for two
  pub exact-room : day_row pair (sent 0 0 ∷ []) (filled 3 9) ≡ 0
  pub row-16 : day_row pair (sent 0 0 ∷ []) (filled 2 9) ≡ 16
  pub broken-holds : held_in automaton_w broken ≡ 0
  pub waiting-holds : held_in automaton_w waiting ≡ 1
  pub together : held_in_all automaton_w pair ≡ 2
  pub answered : (ran_for automaton_w table_w pair (sent 0 0 ∷ []) (filled 2 9)).refusal ≡ 16
  -- and the other way
  pub only-11 : (a : Automaton) (vs out : List ℕ) → run_for_refusal a table_w here vs out ≡ 11 → valid a ≡ false
  pub only-12 : (t vs out : List ℕ) → run_for_refusal automaton_w t here vs out ≡ 12 → short automaton_w t ≡ true
  pub only-20 : (cs : List Configuration) (vs out : List ℕ) → day_row cs vs out ≡ 20 → WrongCount (length cs)
  pub only-16 : (out : List ℕ) → day_row pair (sent 0 0 ∷ []) out ≡ 16 → length out < 3
  pub only-0 : (out : List ℕ) → day_row pair (sent 0 0 ∷ []) out ≡ 0 → 3 ≤ length out
  -- the events inside a day
  pub inside-19 : inside pair 2 9 ≡ 19
  pub inside-13 : inside pair 0 9 ≡ 13
  pub inside-14 : inside pair 1 4 ≡ 14
  pub inside-15 : inside pair 1 3 ≡ 15
  pub inside-23 : inside end_pair 0 0 ≡ 23
  pub inside-0 : inside pair 1 1 ≡ 0
  pub inside-only-19 : (cs : List Configuration) (i e : ℕ) → inside cs i e ≡ 19 → length cs ≤ i
  pub inside-only-14 : (cs : List Configuration) (i e : ℕ) → inside cs i e ≡ 14 → 4 ≤ e
  pub inside-only-15 : (cs : List Configuration) (i e : ℕ) → inside cs i e ≡ 15
      → (2 ≤ length (held_events (get_or cs i none))) × (OpensW (get_or cs i none) e → ⊥)
  pub inside-only-23 : (cs : List Configuration) (i e : ℕ) → inside cs i e ≡ 23
      → input_number (get_or cs i none).received ≡ 4294967295
  pub inside-only-0 : (cs : List Configuration) (i e : ℕ) → inside cs i e ≡ 0 → consistent automaton_w (get_or cs i none) ≡ true
  pub inside-only-13 : (c : Configuration) (e : ℕ) → inside (broken ∷ c ∷ []) 1 e ≡ 13 → consistent automaton_w c ≡ false

-- the day here: rows 13, 19, 15 and 14 stand inside it
pub record OneDay : Type 0 where
  pub rows : map (λ (x : Outcome). x.refusal) (day_outcomes automaton_w table_w here day_here (filled 10 9))
      ≡ 0 ∷ 13 ∷ 0 ∷ 0 ∷ 0 ∷ 0 ∷ 19 ∷ 15 ∷ 14 ∷ []
  pub ran : ran_for automaton_w table_w here day_here (filled 10 9) ≡ record { refusal = 0; length = 4; refused = 4 }
  pub output : ran_for_buffer automaton_w table_w here day_here (filled 10 9) ≡ 0 ∷ 2 ∷ 3 ∷ 3 ∷ 9 ∷ 9 ∷ 9 ∷ 9 ∷ 9 ∷ 9 ∷ []
  pub clients : ran_clients automaton_w table_w here day_here (filled 10 9)
      ≡ after_day ∷ broken ∷ configuration (at 1 [] [] 2 2) ∷ []
  -- the same of its events, each by a call of its own
  pub events-clients : clients_after automaton_w table_w here (named day_here)
      ≡ after_day ∷ broken ∷ configuration (at 1 [] [] 2 2) ∷ []
  pub events-rows : map (λ (x : Outcome). x.refusal) (map outcome_of (answers automaton_w table_w here (named day_here)))
      ≡ 0 ∷ 13 ∷ 0 ∷ 0 ∷ 0 ∷ 0 ∷ 19 ∷ 15 ∷ 14 ∷ []
  pub events-written : length (all_emitted (answers automaton_w table_w here (named day_here))) ≡ 4
  pub events-refused : all_refused (answers automaton_w table_w here (named day_here)) ≡ 4
  pub events-output : let bytes = all_emitted (answers automaton_w table_w here (named day_here)) in
      bytes ++ drop (length bytes) (filled 10 9) ≡ 0 ∷ 2 ∷ 3 ∷ 3 ∷ 9 ∷ 9 ∷ 9 ∷ 9 ∷ 9 ∷ 9 ∷ []
  -- what Receipt let go stands behind Sign, and client 2's Receipt behind that
  pub placed : take 2 (drop 1 (ran_for_buffer automaton_w table_w here day_here (filled 10 9))) ≡ 2 ∷ 3 ∷ []
  pub placed-other : take 1 (drop 3 (ran_for_buffer automaton_w table_w here day_here (filled 10 9))) ≡ 3 ∷ []
  -- the room: four bytes are written and two events held in the end, of nine events and one held
  pub emitted-count : length (emitted_of (outcomes (monitored automaton_w table_w) here (named day_here))) ≡ 4
  pub held_after : held_in_all automaton_w (changed_by (monitored automaton_w table_w) here (named day_here)) ≡ 2
  pub fits : length (emitted_of (outcomes (monitored automaton_w table_w) here (named day_here)))
      + held_in_all automaton_w (changed_by (monitored automaton_w table_w) here (named day_here)) ≤ 10
  pub written : (ran_for automaton_w table_w here day_here (filled 10 9)).length ≤ 10
  pub output-length : length (ran_for_buffer automaton_w table_w here day_here (filled 10 9)) ≡ 10
  -- a day of Sign and Receipt of client 0 alone uses up all of its room
  pub tight : ran_for_buffer automaton_w table_w here (sent 0 0 ∷ sent 0 3 ∷ []) (filled 3 9) ≡ 0 ∷ 2 ∷ 3 ∷ []
  pub tight-written : (ran_for automaton_w table_w here (sent 0 0 ∷ sent 0 3 ∷ []) (filled 3 9)).length ≤ 3

-- the whole answers of refused calls, computed: nothing but the number is told
pub record Refusals : Type 0 where
  pub event-11 : received_for wide_v table_w here 0 0 ≡ refused_for 11
  pub event-12 : received_for automaton_w (filled 13 9) here 0 0 ≡ refused_for 12
  pub event-20 : received_for automaton_w table_w [] 0 0 ≡ refused_for 20
  pub event-19 : received_for automaton_w table_w here 3 0 ≡ refused_for 19
  pub event-13 : received_for automaton_w table_w here 1 0 ≡ refused_for 13
  pub day-11 : ran_for wide_v table_w here day_here (filled 10 9) ≡ refused_run_for 11
  pub day-12 : ran_for automaton_w (filled 13 9) here day_here (filled 10 9) ≡ refused_run_for 12
  pub day_20 : ran_for automaton_w table_w [] day_here (filled 10 9) ≡ refused_run_for 20
  pub day_16 : ran_for automaton_w table_w here day_here (filled 9 9) ≡ refused_run_for 16

-- what stays as it was, of the list here
pub record Keeping : Type 0 where
  -- Sign of client 0: the broken one, and client 2
  pub others : get_or (received_clients automaton_w table_w here 0 0) 1 none ≡ broken
  pub other-end : get_or (received_clients automaton_w table_w here 0 0) 2 none ≡ signed_once
  -- a refused event: by 13, and by 19
  pub refused_13 : received_clients automaton_w table_w here 1 2 ≡ here
  pub refused-19 : received_clients automaton_w table_w here 3 0 ≡ here
  pub passed_over : (changed (monitored automaton_w table_w) here 3 0 ≡ here)
      × ((outcome (monitored automaton_w table_w) here 3 0).emitted ≡ [])
  -- a day that 16 refuses, and one without an event of client 2
  pub refused-day : ran_clients automaton_w table_w here day_here (filled 9 9) ≡ here
  pub refused-output : ran_for_buffer automaton_w table_w here day_here (filled 9 9) ≡ filled 9 9
  pub refused-answer : received_for automaton_w table_w here 3 0 ≡ refused_for 19
  pub refused-ran : ran_for automaton_w table_w here day_here (filled 9 9) ≡ refused_run_for 16
  pub without : get_or (ran_clients automaton_w table_w here (sent 0 0 ∷ sent 1 2 ∷ []) (filled 3 9)) 2 none ≡ signed_once
  pub count-event : length (received_clients automaton_w table_w here 0 0) ≡ 3
  pub count-day : length (ran_clients automaton_w table_w here day_here (filled 10 9)) ≡ 3

-- one event for a client as a call on its configuration alone: Sign of client 0 here
pub record Alone : Type 0 where
  pub answer : received_for automaton_w table_w here 0 0 ≡ answer_for (0 ∷ []) (1 ∷ [])
  pub next : get_or (received_clients automaton_w table_w here 0 0) 0 none ≡ waiting_signed
  pub inside : outcome (monitored automaton_w table_w) here 0 0 ≡ lets (0 ∷ []) (1 ∷ [])
  -- Sign is emitted, and the other places hold 0, of the places in the input too
  pub padded : get_or (received_for automaton_w table_w here 0 0).emitted 1 0 ≡ 0
  pub places-padded : get_or (map input_number (received_for automaton_w table_w here 0 0).places) 1 0 ≡ 0
  -- a Page of the broken one
  pub broken-answer : received_for automaton_w table_w here 1 2 ≡ refused_for 13
  pub broken-next : get_or (received_clients automaton_w table_w here 1 2) 1 none ≡ broken

-- the largest number, and two others
abbrev pub numbers : List ℕ
numbers = 4294967295 ∷ 131075 ∷ 65535 ∷ []

pub record Numbering : Type 0 where
  pub parts : named numbers ≡ (65535, 65535) ∷ (2, 3) ∷ (0, 65535) ∷ []
  pub whole : (65535 * 65536 + 65535) ∷ (2 * 65536 + 3) ∷ (0 * 65536 + 65535) ∷ [] ≡ numbers
  pub small : 65535 < 65536
