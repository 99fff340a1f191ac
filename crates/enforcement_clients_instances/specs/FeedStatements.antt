-- The claims on records of the feed over a list of clients, at sheet W, hypotheses met.
use Rattle.std.specs.Prelude.{ℕ, ◌<◌, ◌≤◌, ◌≡◌, ◌⊎◌, true, false, List, [], ◌∷◌, map, length, get_or}
use Rattle.automaton.specs.declared.Automaton.{Automaton}
use Rattle.automaton.specs.Automaton.{valid}
use Rattle.solver_sets.specs.Table.{short, table}
use Rattle.configuration_places.specs.Places.{input_number}
use Rattle.configuration.specs.declared.Configuration.{Configuration}
use Rattle.configuration.specs.Configuration.{held_events, consistent}
use Rattle.enforcement_cases.specs.Cases.{automaton_v, automaton_w}
use Rattle.enforcement_instances.specs.Statements.{filled, table_w}
use Rattle.enforcement_instances.specs.MonitorStatements.{store_of, wide_v}
use Rattle.clients_answers.specs.declared.ReceivedFor.{ReceivedFor}
use Rattle.clients_answers.specs.Clients.{none, Outcome, refused_for, emitted_of}
use Rattle.clients_answers.specs.Claims.{WrongCount}
use Rattle.feed_record.specs.declared.Expected.{Expected}
use Rattle.feed_record.specs.declared.Expected.TheVariants.{Any, Serial}
use Rattle.feed_record.specs.Records.{admission}
use Rattle.feed_answers.specs.declared.Fed.{Fed}
use Rattle.feed_answers.specs.Feed.{feed_refusal, fed_for, event_in, fed_clients}
use Rattle.enforcement_clients.specs.ClientCalls.{ClientCall, receive_for, run_for, feed_for, ClientReply, receive, feed}
use Rattle.enforcement_clients.specs.ClientCalls.{replies, leaves_all, own_all}
use Rattle.enforcement_clients.specs.Functions.{unfed, expected_all, fed_all, events_to, configurations_at}
use Rattle.enforcement_clients.specs.Claims.{outcomes_to}
use Rattle.enforcement_clients_instances.specs.ListStatements.{sent, broken, waiting, waiting_signed, waiting_served}
use Rattle.enforcement_clients_instances.specs.ListStatements.{signed_once, here, there, beside}
use Rattle.enforcement_clients_instances.specs.ListStatements.{lets, answer_for, crowd, pair, end_pair, OpensW}
use Rattle.enforcement_clients_instances.specs.CallStatements.{ran, start_w, two, signed, other_table}
use Rattle.enforcement_clients_instances.specs.RecordStatements.{last_serial, serial_zero, after_gap, repeated}
use Rattle.enforcement_clients_instances.specs.RecordStatements.{one_more, too_large, no_client, in_turn}

-- let in: the answer to the event, the serial that is expected next, and the loss
abbrev pub fed_as : ReceivedFor → ℕ → ℕ → Fed
fed_as answer next loss = record { answer = answer; place = 0; expected = Serial next; loss = loss }

-- not let in: the row and its place, zeros, and the expected serial as it was given
abbrev pub kept_as : ℕ → ℕ → ℕ → Fed
kept_as x row place =
    record { answer = refused_for row; place = place; expected = Serial x; loss = 0 }

-- Of three clients: a Page of client 1; its Sign, with the last serial, where none is expected;
-- Sign of client 0 with the next serial, 0; of client 1, with five lost before it, a kind that
-- there is not; a repeat, which has Sign of client 2; a day of Receipt of client 1 and Page of
-- client 2; a byte too many; a serial that there is not; Sign of a client 5; and a record with
-- none lent.
abbrev pub feed_calls : List ClientCall
feed_calls =
    receive_for 3 1 2 ∷
    feed_for 3 last_serial Any ∷
    feed_for 3 serial_zero (Serial 0) ∷
    feed_for 3 after_gap (Serial 1) ∷
    feed_for 3 repeated (Serial 7) ∷
    run_for 3 (sent 1 3 ∷ sent 2 2 ∷ []) (filled 4 9) ∷
    feed_for 3 one_more (Serial 7) ∷
    feed_for 3 too_large (Serial 7) ∷
    feed_for 3 no_client (Serial 7) ∷
    feed_for 0 last_serial (Serial 8) ∷ []

-- each record of the feed is given the serial that the one before it answered
abbrev pub feed_replies : List ClientReply
feed_replies =
    receive (answer_for [] []) ∷
    feed (fed_as (answer_for (0 ∷ []) (1 ∷ [])) 0 0) ∷
    feed (fed_as (answer_for (0 ∷ []) (0 ∷ [])) 1 0) ∷
    feed (fed_as (refused_for 14) 7 5) ∷
    feed (kept_as 7 22 0) ∷
    ran 0 2 0 (2 ∷ 3 ∷ 9 ∷ 9 ∷ []) ∷
    feed (kept_as 7 10 3) ∷
    feed (kept_as 7 21 0) ∷
    feed (fed_as (refused_for 19) 8 0) ∷
    feed (kept_as 8 20 0) ∷ []

abbrev pub feed_clients : List Configuration
feed_clients = signed_once ∷ waiting_served ∷ waiting ∷ []

pub record FeedCallFields : Type 0 where
  pub each-reply : replies automaton_w table_w (start_w 3) feed_calls ≡ feed_replies
  -- so the functions reply
  pub expected : expected_all automaton_w 3 unfed feed_calls ≡ feed_replies
  pub last-clients : leaves_all automaton_w table_w (start_w 3) feed_calls ≡ feed_clients
  pub clients : configurations_at automaton_w 3 (fed_all automaton_w 3 unfed feed_calls) ≡ feed_clients
  -- client 1 is brought its Page, its Sign, the kind that there is not, and its Receipt; client 0
  -- its Sign; client 2 not the late Sign
  pub brought-0 : own_all automaton_w table_w (start_w 3) 0 feed_calls ≡ 0 ∷ []
  pub brought-1 : own_all automaton_w table_w (start_w 3) 1 feed_calls ≡ 2 ∷ 0 ∷ 7 ∷ 3 ∷ []
  pub brought-2 : own_all automaton_w table_w (start_w 3) 2 feed_calls ≡ 2 ∷ []
  pub events : events_to automaton_w 3 unfed 1 feed_calls ≡ 2 ∷ 0 ∷ 7 ∷ 3 ∷ []
  pub function : fed_all automaton_w 3 unfed feed_calls 1 ≡ store_of (0 ∷ 2 ∷ 3 ∷ []) (1 ∷ 0 ∷ 2 ∷ []) [] [] 3
  pub rows : map (λ (x : Outcome). x.refusal) (outcomes_to automaton_w table_w (start_w 3) 1 feed_calls) ≡ 0 ∷ 0 ∷ 14 ∷ 0 ∷ []
  pub received : emitted_of (outcomes_to automaton_w table_w (start_w 3) 1 feed_calls) ≡ 0 ∷ 2 ∷ 3 ∷ []
  pub last : get_or (leaves_all automaton_w table_w (start_w 3) feed_calls) 1 none ≡ waiting_served
  -- over a table with the same bits
  pub replies-other : replies automaton_w other_table (start_w 3) feed_calls ≡ feed_replies
  pub clients-other : leaves_all automaton_w other_table (start_w 3) feed_calls ≡ feed_clients

-- Whatever each record is given: none though the one before it answered 0; 65,000 though that
-- answered 1, so that 535 are told as lost; and 7.
abbrev pub unthreaded : List ClientCall
unthreaded =
    feed_for 3 last_serial Any ∷
    feed_for 3 serial_zero Any ∷
    feed_for 3 last_serial (Serial 65000) ∷
    feed_for 3 (in_turn 0 2) (Serial 7) ∷ []

abbrev pub unthreaded_replies : List ClientReply
unthreaded_replies =
    feed (fed_as (answer_for (0 ∷ []) (0 ∷ [])) 0 0) ∷
    feed (fed_as (answer_for (0 ∷ []) (0 ∷ [])) 1 0) ∷
    feed (fed_as (answer_for (0 ∷ []) (1 ∷ [])) 0 535) ∷
    feed (fed_as (answer_for [] []) 8 0) ∷ []

pub record UnthreadedFields : Type 0 where
  pub each-reply : replies automaton_w table_w (start_w 3) unthreaded ≡ unthreaded_replies
  -- so the functions reply
  pub expected : expected_all automaton_w 3 unfed unthreaded ≡ unthreaded_replies
  pub brought : own_all automaton_w table_w (start_w 3) 1 unthreaded ≡ 0 ∷ 0 ∷ []

-- the row of a record over W's table
abbrev pub feed_row : List Configuration → List ℕ → Expected → ℕ
feed_row = feed_refusal automaton_w table_w

-- the rows, one by one, and each before those behind it
pub record FeedRowFields : Type 0 where
  -- 11, 12 and 20 before 1: the record has no bytes
  pub row_11 : feed_refusal wide_v (table automaton_v) [] [] Any ≡ 11
  pub row_12 : feed_refusal automaton_w (filled 13 9) [] [] Any ≡ 12
  pub none_lent : (s : List ℕ) (x : Expected) → feed_row [] s x ≡ 20
  pub too_many : (s : List ℕ) (x : Expected) → feed_row (crowd 501) s x ≡ 20
  -- the record's own, the last before 19
  pub row-1 : feed_row pair [] (Serial 7) ≡ 1
  pub row-2 : feed_row pair (128 ∷ 128 ∷ 128 ∷ 0 ∷ []) (Serial 7) ≡ 2
  pub row_10 : feed_row pair one_more (Serial 7) ≡ 10
  pub row-21 : feed_row pair too_large (Serial 7) ≡ 21
  pub row-22 : feed_row pair repeated (Serial 7) ≡ 22
  -- its event's: 19 before 14, and 13 of the client's own configuration
  pub row-19 : feed_row pair (in_turn 2 9) (Serial 7) ≡ 19
  pub row-13 : feed_row pair (in_turn 0 9) (Serial 7) ≡ 13
  pub row-14 : feed_row pair (in_turn 1 4) (Serial 7) ≡ 14
  pub row-15 : feed_row pair (in_turn 1 3) (Serial 7) ≡ 15
  -- 23 by its client's own count
  pub row-23 : feed_row end_pair (in_turn 0 0) (Serial 7) ≡ 23
  pub row-0-beside : feed_row end_pair (in_turn 1 0) (Serial 7) ≡ 0
  pub row_0 : feed_row pair (in_turn 1 1) (Serial 7) ≡ 0
  pub answered : (fed_for automaton_w table_w pair repeated (Serial 7)).answer.refusal ≡ 22
  -- and the other way
  pub only-11 : (a : Automaton) (s : List ℕ) (x : Expected) → feed_refusal a table_w here s x ≡ 11 → valid a ≡ false
  pub only-12 : (t s : List ℕ) (x : Expected) → feed_refusal automaton_w t here s x ≡ 12 → short automaton_w t ≡ true
  pub only-20 : (cs : List Configuration) (s : List ℕ) (x : Expected) → feed_row cs s x ≡ 20 → WrongCount (length cs)
  pub only-22 : (cs : List Configuration) (s : List ℕ) (x : Expected) → feed_row cs s x ≡ 22 → (admission s x).refusal ≡ 22
  pub only-19 : (cs : List Configuration) (s : List ℕ) (x : Expected) → feed_row cs s x ≡ 19 → length cs ≤ (admission s x).client
  pub only-13 : (c : Configuration) → feed_row (broken ∷ c ∷ []) (in_turn 1 0) (Serial 7) ≡ 13
      → consistent automaton_w c ≡ false
  pub only-14 : (cs : List Configuration) (s : List ℕ) (x : Expected) → feed_row cs s x ≡ 14 → 4 ≤ (admission s x).symbol
  pub only-15 : (c : Configuration) → feed_row (broken ∷ c ∷ []) (in_turn 1 3) (Serial 7) ≡ 15
      → (2 ≤ length (held_events c)) × (OpensW c 3 → ⊥)
  pub only-23 : (c : Configuration) → feed_row (broken ∷ c ∷ []) (in_turn 1 3) (Serial 7) ≡ 23
      → input_number c.received ≡ 4294967295
  pub only-0 : (c : Configuration) → feed_row (broken ∷ c ∷ []) (in_turn 1 3) (Serial 7) ≡ 0
      → (length (held_events c) < 2) ⊎ OpensW c 3

-- whole answers, and the list then
pub record FeedAnswerFields : Type 0 where
  pub by-list : (fed_for automaton_w table_w [] one_more (Serial 7) ≡ kept_as 7 20 0)
      × (fed_clients automaton_w table_w [] one_more (Serial 7) ≡ [])
  pub by-record : (fed_for automaton_w table_w two one_more (Serial 7) ≡ kept_as 7 10 3)
      × (fed_clients automaton_w table_w two one_more (Serial 7) ≡ two)
  -- Sign of client 1, with five lost before it ..
  pub let-in : (fed_for automaton_w table_w two (in_turn 1 0) (Serial 2) ≡ fed_as (answer_for (0 ∷ []) (1 ∷ [])) 8 5)
      × (fed_clients automaton_w table_w two (in_turn 1 0) (Serial 2) ≡ signed)
  -- .. and a kind that there is not
  pub refused : (fed_clients automaton_w table_w two after_gap (Serial 1) ≡ two)
      × ((fed_for automaton_w table_w two after_gap (Serial 1)).answer ≡ refused_for 14)
  -- Sign of client 0 here: the broken one stays, and so do three
  pub others : get_or (fed_clients automaton_w table_w here serial_zero (Serial 0)) 1 none ≡ broken
  pub count : length (fed_clients automaton_w table_w here serial_zero (Serial 0)) ≡ 3
  -- the events that they bring
  pub own : event_in after_gap (Serial 1) ≡ (1, 7) ∷ []
  pub no_event : event_in repeated (Serial 7) ≡ []
  -- Sign is emitted, and the other places hold 0, of the places in the input too
  pub emitted-count : (fed_for automaton_w table_w two (in_turn 1 0) (Serial 2)).answer.count ≤ 7
  pub emitted-length : length (fed_for automaton_w table_w two (in_turn 1 0) (Serial 2)).answer.emitted ≡ 7
  pub padded : get_or (fed_for automaton_w table_w two (in_turn 1 0) (Serial 2)).answer.emitted 1 0 ≡ 0
  pub places-padded : get_or (map input_number (fed_for automaton_w table_w two (in_turn 1 0) (Serial 2)).answer.places) 1 0 ≡ 0
  -- a record of client 0 changes nothing of client 1, and a repeat nothing of its own client
  pub kept : get_or (fed_clients automaton_w table_w two serial_zero (Serial 0)) 1 none ≡ waiting
  pub repeat-kept : get_or (fed_clients automaton_w table_w there repeated (Serial 7)) 2 none ≡ waiting

-- Noninterference: Sign of a client that waits, which is client 0 here and client 2 there, with
-- other serials; and a Page of the broken one over a table that nobody solved.
pub record FeedIsolating : Type 0 where
  pub answer : (fed_for automaton_w table_w there repeated (Serial 1)).answer ≡ answer_for (0 ∷ []) (1 ∷ [])
  pub last : get_or (fed_clients automaton_w table_w there repeated (Serial 1)) 2 none ≡ waiting_signed
  pub broken-answer : (fed_for automaton_w (filled 14 9) beside (in_turn 0 2) (Serial 7)).answer ≡ refused_for 13
  pub broken-last : get_or (fed_clients automaton_w (filled 14 9) beside (in_turn 0 2) (Serial 7)) 0 none ≡ broken

-- what records bring client 1 of two, each by itself: its own event, another's, and a repeat
pub record FeedBringing : Type 0 where
  pub own-record : own_all automaton_w table_w two 1 (feed_for 2 (in_turn 1 0) (Serial 2) ∷ []) ≡ 0 ∷ []
  pub other-record : own_all automaton_w table_w two 1 (feed_for 2 serial_zero (Serial 0) ∷ []) ≡ []
  pub refused-record : own_all automaton_w table_w two 1 (feed_for 2 (in_turn 1 0) (Serial 8) ∷ []) ≡ []
  pub outcomes : outcomes_to automaton_w table_w two 1 (feed_for 2 (in_turn 1 0) (Serial 2) ∷ []) ≡ lets (0 ∷ []) (1 ∷ []) ∷ []

-- Sign and Receipt of the client that waits, here by an event and a day (`calls_here`), there by
-- records, with one of client 0 and a repeat between them
abbrev pub feed_there : List ClientCall
feed_there =
    feed_for 3 repeated (Serial 6) ∷
    feed_for 3 (in_turn 0 1) (Serial 7) ∷
    feed_for 3 repeated (Serial 8) ∷
    feed_for 3 (8 ∷ 2 ∷ 3 ∷ []) (Serial 8) ∷ []

pub record FeedBeside : Type 0 where
  pub own : own_all automaton_w table_w there 2 feed_there ≡ 0 ∷ 3 ∷ []
  pub outcomes : outcomes_to automaton_w table_w there 2 feed_there ≡ lets (0 ∷ []) (1 ∷ []) ∷ lets (2 ∷ 3 ∷ []) (0 ∷ 2 ∷ []) ∷ []
  pub last : get_or (leaves_all automaton_w table_w there feed_there) 2 none ≡ waiting_served
