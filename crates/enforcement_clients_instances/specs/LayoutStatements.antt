-- The claims on what the calls over a list of clients leave through the interface for C, at W's
-- bytes and the list of two.
use Rattle.std.specs.Prelude.{ℕ, ◌+◌, ◌*◌, ◌≡◌, List, [], ◌∷◌, map, length, take, replicate}
use Rattle.configuration.specs.Configuration.{configuration}
use Rattle.enforcement_cases.specs.Cases.{at}
use Rattle.enforcement_instances.specs.Statements.{filled, table_w}
use Rattle.enforcement_instances.specs.LayoutStatements.{record_w, any_bytes}
use Rattle.clients_answers.specs.declared.ReceivedFor.{ReceivedFor}
use Rattle.clients_answers.specs.declared.RanFor.{RanFor}
use Rattle.clients_answers.specs.Clients.{initial_clients}
use Rattle.feed_record.specs.declared.Expected.TheVariants.{Any, Serial}
use Rattle.feed_answers.specs.declared.Fed.{Fed}
use Rattle.feed_answers.specs.Feed.{fed_for}
use Rattle.enforcement_clients.specs.ClientCalls.{receive}
use Rattle.enforcement_clients.specs.Claims.{ClientsEnforced}
use Rattle.c_layout.specs.Offsets.{received_size, received_emitted, received_count, received_winning, received_places, place_size}
use Rattle.c_layout.specs.Offsets.{ran_size, ran_length, ran_refused, number_size, fed_size, fed_loss, fed_place}
use Rattle.c_layout.specs.Layout.{byte_at, part, number_of, automaton_of, expected_of, expected_laid}
use Rattle.c_layout.specs.Calls.{received_for_left, ran_for_left, fed_left, receive_for_leaves, run_for_leaves, feed_leaves}
use Rattle.enforcement_bytes.specs.ClientByteCalls.{LentCall, lent_receive, lent_run, lent_feed}
use Rattle.enforcement_bytes.specs.ClientByteCalls.{BesideList, beside_all, next_for_all, laid_all, initial_list}
use Rattle.enforcement_clients_instances.specs.ListStatements.{sent, broken, waiting_served, here, answer_for}
use Rattle.enforcement_clients_instances.specs.CallStatements.{refused, ran, two, signed, calls, call_replies}
use Rattle.enforcement_clients_instances.specs.CallStatements.{last_zero, last_one}
use Rattle.enforcement_clients_instances.specs.RecordStatements.{last_serial, serial_zero, after_gap, repeated}
use Rattle.enforcement_clients_instances.specs.RecordStatements.{one_more, too_large, no_client, in_turn}
use Rattle.enforcement_clients_instances.specs.FeedStatements.{fed_as, kept_as, feed_calls, feed_replies, feed_clients}

-- an event's answer that emits Page and Receipt, of places 300 and 302, and is winning
abbrev pub late_answer : ReceivedFor
late_answer = answer_for (2 ∷ 3 ∷ []) (300 ∷ 302 ∷ [])

-- a day's answer: 300 bytes written, two events refused
abbrev pub long_day : RanFor
long_day = record { refusal = 0; length = 300; refused = 2 }

-- the calls here, and those on two clients at their start, as they are made through C
abbrev pub lent_here : List LentCall
lent_here =
    lent_receive 3 0 0 ∷ lent_receive 0 0 1 ∷ lent_run 3 (sent 1 2 ∷ sent 0 3 ∷ sent 2 1 ∷ []) (filled 9 9) ∷ []

abbrev pub lent_calls : List LentCall
lent_calls =
    lent_receive 0 1 2 ∷
    lent_receive 2 1 2 ∷
    lent_run 2 (sent 1 0 ∷ []) (filled 1 9) ∷
    lent_receive 1 1 0 ∷
    lent_run 7 (sent 1 3 ∷ sent 0 0 ∷ sent 1 0 ∷ sent 5 0 ∷ sent 1 7 ∷ sent 1 2 ∷ []) (filled 8 9) ∷
    lent_receive 2 0 1 ∷ []

pub record ClientLayouts : Type 0 where
  -- an event's answer, and a day's
  pub received-size : length (received_for_left late_answer two).answer ≡ received_size
  pub emitted : byte_at (received_for_left late_answer two).answer (received_emitted + 1) ≡ 3
  pub count : byte_at (received_for_left late_answer two).answer received_count ≡ 2
  pub winning : byte_at (received_for_left late_answer two).answer received_winning ≡ 1
  pub input-place : number_of (part (received_places + 1 * place_size) place_size (received_for_left late_answer two).answer) ≡ 302
  pub input-place-low-first : byte_at (received_for_left late_answer two).answer (received_places + 0 * place_size + 1) ≡ 1
  pub ran-size : length (ran_for_left long_day two []).answer ≡ ran_size
  pub written : number_of (part ran_length number_size (ran_for_left long_day two []).answer) ≡ 300
  pub events-refused : number_of (part ran_refused number_size (ran_for_left long_day two []).answer) ≡ 2
  -- Sign of client 1: its refusal, and the list with it
  pub event-refusal : (receive_for_leaves record_w table_w two 1 0).refusal ≡ 0
  pub event-list : (receive_for_leaves record_w table_w two 1 0).configurations ≡ signed
  pub event-answer : byte_at (receive_for_leaves record_w table_w two 1 0).answer received_count ≡ 1
  -- a client that is not there: 19, and all stays
  pub event-refused : ((receive_for_leaves record_w table_w two 2 0).configurations ≡ two)
      × ((receive_for_leaves record_w table_w two 2 0).answer ≡ replicate received_size 0)
  -- a day of Sign of client 1, with room and without
  pub run-refusal : (run_for_leaves record_w table_w two (sent 1 0 ∷ []) (filled 4 9)).refusal ≡ 0
  pub run-list : (run_for_leaves record_w table_w two (sent 1 0 ∷ []) (filled 4 9)).configurations ≡ signed
  pub run-answer :
      number_of (part ran_length number_size (run_for_leaves record_w table_w two (sent 1 0 ∷ []) (filled 4 9)).answer) ≡ 1
  pub run-output : (run_for_leaves record_w table_w two (sent 1 0 ∷ []) (filled 4 9)).output ≡ 0 ∷ 9 ∷ 9 ∷ 9 ∷ []
  pub run-refused : ((run_for_leaves record_w table_w two (sent 1 0 ∷ []) (filled 3 9)).configurations ≡ two)
      × ((run_for_leaves record_w table_w two (sent 1 0 ∷ []) (filled 3 9)).answer ≡ replicate ran_size 0)
      × ((run_for_leaves record_w table_w two (sent 1 0 ∷ []) (filled 3 9)).output ≡ filled 3 9)
  -- the calls here: Sign goes out, 20, and a day that writes three bytes and refuses one event
  pub by_value : beside_all record_w table_w here lent_here
      ≡ laid_all lent_here
      (receive (answer_for (0 ∷ []) (1 ∷ [])) ∷ refused 20 ∷ ran 0 3 1 (2 ∷ 3 ∷ 1 ∷ 9 ∷ 9 ∷ 9 ∷ 9 ∷ 9 ∷ 9 ∷ []) ∷ [])
  pub by-value-list : next_for_all record_w table_w here lent_here ≡ waiting_served ∷ broken ∷ configuration (at 0 [] [] 2 2) ∷ []
  -- two clients made by the interface, over bytes that held something else
  pub initial-list : initial_list record_w (any_bytes ∷ any_bytes ∷ []) ≡ initial_clients (automaton_of record_w) 2
  pub enforced-replies : beside_all record_w table_w (initial_list record_w (any_bytes ∷ any_bytes ∷ [])) lent_calls
      ≡ laid_all lent_calls call_replies
  pub enforced-rows : map (λ (x : BesideList). x.refusal) (laid_all lent_calls call_replies) ≡ 20 ∷ 0 ∷ 16 ∷ 19 ∷ 0 ∷ 0 ∷ []
  pub enforced-list : next_for_all record_w table_w (initial_list record_w (any_bytes ∷ any_bytes ∷ [])) lent_calls
      ≡ last_zero ∷ last_one ∷ []
  pub enforced : ClientsEnforced (automaton_of record_w) table_w 2 calls

-- that answer with 300 records lost before it; and one to a record that is refused at its fourth
-- byte
abbrev pub long_loss : Fed
long_loss = fed_as late_answer 8 300

abbrev pub at_fourth : Fed
at_fourth = kept_as 7 10 3

-- the calls on three clients with records of the feed, as they are made through C: the first lends
-- bytes that say that none is expected, whatever stands behind it, and a repeat's say 7 in their
-- own way
abbrev pub lent_feed_calls : List LentCall
lent_feed_calls =
    lent_receive 3 1 2 ∷
    lent_feed 3 last_serial (0 ∷ 9 ∷ 9 ∷ []) ∷
    lent_feed 3 serial_zero (1 ∷ 0 ∷ 0 ∷ []) ∷
    lent_feed 3 after_gap (1 ∷ 1 ∷ 0 ∷ []) ∷
    lent_feed 3 repeated (9 ∷ 7 ∷ 0 ∷ []) ∷
    lent_run 3 (sent 1 3 ∷ sent 2 2 ∷ []) (filled 4 9) ∷
    lent_feed 3 one_more (1 ∷ 7 ∷ 0 ∷ []) ∷
    lent_feed 3 too_large (1 ∷ 7 ∷ 0 ∷ []) ∷
    lent_feed 3 no_client (1 ∷ 7 ∷ 0 ∷ []) ∷
    lent_feed 0 last_serial (1 ∷ 8 ∷ 0 ∷ []) ∷ []

-- what they leave there
abbrev pub serials_left : List (List ℕ)
serials_left =
    [] ∷
    (1 ∷ 0 ∷ 0 ∷ []) ∷
    (1 ∷ 1 ∷ 0 ∷ []) ∷
    (1 ∷ 7 ∷ 0 ∷ []) ∷
    (9 ∷ 7 ∷ 0 ∷ []) ∷
    [] ∷
    (1 ∷ 7 ∷ 0 ∷ []) ∷
    (1 ∷ 7 ∷ 0 ∷ []) ∷
    (1 ∷ 8 ∷ 0 ∷ []) ∷
    (1 ∷ 8 ∷ 0 ∷ []) ∷ []

pub record FeedLayouts : Type 0 where
  pub size : length (fed_left long_loss two (1 ∷ 7 ∷ 0 ∷ [])).answer ≡ fed_size
  pub emitted : byte_at (fed_left long_loss two (1 ∷ 7 ∷ 0 ∷ [])).answer (received_emitted + 1) ≡ 3
  pub count : byte_at (fed_left long_loss two (1 ∷ 7 ∷ 0 ∷ [])).answer received_count ≡ 2
  pub winning : byte_at (fed_left long_loss two (1 ∷ 7 ∷ 0 ∷ [])).answer received_winning ≡ 1
  pub input-place : number_of (part (received_places + 1 * place_size) place_size (fed_left long_loss two (1 ∷ 7 ∷ 0 ∷ [])).answer)
      ≡ 302
  pub loss : number_of (part fed_loss number_size (fed_left long_loss two (1 ∷ 7 ∷ 0 ∷ [])).answer) ≡ 300
  pub low_first : byte_at (fed_left long_loss two (1 ∷ 7 ∷ 0 ∷ [])).answer (fed_loss + 1) ≡ 1
  pub place : number_of (part fed_place number_size (fed_left at_fourth two (1 ∷ 7 ∷ 0 ∷ [])).answer) ≡ 3
  -- what three bytes say, and what is laid into them
  pub unknown : expected_of (0 ∷ 9 ∷ 9 ∷ []) ≡ Any
  pub known : expected_of (9 ∷ 1 ∷ 2 ∷ []) ≡ Serial 513
  pub any-kept : expected_of (expected_laid Any (9 ∷ 1 ∷ 2 ∷ [])) ≡ Any
  pub serial-kept : expected_of (expected_laid (Serial 65535) (0 ∷ 9 ∷ 9 ∷ [])) ≡ Serial 65535
  pub said-already : expected_laid (expected_of (0 ∷ 9 ∷ 9 ∷ [])) (0 ∷ 9 ∷ 9 ∷ []) ≡ 0 ∷ 9 ∷ 9 ∷ []
  pub none_anew : expected_laid Any (9 ∷ 1 ∷ 2 ∷ []) ≡ 0 ∷ 0 ∷ 0 ∷ []
  -- Sign of client 1, five records lost before it
  pub refusal : (feed_leaves record_w table_w two (in_turn 1 0) (1 ∷ 2 ∷ 0 ∷ [])).refusal ≡ 0
  pub list : (feed_leaves record_w table_w two (in_turn 1 0) (1 ∷ 2 ∷ 0 ∷ [])).configurations ≡ signed
  pub answer : byte_at (feed_leaves record_w table_w two (in_turn 1 0) (1 ∷ 2 ∷ 0 ∷ [])).answer received_count ≡ 1
  pub answer-loss :
      number_of (part fed_loss number_size (feed_leaves record_w table_w two (in_turn 1 0) (1 ∷ 2 ∷ 0 ∷ [])).answer) ≡ 5
  pub next : (feed_leaves record_w table_w two (in_turn 1 0) (1 ∷ 2 ∷ 0 ∷ [])).expected ≡ 1 ∷ 8 ∷ 0 ∷ []
  -- a kind that there is not: the list stays, and the next serial is expected
  pub refused : ((feed_leaves record_w table_w two after_gap (1 ∷ 1 ∷ 0 ∷ [])).configurations ≡ two)
      × (take received_size (feed_leaves record_w table_w two after_gap (1 ∷ 1 ∷ 0 ∷ [])).answer ≡ replicate received_size 0)
  pub refused-next : (feed_leaves record_w table_w two after_gap (1 ∷ 1 ∷ 0 ∷ [])).expected ≡ 1 ∷ 7 ∷ 0 ∷ []
  pub handed_on : expected_of (feed_leaves record_w table_w two after_gap (1 ∷ 1 ∷ 0 ∷ [])).expected
      ≡ (fed_for (automaton_of record_w) table_w two after_gap (Serial 1)).expected
  -- a repeat: the bytes of the expected serial stay as they were lent
  pub kept : ((feed_leaves record_w table_w two repeated (9 ∷ 7 ∷ 0 ∷ [])).expected ≡ 9 ∷ 7 ∷ 0 ∷ [])
      × (part fed_loss number_size (feed_leaves record_w table_w two repeated (9 ∷ 7 ∷ 0 ∷ [])).answer ≡ replicate number_size 0)
  -- the list of calls, over clients made by the interface
  pub enforced-replies :
      beside_all record_w table_w (initial_list record_w (any_bytes ∷ any_bytes ∷ any_bytes ∷ [])) lent_feed_calls
      ≡ laid_all lent_feed_calls feed_replies
  pub enforced-rows : map (λ (x : BesideList). x.refusal) (laid_all lent_feed_calls feed_replies)
      ≡ 0 ∷ 0 ∷ 0 ∷ 14 ∷ 22 ∷ 0 ∷ 10 ∷ 21 ∷ 19 ∷ 20 ∷ []
  pub enforced-serials : map (λ (x : BesideList). x.expected) (laid_all lent_feed_calls feed_replies) ≡ serials_left
  pub enforced-list :
      next_for_all record_w table_w (initial_list record_w (any_bytes ∷ any_bytes ∷ any_bytes ∷ [])) lent_feed_calls
      ≡ feed_clients
  pub enforced : ClientsEnforced (automaton_of record_w) table_w 3 feed_calls
