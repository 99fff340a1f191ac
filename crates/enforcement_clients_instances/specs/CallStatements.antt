-- The claims on lists of calls over a list of clients at sheet V or W, hypotheses met.
use Rattle.std.specs.Prelude.{ℕ, ◌≤◌, ◌≡◌, true, false, List, [], ◌∷◌, ◌++◌, map, length, get_or, take}
use Rattle.automaton.specs.Automaton.{accepts, reached}
use Rattle.solver_sets.specs.Definition6.{AllUncontrollable}
use Rattle.configuration_places.specs.Places.{input_number, output_number}
use Rattle.configuration.specs.declared.Configuration.{Configuration}
use Rattle.configuration.specs.Configuration.{configuration, consistent, initial_of}
use Rattle.solver_answers.specs.Solving.{solved_table}
use Rattle.monitor_answers.specs.Answers.{is_winning, status}
use Rattle.enforcement.specs.Store.{Store, empty, store, store_all}
use Rattle.enforcement.specs.Calls.{receive_call, configuration_after, emitted_all}
use Rattle.enforcement.specs.Moments.{Moment, emitted_at, sources_at, moments}
use Rattle.enforcement.specs.Places.{event_at, Traced}
use Rattle.enforcement.specs.Strategy.{play}
use Rattle.enforcement.specs.Claims.{winning_after}
use Rattle.enforcement_cases.specs.Cases.{automaton_v, automaton_w, at}
use Rattle.enforcement_instances.specs.Statements.{filled, table_w}
use Rattle.enforcement_instances.specs.MonitorStatements.{store_of, eager}
use Rattle.clients_answers.specs.Clients.{none, initial_clients, Outcome, emitted_of, refused_for, received_for, received_clients}
use Rattle.enforcement_clients.specs.ClientCalls.{ClientCall, receive_for, run_for, ClientReply, receive, run}
use Rattle.enforcement_clients.specs.ClientCalls.{replies, leaves_all, own_all, moments_of}
use Rattle.enforcement_clients.specs.Functions.{unfed, expected_all, fed_all, events_to, configurations_at}
use Rattle.enforcement_clients.specs.Claims.{outcomes_to, ClientsEnforced}
use Rattle.enforcement_clients_instances.specs.ListStatements.{sent, broken, waiting, waiting_signed, waiting_served}
use Rattle.enforcement_clients_instances.specs.ListStatements.{full, here, lets, brings, answer_for}

-- the reply to a refused event, and to a day
abbrev pub refused : ℕ → ClientReply
refused row = receive (refused_for row)

abbrev pub ran : ℕ → ℕ → ℕ → List ℕ → ClientReply
ran row written count out = run (record { refusal = row; length = written; refused = count }) out

-- Of two clients none is lent, for a Page of client 1; then its Page; a day of Sign of client 1
-- with room for one; Sign of client 1, with one lent; a day with room for eight: Receipt of client
-- 1, Sign of client 0, Sign of client 1, Sign of a client 5, and of client 1 a kind that there is
-- not and a Page; Withdraw of client 0.
abbrev pub calls : List ClientCall
calls =
    receive_for 0 1 2 ∷
    receive_for 2 1 2 ∷
    run_for 2 (sent 1 0 ∷ []) (filled 1 9) ∷
    receive_for 1 1 0 ∷
    run_for 7 (sent 1 3 ∷ sent 0 0 ∷ sent 1 0 ∷ sent 5 0 ∷ sent 1 7 ∷ sent 1 2 ∷ []) (filled 8 9) ∷
    receive_for 2 0 1 ∷ []

-- what they answer: 20; the Page is held; 16; 19; client 1's Sign lets Page and Receipt go, and
-- two events are refused, by 19 and 14; client 0's Withdraw is the second of its own events
abbrev pub call_replies : List ClientReply
call_replies =
    refused 20 ∷
    receive (answer_for [] []) ∷
    ran 16 0 0 (9 ∷ []) ∷
    refused 19 ∷
    ran 0 4 2 (0 ∷ 0 ∷ 2 ∷ 3 ∷ 9 ∷ 9 ∷ 9 ∷ 9 ∷ []) ∷
    receive (answer_for (1 ∷ []) (1 ∷ [])) ∷ []

-- the events that they bring client 1, and the accepted ones among them, as they are met
abbrev pub own_events : List ℕ
own_events = 2 ∷ 3 ∷ 0 ∷ 7 ∷ 2 ∷ []

abbrev pub page : Moment
page = record { past = []; output = []; position = at 0 [] [] 0 0; event = 2 }

abbrev pub receipt : Moment
receipt = record { past = 2 ∷ []; output = []; position = at 0 (2 ∷ []) (0 ∷ []) 1 0; event = 3 }

abbrev pub sign : Moment
sign = record { past = 2 ∷ 3 ∷ []; output = []; position = at 0 (2 ∷ 3 ∷ []) (0 ∷ 1 ∷ []) 2 0; event = 0 }

abbrev pub again : Moment
again = record { past = 2 ∷ 3 ∷ 0 ∷ []; output = 0 ∷ 2 ∷ 3 ∷ []; position = at 1 [] [] 3 3; event = 2 }

-- each client in the end, and client 1's function
abbrev pub last_zero : Configuration
last_zero = configuration (at 0 [] [] 2 2)

abbrev pub last_one : Configuration
last_one = configuration (at 1 (2 ∷ []) (3 ∷ []) 4 3)

abbrev pub store_one : Store
store_one = store_of (0 ∷ 2 ∷ 3 ∷ []) (2 ∷ 0 ∷ 1 ∷ []) (2 ∷ []) (3 ∷ []) 4

-- W's clients at their start
abbrev pub start_w : ℕ → List Configuration
start_w count = initial_clients automaton_w count

-- demand 3 of the two clients and these calls, with the functions' values
pub record Fields : Type 0 where
  pub expected : expected_all automaton_w 2 unfed calls ≡ call_replies
  pub each-reply : replies automaton_w table_w (start_w 2) calls ≡ call_replies
  pub clients : configurations_at automaton_w 2 (fed_all automaton_w 2 unfed calls) ≡ last_zero ∷ last_one ∷ []
  pub last-clients : leaves_all automaton_w table_w (start_w 2) calls ≡ last_zero ∷ last_one ∷ []

-- of client 1
pub record OwnFields : Type 0 where
  pub fed : fed_all automaton_w 2 unfed calls 1 ≡ store_one
  pub events : events_to automaton_w 2 unfed 1 calls ≡ own_events
  pub function : store_all automaton_w empty own_events ≡ store_one
  pub brought : own_all automaton_w table_w (start_w 2) 1 calls ≡ own_events
  pub rows : map (λ (x : Outcome). x.refusal) (outcomes_to automaton_w table_w (start_w 2) 1 calls) ≡ 0 ∷ 0 ∷ 0 ∷ 14 ∷ 0 ∷ []
  pub received : emitted_of (outcomes_to automaton_w table_w (start_w 2) 1 calls) ≡ 0 ∷ 2 ∷ 3 ∷ []
  pub last : get_or (leaves_all automaton_w table_w (start_w 2) calls) 1 none ≡ last_one
  -- a monitor of its own, with its events
  pub as_alone : configuration_after automaton_w table_w (initial_of automaton_w) (map receive_call own_events) ≡ last_one
  pub last-consistent : consistent automaton_w (get_or (leaves_all automaton_w table_w (start_w 2) calls) 1 none) ≡ true
  pub met : moments automaton_w table_w (initial_of automaton_w) (map receive_call own_events) ≡ page ∷ receipt ∷ sign ∷ again ∷ []
  pub enforced :
      emitted_all
      (Rattle.enforcement.specs.Calls.replies automaton_w table_w (initial_of automaton_w) (map receive_call own_events))
      ≡ 0 ∷ 2 ∷ 3 ∷ []

-- and of its accepted events, as they are met in the list
pub record MetFields : Type 0 where
  pub moments : moments_of automaton_w table_w (start_w 2) 1 calls ≡ page ∷ receipt ∷ sign ∷ again ∷ []
  pub alone : store_all automaton_w empty (2 ∷ 3 ∷ 0 ∷ 2 ∷ []) ≡ store_one
  pub emitted : emitted_at automaton_w table_w (page ∷ receipt ∷ sign ∷ again ∷ []) ≡ 0 ∷ 2 ∷ 3 ∷ []
  -- after the last Page it is winning, and its output leads to an accepting state: since it was so
  -- at first, and after Sign
  pub initially : (winning_after automaton_w table_w again ≡ true)
      × (accepts automaton_w (reached automaton_w 0 (0 ∷ 2 ∷ 3 ∷ [])) ≡ true)
  pub later : (winning_after automaton_w table_w again ≡ true)
      × (accepts automaton_w (reached automaton_w 0 (0 ∷ 2 ∷ 3 ∷ [])) ≡ true)
  pub said-initially : (status automaton_w table_w last_one).winning ≡ true
  -- .. and so does the answer to Receipt, which is accepted then
  pub flagged-initially : (Rattle.monitor_answers.specs.Answers.received automaton_w table_w last_one 3).winning ≡ true
  pub said : (status automaton_w table_w last_one).winning ≡ true
  pub flagged : (Rattle.monitor_answers.specs.Answers.received automaton_w table_w last_one 3).winning ≡ true
  -- whoever lets the last Page go, inside the day, is driven out by at most two events
  pub strategies : (us : List ℕ)
      × AllUncontrollable automaton_w us
      × (length us ≤ 2)
      × (accepts automaton_w (reached automaton_w 0 (play automaton_w eager (2 ∷ 3 ∷ 0 ∷ 2 ∷ []) (0 ∷ 2 ∷ 3 ∷ 2 ∷ []) [] us))
      ≡ false)

-- client 1's accepted events
abbrev pub taken : List ℕ
taken = 2 ∷ 3 ∷ 0 ∷ 2 ∷ []

-- both clients in the end, and the places in the answer to an event of one of them then
abbrev pub last_two : List Configuration
last_two = leaves_all automaton_w table_w (start_w 2) calls

abbrev pub places_then : ℕ → ℕ → ℕ → List ℕ
places_then count g e = take count (map input_number (received_for automaton_w table_w last_two g e).places)

-- and what its places mean: they count its own events
pub record ToldFields : Type 0 where
  pub function : Traced taken store_one
  pub put-out : map (event_at taken) (2 ∷ 0 ∷ 1 ∷ []) ≡ 0 ∷ 2 ∷ 3 ∷ []
  pub traced : sources_at automaton_w table_w (page ∷ receipt ∷ sign ∷ again ∷ []) ≡ 2 ∷ 0 ∷ 1 ∷ []
  pub held : map (event_at taken) (3 ∷ []) ≡ 2 ∷ []
  pub received-count : input_number (get_or last_two 1 none).received ≡ 4
  pub emitted-count : output_number (get_or last_two 1 none).emitted ≡ 3
  -- Receipt then lets the Page and itself go
  pub places : places_then 2 1 3 ≡ 3 ∷ 4 ∷ []
  pub answered : map (event_at (taken ++ 3 ∷ [])) (places_then 2 1 3) ≡ 2 ∷ 3 ∷ []
  pub answer-output : (store automaton_w store_one 3).output ≡ store_one.output ++ 2 ∷ 3 ∷ []
  pub answer-sources : (store automaton_w store_one 3).sources ≡ store_one.sources ++ places_then 2 1 3
  -- client 0 had Sign and Withdraw; its next Sign has place 2
  pub other-function : Traced (0 ∷ 1 ∷ []) (store_of (0 ∷ 1 ∷ []) (0 ∷ 1 ∷ []) [] [] 2)
  pub other-received : input_number (get_or last_two 0 none).received ≡ 2
  pub other-emitted : output_number (get_or last_two 0 none).emitted ≡ 2
  pub other-places : places_then 1 0 0 ≡ 2 ∷ []
  pub other-answered : map (event_at (0 ∷ 1 ∷ 0 ∷ [])) (places_then 1 0 0) ≡ 0 ∷ []

-- V's table, and a client over it: Answer, and a day of Query
abbrev pub table_v : List ℕ
table_v = 4 ∷ 0 ∷ 5 ∷ 6 ∷ []

abbrev pub calls_v : List ClientCall
calls_v = receive_for 1 0 1 ∷ run_for 1 (0 ∷ []) (filled 2 9) ∷ []

abbrev pub answer_v : Moment
answer_v = record { past = []; output = []; position = at 0 [] [] 0 0; event = 1 }

abbrev pub query_v : Moment
query_v = record { past = 1 ∷ []; output = []; position = at 0 (1 ∷ []) (0 ∷ []) 1 0; event = 0 }

-- V is not winning at first; Answer leaves it so, and so it stays
pub record LaterWinning : Type 0 where
  pub not-initially : is_winning automaton_v table_v (initial_of automaton_v) ≡ false
  pub each-reply : replies automaton_v table_v (initial_clients automaton_v 1) calls_v
      ≡ receive (answer_for [] []) ∷ ran 0 2 0 (0 ∷ 1 ∷ []) ∷ []
  pub later : (winning_after automaton_v table_v query_v ≡ true)
      × (accepts automaton_v (reached automaton_v 0 (0 ∷ 1 ∷ [])) ≡ true)
  pub said :
      (status automaton_v table_v (get_or (leaves_all automaton_v table_v (initial_clients automaton_v 1) calls_v) 0 none)).winning
      ≡ true

-- lists that are too long, and none at all
abbrev pub crowd_calls : List ClientCall
crowd_calls = receive_for 501 499 0 ∷ receive_for 500 499 0 ∷ receive_for 500 500 0 ∷ []

abbrev pub none_calls : List ClientCall
none_calls = receive_for 3 0 0 ∷ run_for 1 (0 ∷ []) (filled 2 9) ∷ []

pub record Counts : Type 0 where
  pub crowd : replies automaton_w table_w (start_w 501) crowd_calls
      ≡ refused 20 ∷ receive (answer_for (0 ∷ []) (0 ∷ [])) ∷ refused 19 ∷ []
  pub none : replies automaton_w table_w (start_w 0) none_calls ≡ refused 20 ∷ ran 20 0 0 (9 ∷ 9 ∷ []) ∷ []
  -- over what the solver leaves
  pub solved : replies automaton_w (solved_table automaton_w (filled 16 9)) (start_w 2) calls ≡ call_replies
  pub demand3-solved : (count : ℕ) (xs : List ClientCall)
      → ClientsEnforced automaton_w (solved_table automaton_w (filled 16 9)) count xs

-- Sign and Receipt of a client that waits: here it is client 0 of three, and the call between
-- lends none ..
abbrev pub calls_here : List ClientCall
calls_here =
    receive_for 3 0 0 ∷ receive_for 0 0 1 ∷ run_for 3 (sent 1 2 ∷ sent 0 3 ∷ sent 2 1 ∷ []) (filled 9 9) ∷ []

-- .. and in a list of two it is client 1, and the first day has no room
abbrev pub two : List Configuration
two = full ∷ waiting ∷ []

abbrev pub calls_two : List ClientCall
calls_two =
    run_for 2 (sent 1 0 ∷ sent 0 3 ∷ sent 1 1 ∷ []) (filled 3 9) ∷
    run_for 2 (sent 0 3 ∷ sent 1 0 ∷ sent 9 9 ∷ []) (filled 6 9) ∷
    receive_for 2 1 3 ∷ []

-- a table whose places of S differ from W's in bits from 4 on alone, with other I and no place
-- more than W needs
abbrev pub other_table : List ℕ
other_table = 19 ∷ 5 ∷ 35 ∷ 8 ∷ 3 ∷ 0 ∷ 67 ∷ 1 ∷ 3 ∷ 9 ∷ 51 ∷ 7 ∷ 19 ∷ 1 ∷ []

-- the list of two after Sign of client 1
abbrev pub signed : List Configuration
signed = full ∷ waiting_signed ∷ []

-- Calls one after the other: Sign and Receipt of client 1 on the list of two; and to the functions
-- of two clients its Sign, for which more than two are to be lent, Page and Receipt.
pub record Turns : Type 0 where
  pub none-answered : replies automaton_w table_w two [] ≡ []
  pub one-answered : replies automaton_w table_w two (receive_for 2 1 0 ∷ []) ≡ receive (answer_for (0 ∷ []) (1 ∷ [])) ∷ []
  pub more-answered : replies automaton_w table_w two (receive_for 2 1 0 ∷ receive_for 2 1 3 ∷ [])
      ≡ receive (answer_for (0 ∷ []) (1 ∷ [])) ∷ receive (answer_for (2 ∷ 3 ∷ []) (0 ∷ 2 ∷ [])) ∷ []
  pub none_left : leaves_all automaton_w table_w two [] ≡ two
  pub one_left : leaves_all automaton_w table_w two (receive_for 2 1 0 ∷ []) ≡ signed
  pub more_left : leaves_all automaton_w table_w two (receive_for 2 1 0 ∷ receive_for 2 1 3 ∷ [])
      ≡ full ∷ waiting_served ∷ []
  pub none-expected : expected_all automaton_w 2 unfed [] ≡ []
  pub one-expected : expected_all automaton_w 2 unfed (receive_for 7 1 0 ∷ []) ≡ receive (answer_for (0 ∷ []) (0 ∷ [])) ∷ []
  pub more-expected : expected_all automaton_w 2 unfed (receive_for 7 1 0 ∷ receive_for 2 1 2 ∷ receive_for 2 1 3 ∷ [])
      ≡ receive (answer_for (0 ∷ []) (0 ∷ [])) ∷ receive (answer_for [] []) ∷ receive (answer_for (2 ∷ 3 ∷ []) (1 ∷ 2 ∷ [])) ∷ []
  pub none-fed : fed_all automaton_w 2 unfed [] 1 ≡ store_of [] [] [] [] 0
  pub one-fed : fed_all automaton_w 2 unfed (receive_for 7 1 0 ∷ []) 1 ≡ store_of (0 ∷ []) (0 ∷ []) [] [] 1
  pub more-fed : fed_all automaton_w 2 unfed (receive_for 7 1 0 ∷ receive_for 2 1 2 ∷ receive_for 2 1 3 ∷ []) 1
      ≡ store_of (0 ∷ 2 ∷ 3 ∷ []) (0 ∷ 1 ∷ 2 ∷ []) [] [] 3

-- what calls on the list of two bring client 1, each by itself: an event of its own and another's,
-- a day; an event with none lent, a day without room, an event that lends client 0 alone
pub record Bringing : Type 0 where
  pub nothing : own_all automaton_w table_w two 1 [] ≡ []
  pub own-event : own_all automaton_w table_w two 1 (receive_for 2 1 3 ∷ []) ≡ 3 ∷ []
  pub other-event : own_all automaton_w table_w two 1 (receive_for 2 0 3 ∷ []) ≡ []
  pub day : own_all automaton_w table_w two 1 (run_for 2 (sent 0 3 ∷ sent 1 0 ∷ sent 9 9 ∷ []) (filled 6 9) ∷ []) ≡ 0 ∷ []
  pub refused-event : own_all automaton_w table_w two 1 (receive_for 0 1 3 ∷ []) ≡ []
  pub refused-day : own_all automaton_w table_w two 1 (run_for 2 (sent 1 0 ∷ sent 0 3 ∷ sent 1 1 ∷ []) (filled 3 9) ∷ []) ≡ []
  pub not-lent : own_all automaton_w table_w two 1 (receive_for 1 1 3 ∷ []) ≡ []
  -- one after the other, and what they bring: Sign goes out, and Receipt lets the Page go with it
  pub first : own_all automaton_w table_w two 1 (receive_for 2 1 0 ∷ receive_for 2 1 3 ∷ []) ≡ 0 ∷ 3 ∷ []
  pub outcomes-nothing : outcomes_to automaton_w table_w two 1 [] ≡ []
  pub outcomes-event : outcomes_to automaton_w table_w two 1 (receive_for 2 1 0 ∷ []) ≡ lets (0 ∷ []) (1 ∷ []) ∷ []
  pub outcomes-day : outcomes_to automaton_w table_w two 1 (run_for 2 (sent 0 3 ∷ sent 1 0 ∷ sent 9 9 ∷ []) (filled 6 9) ∷ [])
      ≡ lets (0 ∷ []) (1 ∷ []) ∷ []
  pub outcomes-first : outcomes_to automaton_w table_w two 1 (receive_for 2 1 0 ∷ receive_for 2 1 3 ∷ [])
      ≡ lets (0 ∷ []) (1 ∷ []) ∷ lets (2 ∷ 3 ∷ []) (0 ∷ 2 ∷ []) ∷ []

pub record Beside : Type 0 where
  -- calls over other lists bring the client the same
  pub own : own_all automaton_w table_w two 1 calls_two ≡ 0 ∷ 3 ∷ []
  pub outcomes : outcomes_to automaton_w table_w two 1 calls_two ≡ lets (0 ∷ []) (1 ∷ []) ∷ lets (2 ∷ 3 ∷ []) (0 ∷ 2 ∷ []) ∷ []
  pub last : get_or (leaves_all automaton_w table_w two calls_two) 1 none ≡ waiting_served
  -- the broken one, over a table that nobody solved
  pub broken-outcomes : outcomes_to automaton_w (filled 14 9) (broken ∷ []) 0 (receive_for 1 0 2 ∷ []) ≡ brings 13 ∷ []
  pub broken-last : get_or (leaves_all automaton_w (filled 14 9) (broken ∷ []) (receive_for 1 0 2 ∷ [])) 0 none ≡ broken
  -- the calls here over the other table
  pub replies-other : replies automaton_w other_table here calls_here
      ≡ receive (answer_for (0 ∷ []) (1 ∷ [])) ∷ refused 20 ∷ ran 0 3 1 (2 ∷ 3 ∷ 1 ∷ 9 ∷ 9 ∷ 9 ∷ 9 ∷ 9 ∷ 9 ∷ []) ∷ []
  pub clients-other : leaves_all automaton_w other_table here calls_here
      ≡ waiting_served ∷ broken ∷ configuration (at 0 [] [] 2 2) ∷ []

-- The list here as somebody stored it: its client 0 is winning, and so it is after the calls here;
-- Sign of it, before them and after them, says so too.
pub record Reloaded : Type 0 where
  pub before : (status automaton_w table_w waiting).winning ≡ true
  pub after : (status automaton_w table_w (get_or (leaves_all automaton_w table_w here calls_here) 0 none)).winning ≡ true
  pub flagged : (received_for automaton_w table_w (leaves_all automaton_w table_w here calls_here) 0 0).winning ≡ true
  pub flag-is-status : status automaton_w table_w (get_or (received_clients automaton_w table_w here 0 0) 0 none)
      ≡ record { refusal = 0; winning = true }
