-- The claims on an event that comes at a client's full buffer (document 02, Card 5) at sheet V,
-- which holds one Answer at most, hypotheses met.
use Rattle.std.specs.Prelude.{ℕ, zero, suc, ◌≤◌, ◌≡◌, true, false, List, [], ◌∷◌, ◌++◌, length, get_or, take}
use Rattle.automaton.specs.Automaton.{accepts, reached}
use Rattle.solver_sets.specs.Definition6.{AllUncontrollable}
use Rattle.solver_sets.specs.Claims.{Winning}
use Rattle.configuration.specs.declared.Configuration.{Configuration}
use Rattle.configuration.specs.Configuration.{held_events, configuration, initial_of}
use Rattle.monitor_rule.specs.Step.{by_sets}
use Rattle.monitor_rule.specs.Claims.{Tabled, Opened}
use Rattle.enforcement.specs.Store.{empty, state_of}
use Rattle.enforcement.specs.Strategy.{play}
use Rattle.enforcement.specs.Claims.{winning_after}
use Rattle.enforcement_cases.specs.Cases.{automaton_v}
use Rattle.enforcement_instances.specs.Statements.{filled}
use Rattle.enforcement_instances.specs.MonitorStatements.{store_of, eager}
use Rattle.enforcement_instances.specs.FullStatements.{table_v, one_answer, answer_at_end, answer_held}
use Rattle.enforcement_instances.specs.FullStatements.{first_answer, second_answer, query}
use Rattle.clients_answers.specs.declared.ReceivedFor.{ReceivedFor}
use Rattle.clients_answers.specs.Listed.{outcome}
use Rattle.clients_answers.specs.Clients.{none, initial_clients, monitored, receive_for_refusal, received_for, received_clients}
use Rattle.feed_record.specs.declared.Expected.TheVariants.{Serial}
use Rattle.feed_answers.specs.Feed.{feed_refusal, fed_for}
use Rattle.enforcement_clients.specs.ClientCalls.{ClientCall, receive_for, run_for, receive, refusal_in, replies, moments_of}
use Rattle.enforcement_clients.specs.Functions.{Functions, fed_in, refused_day, expected_in}
use Rattle.enforcement_clients_instances.specs.ListStatements.{sent, answer_for}
use Rattle.enforcement_clients_instances.specs.CallStatements.{ran}
use Rattle.enforcement_clients_instances.specs.RecordStatements.{in_turn}

-- a client of V at its start, and one with an Answer held; and one beside it with the count at its
-- end
abbrev pub answering : List Configuration
answering = initial_of automaton_v ∷ configuration one_answer ∷ configuration answer_at_end ∷ []

-- what client 1's second Answer is answered, and client 1 after it
abbrev pub answer_two : ReceivedFor
answer_two = received_for automaton_v table_v answering 1 1

abbrev pub after_two : Configuration
after_two = get_or (received_clients automaton_v table_v answering 1 1) 1 none

-- it opens the buffer: no row refuses it, by itself, inside a day and in a record of the feed; at
-- the count's end 23 does
pub record ListOpened : Type 0 where
  pub accepted : receive_for_refusal automaton_v table_v answering 1 1 ≡ 0
  pub not-15 : receive_for_refusal automaton_v table_v answering 1 1 ≡ 15 → ⊥
  pub inside : (outcome (monitored automaton_v table_v) answering 1 1).refusal ≡ 0
  pub record-fed : feed_refusal automaton_v table_v answering (in_turn 1 1) (Serial 7) ≡ 0
  pub record-answer : (fed_for automaton_v table_v answering (in_turn 1 1) (Serial 2)).answer ≡ answer_for (1 ∷ []) (0 ∷ [])
  pub row-23 : receive_for_refusal automaton_v table_v answering 2 1 ≡ 23
  -- the first goes, the second is held, and the answer says winning
  pub whole : answer_two ≡ answer_for (1 ∷ []) (0 ∷ [])
  pub parts : take answer_two.count answer_two.emitted ++ held_events after_two ≡ 1 ∷ 1 ∷ []
  pub some : 1 ≤ length (take answer_two.count answer_two.emitted)
  pub led : after_two.state ≡ reached automaton_v 0 (take answer_two.count answer_two.emitted)
  pub rests : Tabled automaton_v table_v (held_events after_two) after_two.state
  -- with both gone V could not rest
  pub longest : Tabled automaton_v table_v [] (reached automaton_v 0 (1 ∷ 1 ∷ []))
      → 2 ≤ length (take answer_two.count answer_two.emitted)
  pub winning : answer_two.winning ≡ true

-- client 1's function holds an Answer, and no other anything
abbrev pub family_v : Functions
family_v zero = empty
family_v (suc zero) = answer_held
family_v (suc (suc g)) = empty

-- the functions' answer to client 1's second Answer
pub record FunctionsOpened : Type 0 where
  pub accepted : refusal_in (expected_in automaton_v 2 family_v (receive_for 2 1 1)) ≡ 0
  pub answer : expected_in automaton_v 2 family_v (receive_for 2 1 1) ≡ receive (answer_for (1 ∷ []) (0 ∷ []))
  pub fed : fed_in automaton_v 2 family_v (receive_for 2 1 1) 1 ≡ store_of (1 ∷ []) (0 ∷ []) (1 ∷ []) (1 ∷ []) 2
  pub opened : Opened (Winning automaton_v) automaton_v 0 (1 ∷ []) 1 (1 ∷ []) (1 ∷ []) 0
  pub winning : let z = fed_in automaton_v 2 family_v (receive_for 2 1 1) 1 in
      by_sets automaton_v z.buffer (state_of automaton_v z) ≡ true
  pub not-counted : refused_day automaton_v 2 family_v ((1, 1) ∷ []) ≡ 0

-- of two clients: Answer of client 1, and a day of its Answer and Query with room for three
abbrev pub opening_calls : List ClientCall
opening_calls = receive_for 2 1 1 ∷ run_for 2 (sent 1 1 ∷ sent 1 0 ∷ []) (filled 3 9) ∷ []

-- demand 3 of the clients with such an event among the calls
pub record MetOpened : Type 0 where
  pub each-reply : replies automaton_v table_v (initial_clients automaton_v 2) opening_calls
      ≡ receive (answer_for [] []) ∷ ran 0 3 0 (1 ∷ 0 ∷ 1 ∷ []) ∷ []
  pub moments : moments_of automaton_v table_v (initial_clients automaton_v 2) 1 opening_calls
      ≡ first_answer ∷ second_answer ∷ query ∷ []
  -- winning after the second Answer, inside the day, and so after Query
  pub opened : (winning_after automaton_v table_v second_answer ≡ true)
      × (accepts automaton_v (reached automaton_v 0 (1 ∷ [])) ≡ true)
  pub opened_after : (winning_after automaton_v table_v query ≡ true)
      × (accepts automaton_v (reached automaton_v 0 (1 ∷ 0 ∷ 1 ∷ [])) ≡ true)
  -- the rule that lets all go, and so both Answers then, is driven out by at most two events
  pub strategies : (us : List ℕ)
      × AllUncontrollable automaton_v us
      × (length us ≤ 2)
      × (accepts automaton_v (reached automaton_v 0 (play automaton_v eager (1 ∷ 1 ∷ []) (1 ∷ 1 ∷ []) [] us)) ≡ false)
