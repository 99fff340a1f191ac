-- The claims on an event that comes at a full buffer (document 02, Card 5), hypotheses met: at
-- sheet V, which holds one Answer at most, a second Answer opens the buffer; at W a third Page
-- does not.
use Rattle.std.specs.Prelude.{ℕ, ◌≤◌, ◌≡◌, true, false, List, [], ◌∷◌, ◌++◌, leb, length, take}
use Rattle.automaton.specs.Automaton.{accepts, reached}
use Rattle.solver_sets.specs.Definition6.{AllUncontrollable}
use Rattle.solver_sets.specs.Claims.{Winning}
use Rattle.configuration.specs.Configuration.{Position, held_events, configuration, initial_of}
use Rattle.monitor_rule.specs.Step.{Rest, by_sets, event_refusal}
use Rattle.monitor_rule.specs.Claims.{Full, Opens, Tabled, Opened}
use Rattle.monitor_answers.specs.declared.Received.{Received}
use Rattle.monitor_answers.specs.Answers.{receive_refusal, received}
use Rattle.enforcement.specs.Store.{Store, store, refused_of}
use Rattle.enforcement.specs.Calls.{Call, receive_call, run_call, receive, refusal_in, replies, expected}
use Rattle.enforcement.specs.Moments.{Moment, moments}
use Rattle.enforcement.specs.Strategy.{play}
use Rattle.enforcement.specs.Claims.{winning_after, arrival_at}
use Rattle.enforcement_cases.specs.Cases.{automaton_v, automaton_w, at, answer}
use Rattle.enforcement_instances.specs.Statements.{filled, table_w}
use Rattle.enforcement_instances.specs.MonitorStatements.{two_pages, store_of, two_held, run_reply, eager}

-- V's table
abbrev pub table_v : List ℕ
table_v = 4 ∷ 0 ∷ 5 ∷ 6 ∷ []

-- V with an Answer held, the first of the input; and with the count at its end
abbrev pub one_answer : Position
one_answer = at 0 (1 ∷ []) (0 ∷ []) 1 0

abbrev pub answer_at_end : Position
answer_at_end = at 0 (1 ∷ []) (7 ∷ []) 4294967295 4294967294

-- a rest test that lets one rest with two events, and with no fewer
abbrev pub rests_with_two : Rest
rests_with_two w q = leb 2 (length w)

-- the rows of an event at a full buffer, by the table
pub record FullRows : Type 0 where
  pub full : Full automaton_v (1 ∷ []) 1
  pub opens : Opens (Tabled automaton_v table_v) automaton_v 0 (1 ∷ []) 1
  -- so no row refuses the second Answer, also not 15; at the count's end 23 does
  pub accepted : receive_refusal automaton_v table_v (configuration one_answer) 1 ≡ 0
  pub not-15 : receive_refusal automaton_v table_v (configuration one_answer) 1 ≡ 15 → ⊥
  pub row-23 : receive_refusal automaton_v table_v (configuration answer_at_end) 1 ≡ 23
  -- the third Page is refused by 15, and so it does not open W's buffer
  pub row-15 : receive_refusal automaton_w table_w (configuration two_pages) 2 ≡ 15
  pub shut : Opens (Tabled automaton_w table_w) automaton_w 0 (2 ∷ 2 ∷ []) 2 → ⊥
  -- over tables that nobody solved: without a bit the second Answer is refused, and with all bits
  -- both Answers go
  pub no_bits : receive_refusal automaton_v (filled 4 0) (configuration one_answer) 1 ≡ 15
  pub all-bits : Opened (Tabled automaton_v (filled 4 7)) automaton_v 0 (1 ∷ []) 1 (1 ∷ 1 ∷ []) [] 0
  pub all-bits-winning : (received automaton_v (filled 4 7) (configuration one_answer) 1).winning ≡ true
  -- nothing is asked of the two Answers together
  pub wider : event_refusal rests_with_two automaton_v one_answer 1 ≡ 15

-- what V answers to the second Answer
abbrev pub answer_v : Received
answer_v = received automaton_v table_v (configuration one_answer) 1

-- the first goes and the second is held
pub record FullAnswer : Type 0 where
  pub whole : answer_v ≡ answer 0 (1 ∷ []) (0 ∷ []) (at 0 (1 ∷ []) (1 ∷ []) 2 1) true
  pub parts : take answer_v.count answer_v.emitted ++ held_events answer_v.configuration ≡ 1 ∷ 1 ∷ []
  pub some : 1 ≤ length (take answer_v.count answer_v.emitted)
  pub led : answer_v.configuration.state ≡ reached automaton_v 0 (take answer_v.count answer_v.emitted)
  pub rests : Tabled automaton_v table_v (held_events answer_v.configuration) answer_v.configuration.state
  -- with both gone V could not rest
  pub longest : Tabled automaton_v table_v [] (reached automaton_v 0 (1 ∷ 1 ∷ [])) → 2 ≤ 1
  pub winning : answer_v.winning ≡ true
  -- the same by its values, and by the sets
  pub by-table : Opened (Tabled automaton_v table_v) automaton_v 0 (1 ∷ []) 1 (1 ∷ []) (1 ∷ []) 0
  pub by-sets : Opened (λ w q. by_sets automaton_v w q ≡ true) automaton_v 0 (1 ∷ []) 1 (1 ∷ []) (1 ∷ []) 0

-- the published function with an Answer held
abbrev pub answer_held : Store
answer_held = store_of [] [] (1 ∷ []) (0 ∷ []) 1

pub record FullFunction : Type 0 where
  pub row : refusal_in (expected automaton_v answer_held (receive_call 1)) ≡ 0
  pub function : store automaton_v answer_held 1 ≡ store_of (1 ∷ []) (0 ∷ []) (1 ∷ []) (1 ∷ []) 2
  pub opened : Opened (Winning automaton_v) automaton_v 0 (1 ∷ []) 1 (1 ∷ []) (1 ∷ []) 0
  pub not-counted : refused_of automaton_v answer_held (1 ∷ []) ≡ 0
  -- the third Page
  pub row-15 : refusal_in (expected automaton_w two_held (receive_call 2)) ≡ 15
  pub shut : Opens (Winning automaton_w) automaton_w 0 (2 ∷ 2 ∷ []) 2 → ⊥

-- Answer; then a day of Answer and Query, with room for three
abbrev pub opening_calls : List Call
opening_calls = receive_call 1 ∷ run_call (1 ∷ 0 ∷ []) (filled 3 9) ∷ []

-- their accepted events: the second Answer comes at a full buffer, inside the day
abbrev pub first_answer : Moment
first_answer = record { past = []; output = []; position = at 0 [] [] 0 0; event = 1 }

abbrev pub second_answer : Moment
second_answer = record { past = 1 ∷ []; output = []; position = one_answer; event = 1 }

abbrev pub query : Moment
query = record { past = 1 ∷ 1 ∷ []; output = 1 ∷ []; position = at 0 (1 ∷ []) (1 ∷ []) 2 1; event = 0 }

-- demand 3 with such an event among the calls
pub record FullEnforced : Type 0 where
  pub each-reply : replies automaton_v table_v (initial_of automaton_v) opening_calls
      ≡ receive (answer 0 [] [] one_answer true) ∷ run_reply (at 2 [] [] 3 3) 3 0 (1 ∷ 0 ∷ 1 ∷ []) ∷ []
  pub met : moments automaton_v table_v (initial_of automaton_v) opening_calls ≡ first_answer ∷ second_answer ∷ query ∷ []
  pub full : Full automaton_v second_answer.position.buffer second_answer.event
  -- V is winning after it, and so after Query, and the output leads to an accepting state
  pub opened : (winning_after automaton_v table_v second_answer ≡ true)
      × (accepts automaton_v (reached automaton_v 0 (1 ∷ [])) ≡ true)
  pub opened_after : (winning_after automaton_v table_v query ≡ true)
      × (accepts automaton_v (reached automaton_v 0 (1 ∷ 0 ∷ 1 ∷ [])) ≡ true)
  -- two are in hand then, one more than the capacity; the rule that lets all go, and so both, is
  -- driven out by at most two events
  pub in-hand : length (arrival_at automaton_v second_answer).buffer ≡ 2
  pub strategies : (us : List ℕ)
      × AllUncontrollable automaton_v us
      × (length us ≤ 2)
      × (accepts automaton_v (reached automaton_v 0 (play automaton_v eager (1 ∷ 1 ∷ []) (1 ∷ 1 ∷ []) [] us)) ≡ false)
