-- The instances of the claims on an event that comes at a client's full buffer.
use Prim.Native.Nat.{ℕ, ◌<◌}
use mathlib.Core.Path.{◌≡◌, refl, sym, ◌∙◌, ap}
use mathlib.Core.Logic.{inr}
use mathlib.Core.Bool.{true}
use mathlib.Core.List.{List, [], ◌∷◌}
use native.Mathlib.Omega.{arith}
use lib.ListN.{length}
use Rattle.base.specs.Pad.{pad}
use Rattle.automaton.specs.Automaton.{accepts, reached}
use Rattle.solver_sets.specs.Claims.{Winning}
use Rattle.configuration.specs.Configuration.{held_events, consistent, configuration}
use Rattle.monitor_rule.specs.Claims.{Full, Fits, Tabled, Opened}
use Rattle.enforcement.specs.Strategy.{Lost, lost_bound}
use Rattle.enforcement.specs.Moments.{Moment, effect_at}
use Rattle.enforcement.specs.Claims.{winning_after, output_after}
use Rattle.enforcement.specs.Claims.{arrival_at, strategy_release, our_release, strategy_output, strategy_buffer, LongerIsLost}
use Rattle.enforcement.specs.Published.{OpensBuffer}
use Rattle.enforcement_cases.specs.Cases.{automaton_v}
use Rattle.enforcement_instances.specs.MonitorStatements.{store_of, eager}
use Rattle.enforcement_instances.specs.FullStatements.{table_v, one_answer, answer_at_end, answer_held, first_answer, second_answer, query}
use Rattle.enforcement_instances.proofs.Sheets.{valid-v}
use Rattle.enforcement_instances.proofs.FullInstances.{solved_tv, answer-full, answer-opens, admitted-v}
use Rattle.clients_answers.specs.Clients.{initial_clients}
use Rattle.clients_answers.specs.Claims.{ListClear, ClientOpened}
use Rattle.clients_answers.proofs.Worded.{client-rows_as_worded}
use Rattle.clients_answers.proofs.Single.{clients-opened}
use Rattle.feed_record.specs.declared.Expected.TheVariants.{Serial}
use Rattle.feed_answers.specs.declared.Fed.{Fed}
use Rattle.feed_answers.specs.Feed.{fed_for}
use Rattle.feed_answers.proofs.Worded.{feed-rows_as_worded, feed-answered_as_worded}
use Rattle.enforcement_clients.specs.ClientCalls.{receive_for, receive, moments_of}
use Rattle.enforcement_clients.specs.Functions.{unfed, fed_in, expected_in, expected_all}
use Rattle.enforcement_clients.specs.Published.{EventAsPublished}
use Rattle.enforcement_clients.proofs.Published.{clients_follow_published}
use Rattle.enforcement_clients.proofs.Demand3.{clients-demand3}
use Rattle.enforcement_clients_instances.proofs.Computing.{stepping, admitting, listing, calling, storing, feeding}
use Rattle.enforcement_clients_instances.specs.ListStatements.{answer_for}
use Rattle.enforcement_clients_instances.specs.CallStatements.{ran}
use Rattle.enforcement_clients_instances.proofs.RecordInstances.{turn_in}
use Rattle.enforcement_clients_instances.specs.RecordStatements.{in_turn}
use Rattle.enforcement_clients_instances.specs.FullStatements.{answering, answer_two, ListOpened, family_v, FunctionsOpened, opening_calls, MetOpened}

-- the list of V's clients
clear_v : ListClear automaton_v table_v 3
unfolding stepping automaton_v
clear_v = record { record_valid = valid-v; table-long = refl; count-right = (omega arith, omega arith) }

one-stands : consistent automaton_v (configuration one_answer) ≡ true
unfolding stepping automaton_v
one-stands = refl

end_stands : consistent automaton_v (configuration answer_at_end) ≡ true
unfolding stepping automaton_v
end_stands = refl

-- the second Answer opens the buffer
one-fits : Fits (Tabled automaton_v table_v) automaton_v 0 (held_events (configuration one_answer)) 1
unfolding automaton_v held_events pad
one-fits = (omega arith, inr (inr answer-opens))

one-full : Full automaton_v (held_events (configuration one_answer)) 1
unfolding held_events pad
one-full = answer-full

end_fits : Fits (Tabled automaton_v table_v) automaton_v 0 (held_events (configuration answer_at_end)) 1
unfolding automaton_v held_events pad
end_fits = (omega arith, inr (inr answer-opens))

-- what V's client is answered
opened_one : ClientOpened automaton_v table_v answering 1 1
opened_one =
    clients-opened automaton_v table_v answering 1 1
    (((client-rows_as_worded automaton_v table_v answering).event 1 1).accepted.1 (clear_v, omega arith, one-stands, (one-fits, λ z. omega arith)))
    one-full

answered-whole : answer_two ≡ answer_for (1 ∷ []) (0 ∷ [])
unfolding listing automaton_v
answered-whole = rw valid-v refl

record_answered : (fed_for automaton_v table_v answering (in_turn 1 1) (Serial 2)).answer ≡ answer_for (1 ∷ []) (0 ∷ [])
record_answered =
    ap (λ (x : Fed). x.answer)
    ((feed-answered_as_worded automaton_v table_v answering (in_turn 1 1) (Serial 2)).let-in clear_v 7 1 1 (turn_in 1 1 (omega arith) (omega arith))).0 ∙
    answered-whole

pub list-opened : ListOpened
unfolding held_events pad admitting
list-opened =
    let said = client-rows_as_worded automaton_v table_v answering in
    let o = opened_one.opened in
    record {
      accepted = (said.event 1 1).accepted.1 (clear_v, omega arith, one-stands, (one-fits, λ z. omega arith));
      not-15 = λ h. ((said.event 1 1).row-15.0 h).3.1 answer-opens;
      inside = (said.inside 1 1).accepted.1 (tt, omega arith, one-stands, (one-fits, λ z. omega arith));
      record-fed =
          (feed-rows_as_worded automaton_v table_v answering (in_turn 1 1) (Serial 7)).event.accepted.1
          ((clear_v, refl), omega arith, one-stands, (one-fits, λ z. omega arith));
      record-answer = record_answered;
      row-23 = (said.event 2 1).row-23.1 (clear_v, omega arith, end_stands, (end_fits, refl));
      whole = answered-whole;
      parts = o.parts;
      some = o.some;
      led = o.led;
      rests = o.rests;
      longest = o.longest (1 ∷ 1 ∷ []) [] refl;
      winning = opened_one.winning;
    }

-- the functions
event : EventAsPublished automaton_v 2 family_v 2 1 1
event = (clients_follow_published automaton_v 2 family_v).event 2 1 1

fed-v : fed_in automaton_v 2 family_v (receive_for 2 1 1) 1 ≡ store_of (1 ∷ []) (0 ∷ []) (1 ∷ []) (1 ∷ []) 2
unfolding feeding automaton_v
fed-v = refl

answer-v : expected_in automaton_v 2 family_v (receive_for 2 1 1) ≡ receive (answer_for (1 ∷ []) (0 ∷ []))
unfolding storing automaton_v
answer-v = event.answer (omega arith, omega arith) (omega arith) admitted-v

opened-v : Opened (Winning automaton_v) automaton_v 0 (1 ∷ []) 1 (1 ∷ []) (1 ∷ []) 0
unfolding storing automaton_v
opened-v =
    let o : OpensBuffer automaton_v answer_held 1 (store_of (1 ∷ []) (0 ∷ []) (1 ∷ []) (1 ∷ []) 2) =
    rw fed-v at (event.opens (omega arith, omega arith) (omega arith) answer-full admitted-v).0 in
    rw (sym o.put-out) at o.opened

pub functions_opened : FunctionsOpened
functions_opened =
    let events = (clients_follow_published automaton_v 2 family_v).events in
    record {
      accepted = event.accepted.1 ((omega arith, omega arith), omega arith, admitted-v);
      answer = answer-v;
      fed = fed-v;
      opened = opened-v;
      winning = (event.opens (omega arith, omega arith) (omega arith) answer-full admitted-v).1;
      not-counted =
          events.not-counted 1 1 [] (omega arith) admitted-v ∙ (clients_follow_published automaton_v 2 _).events.none-counted;
    }

-- demand 3
expected-v : expected_all automaton_v 2 unfed opening_calls ≡ receive (answer_for [] []) ∷ ran 0 3 0 (1 ∷ 0 ∷ 1 ∷ []) ∷ []
unfolding feeding automaton_v
expected-v = refl

met-v : moments_of automaton_v table_v (initial_clients automaton_v 2) 1 opening_calls ≡ first_answer ∷ second_answer ∷ query ∷ []
unfolding calling automaton_v
met-v = refl

abbrev Fine : Moment → List ℕ → Type 0
Fine m output = (winning_after automaton_v table_v m ≡ true) × (accepts automaton_v (reached automaton_v automaton_v.initial output) ≡ true)

fine_second : Fine second_answer (output_after automaton_v table_v second_answer) → Fine second_answer (1 ∷ [])
unfolding stepping effect_at output_after automaton_v
fine_second h = h

fine_query : Fine query (output_after automaton_v table_v query) → Fine query (1 ∷ 0 ∷ 1 ∷ [])
unfolding stepping effect_at output_after automaton_v
fine_query h = h

-- we let one Answer go, and an eager one both
longer_v : length (our_release automaton_v table_v second_answer) < length (strategy_release automaton_v eager second_answer)
unfolding stepping arrival_at our_release strategy_release automaton_v
longer_v = omega arith

lost_v : LongerIsLost automaton_v table_v second_answer → Lost automaton_v 0 eager (1 ∷ 1 ∷ []) (1 ∷ 1 ∷ []) [] 2
unfolding stepping arrival_at strategy_release strategy_output strategy_buffer lost_bound accepts automaton_v
lost_v h = h eager longer_v

pub met-opened : MetOpened
unfolding automaton_v
met-opened =
    let enforced = clients-demand3 automaton_v table_v valid-v solved_tv 2 opening_calls in
    let said = enforced.met 1 (omega arith) in
    let stays = said.opened (first_answer ∷ []) second_answer (query ∷ []) met-v answer-full in
    let lost = lost_v (rw met-v at said.strategies).1.0 in
    record {
      each-reply = enforced.each-reply ∙ expected-v;
      moments = met-v;
      opened = fine_second stays.0;
      opened_after = fine_query stays.1.0;
      strategies = (lost.list, lost.uncontrollable, lost.short, lost.outside);
    }
