-- The instances of the claims on lists of calls over a list of clients.
use Prim.Native.Nat.{ℕ, ◌*◌, ◌<◌, ◌≤◌, min}
use mathlib.Core.Path.{◌≡◌, refl, sym, ◌∙◌, ap, subst}
use mathlib.Core.Bool.{Bool, true, false, cond, not}
use mathlib.Core.List.{List, [], ◌∷◌, ◌++◌, map}
use native.Mathlib.Omega.{arith}
use lib.ListN.{length, get_or, take}
use Rattle.base.specs.Each.{each}
use Rattle.base.specs.Masks.{has}
use Rattle.base.specs.Pad.{pad}
use Rattle.base.proofs.Ranges.{each_at}
use Rattle.automaton.specs.Automaton.{accepts, reached}
use Rattle.solver_sets.specs.Table.{Solved, short, index}
use Rattle.solver_sets.proofs.Numbering.{numbered}
use Rattle.configuration_places.specs.Places.{input_number}
use Rattle.configuration.specs.Configuration.{held_events, place_numbers, configuration, initial_of}
use Rattle.monitor_answers.specs.Answers.{table_rows, call_rows, call_refusal, is_winning, status, receive_refusal, received}
use Rattle.enforcement.specs.Store.{Store, empty, store, store_all, feed, feed_all}
use Rattle.enforcement.specs.Calls.{configuration_at, receive_call, fed_by}
use Rattle.enforcement.specs.Moments.{Moment, effect_at, emitted_at}
use Rattle.enforcement.specs.Places.{event_at, Answered}
use Rattle.enforcement.specs.Strategy.{Lost, lost_bound}
use Rattle.enforcement.specs.Claims.{winning_after, output_after}
use Rattle.enforcement.specs.Claims.{arrival_at, strategy_release, our_release, strategy_output, strategy_buffer, LongerIsLost}
use Rattle.enforcement.specs.Answers.{SaysWinning, SameBits}
use Rattle.enforcement_cases.specs.Cases.{automaton_v, automaton_w, at}
use Rattle.enforcement_cases.proofs.Cases.{marked-cases}
use Rattle.enforcement_instances.specs.Statements.{filled, table_w}
use Rattle.enforcement_instances.specs.MonitorStatements.{store_of, eager}
use Rattle.enforcement_instances.proofs.Sheets.{valid-w, valid-v, solves_w, buffers-w, solved-w, solved-v}
use Rattle.enforcement_instances.proofs.MonitorInstances.{begins_winning}
use Rattle.clients_answers.specs.declared.ReceivedFor.{ReceivedFor}
use Rattle.clients_answers.specs.Listed.{events_of, part_of}
use Rattle.clients_answers.specs.Clients.{none, initial_clients, named, list_refusal, Outcome, received_for, run_for_refusal, day_outcomes}
use Rattle.clients_answers.specs.Claims.{outcome_of}
use Rattle.enforcement_clients.specs.ClientCalls.{ClientCall, receive_for, lent_by, receive, reply, leaves, replies, leaves_all, own_all, moments_of}
use Rattle.enforcement_clients.specs.Functions.{Functions, unfed, fed_in, expected_in, expected_all, fed_all, events_to, refusals_of, configurations_at}
use Rattle.enforcement_clients.specs.Claims.{outcomes_to, ClientTold, ClientsEnforced}
use Rattle.enforcement_clients.proofs.InTurn.{answered-in_turn, expected-in-turn}
use Rattle.enforcement_clients.proofs.Parts.{calls_noninterference, events-brought_as_worded, outcomes_as_answered}
use Rattle.enforcement_clients.proofs.Ignored.{clients-others_ignored}
use Rattle.enforcement_clients.proofs.Flags.{clients-flag-is-status, clients-flag-stays}
use Rattle.enforcement_clients.proofs.Demand3.{clients-demand3, clients-demand3-solved}
use Rattle.enforcement_clients_instances.proofs.Computing.{stepping, listing, calling, feeding}
use Rattle.enforcement_clients_instances.proofs.ListInstances.{alone-w}
use Rattle.enforcement_clients_instances.specs.ListStatements.{sent, broken, waiting, waiting_served, full, here, lets, brings, answer_for}
use Rattle.enforcement_clients_instances.specs.CallStatements.{refused, ran, table_v, calls_v, answer_v, query_v, LaterWinning}
use Rattle.enforcement_clients_instances.specs.CallStatements.{crowd_calls, none_calls, Counts, calls_here, two, calls_two, signed, other_table, Turns, Bringing, Beside, Reloaded}
use Rattle.enforcement_clients_instances.specs.CallStatements.{calls, call_replies, own_events, page, receipt, sign, again, last_zero, last_one, store_one, start_w, Fields, OwnFields, MetFields}
use Rattle.enforcement_clients_instances.specs.CallStatements.{taken, last_two, places_then, ToldFields}

-- demand 3 of W's clients, for any count and calls
pub enforced-w : (count : ℕ) (xs : List ClientCall) → ClientsEnforced automaton_w table_w count xs
enforced-w = clients-demand3 automaton_w table_w valid-w solved-w

-- the functions' side, computed
expected-w : expected_all automaton_w 2 unfed calls ≡ call_replies
unfolding feeding
expected-w = refl

clients-w : configurations_at automaton_w 2 (fed_all automaton_w 2 unfed calls) ≡ last_zero ∷ last_one ∷ []
unfolding feeding
clients-w = refl

pub fields : Fields
fields =
    let said = enforced-w 2 calls in
    record {
      expected = expected-w;
      each-reply = said.each-reply ∙ expected-w;
      clients = clients-w;
      last-clients = said.last-clients ∙ clients-w;
    }

-- of client 1
fed-one : fed_all automaton_w 2 unfed calls 1 ≡ store_one
unfolding feeding
fed-one = refl

events-one : events_to automaton_w 2 unfed 1 calls ≡ own_events
unfolding feeding
events-one = refl

rows-one : refusals_of automaton_w empty own_events ≡ 0 ∷ 0 ∷ 0 ∷ 14 ∷ 0 ∷ []
unfolding feeding refusals_of
rows-one = refl

stands_for : configuration_at automaton_w store_one ≡ last_one
unfolding feeding
stands_for = refl

-- its accepted events, computed over the list
met-one : moments_of automaton_w table_w (start_w 2) 1 calls ≡ page ∷ receipt ∷ sign ∷ again ∷ []
unfolding calling
met-one = refl

-- and what the published function of document 01 makes of its events
fed-alone : feed_all automaton_w empty (map fed_by (map receive_call own_events)) ≡ store_one
unfolding feeding fed_by feed feed_all
fed-alone = refl

pub own_fields : OwnFields
own_fields =
    let said = (enforced-w 2 calls).own 1 (omega arith) in
    let last = said.last ∙ ap (configuration_at automaton_w) fed-one ∙ stands_for in
    let as_alone = rw events-one at said.as_alone in
    let met = rw events-one at said.same-moments in
    let enforced = rw events-one at said.enforced in
    record {
      fed = fed-one;
      events = events-one;
      function = ap (store_all automaton_w empty) (sym events-one) ∙ sym said.function ∙ fed-one;
      brought = said.brought ∙ events-one;
      rows = said.rows ∙ ap (refusals_of automaton_w empty) events-one ∙ rows-one;
      received = said.received ∙ ap (λ s. s.output) fed-one;
      last = last;
      as_alone = sym as_alone ∙ last;
      last-consistent = said.last-consistent;
      met = sym met ∙ met-one;
      enforced = enforced.enforces.all-emitted ∙ ap (λ s. s.output) fed-alone;
    }

-- W is winning after Sign
sign-winning : winning_after automaton_w table_w sign ≡ true
unfolding stepping winning_after
sign-winning = refl

-- what is claimed of the last Page, by its values
abbrev Fine : Moment → List ℕ → Type 0
Fine m output = (winning_after automaton_w table_w m ≡ true) × (accepts automaton_w (reached automaton_w automaton_w.initial output) ≡ true)

fine_again : Fine again (output_after automaton_w table_w again) → Fine again (0 ∷ 2 ∷ 3 ∷ [])
unfolding stepping effect_at output_after
fine_again h = h

-- we hold it, and an eager one lets it go
longer : length (our_release automaton_w table_w again) < length (strategy_release automaton_w eager again)
unfolding stepping arrival_at our_release strategy_release
longer = omega arith

lost_again : LongerIsLost automaton_w table_w again → Lost automaton_w 0 eager (2 ∷ 3 ∷ 0 ∷ 2 ∷ []) (0 ∷ 2 ∷ 3 ∷ 2 ∷ []) [] 2
unfolding stepping arrival_at strategy_release strategy_output strategy_buffer lost_bound accepts
lost_again h = h eager longer

-- Receipt is accepted then
receipt-row : (received automaton_w table_w last_one 3).refusal ≡ 0
unfolding stepping received receive_refusal call_refusal call_rows table_rows
receipt-row = rw valid-w refl

told-last : SaysWinning automaton_w table_w last_one → (received automaton_w table_w last_one 3).winning ≡ true
told-last s = s.flagged 3 receipt-row

pub met_fields : MetFields
unfolding automaton_w
met_fields =
    let said = (enforced-w 2 calls).met 1 (omega arith) in
    let lost = lost_again (rw met-one at said.strategies).1.1.1.0 in
    record {
      moments = met-one;
      alone = rw met-one at said.alone ∙ fed-one;
      emitted = rw met-one at said.emitted ∙ ap (λ s. s.output) fed-one;
      initially = fine_again (rw met-one at (said.initially begins_winning)).1.1.1.0;
      later = fine_again (said.later (page ∷ receipt ∷ []) sign (again ∷ []) met-one sign-winning).1.0;
      said-initially =
          subst (λ c. (status automaton_w table_w c).winning ≡ true) own_fields.last (said.said-initially begins_winning).told;
      flagged-initially = told-last (rw own_fields.last at (said.said-initially begins_winning));
      said =
          subst (λ c. (status automaton_w table_w c).winning ≡ true) own_fields.last
          (said.said (page ∷ receipt ∷ []) sign (again ∷ []) met-one sign-winning).told;
      flagged = told-last (rw own_fields.last at (said.said (page ∷ receipt ∷ []) sign (again ∷ []) met-one sign-winning));
      strategies = (lost.list, lost.uncontrollable, lost.short, lost.outside);
    }

-- what the places mean, of both clients
told-one : ClientTold automaton_w table_w last_two 1 (page ∷ receipt ∷ sign ∷ again ∷ []) store_one
told-one = rw (met-one, fed-one) at ((enforced-w 2 calls).told 1 (omega arith))

-- client 0's accepted events, and its function
abbrev store_zero : Store
store_zero = store_of (0 ∷ 1 ∷ []) (0 ∷ 1 ∷ []) [] [] 2

abbrev met_zero : List Moment
met_zero =
    record { past = []; output = []; position = at 0 [] [] 0 0; event = 0 } ∷
    record { past = 0 ∷ []; output = 0 ∷ []; position = at 1 [] [] 1 1; event = 1 } ∷ []

met-zero : moments_of automaton_w table_w (start_w 2) 0 calls ≡ met_zero
unfolding calling
met-zero = refl

fed-zero : fed_all automaton_w 2 unfed calls 0 ≡ store_zero
unfolding feeding
fed-zero = refl

told-zero : ClientTold automaton_w table_w last_two 0 met_zero store_zero
told-zero = rw (met-zero, fed-zero) at ((enforced-w 2 calls).told 0 (omega arith))

-- Receipt of client 1 then, and Sign of client 0
receipt_then : received_for automaton_w table_w last_two 1 3 ≡ answer_for (2 ∷ 3 ∷ []) (3 ∷ 4 ∷ [])
unfolding listing
receipt_then = rw fields.last-clients (rw valid-w refl)

receipt-places : places_then 2 1 3 ≡ 3 ∷ 4 ∷ []
unfolding pad
receipt-places = ap (λ r. take 2 (map input_number r.places)) receipt_then

receipt-told : Answered (taken ++ 3 ∷ []) store_one (store automaton_w store_one 3) 2 (2 ∷ 3 ∷ 0 ∷ 0 ∷ 0 ∷ 0 ∷ 0 ∷ []) (3 ∷ 4 ∷ 0 ∷ 0 ∷ 0 ∷ 0 ∷ 0 ∷ [])
unfolding pad
receipt-told = rw receipt_then at (told-one.answered 3 (ap (λ r. r.refusal) receipt_then))

sign_then : received_for automaton_w table_w last_two 0 0 ≡ answer_for (0 ∷ []) (2 ∷ [])
unfolding listing
sign_then = rw fields.last-clients (rw valid-w refl)

sign-places : places_then 1 0 0 ≡ 2 ∷ []
unfolding pad
sign-places = ap (λ r. take 1 (map input_number r.places)) sign_then

sign-told : map (event_at (0 ∷ 1 ∷ 0 ∷ [])) (2 ∷ []) ≡ 0 ∷ []
unfolding pad
sign-told = (rw sign_then at (told-zero.answered 0 (ap (λ r. r.refusal) sign_then))).found

-- all that they put out
put_one : emitted_at automaton_w table_w (page ∷ receipt ∷ sign ∷ again ∷ []) ≡ 0 ∷ 2 ∷ 3 ∷ []
put_one = met_fields.emitted

put-zero : emitted_at automaton_w table_w met_zero ≡ 0 ∷ 1 ∷ []
put-zero = rw met-zero at ((enforced-w 2 calls).met 0 (omega arith)).emitted ∙ ap (λ s. s.output) fed-zero

held-told : map (event_at taken) (3 ∷ []) ≡ 2 ∷ []
unfolding held_events place_numbers pad
held-told = rw fields.last-clients at told-one.held

pub told_fields : ToldFields
told_fields =
    record {
      function = told-one.function;
      put-out = told-one.function.put-out;
      traced = told-one.traced;
      held = held-told;
      received-count = told-one.received-count;
      emitted-count = told-one.emitted-count ∙ ap length put_one;
      places = receipt-places;
      answered = ap (map (event_at (taken ++ 3 ∷ []))) receipt-places ∙ receipt-told.found;
      answer-output = receipt-told.output;
      answer-sources = receipt-told.sources ∙ ap (λ l. store_one.sources ++ l) (sym receipt-places);
      other-function = told-zero.function;
      other-received = told-zero.received-count;
      other-emitted = told-zero.emitted-count ∙ ap length put-zero;
      other-places = sign-places;
      other-answered = ap (map (event_at (0 ∷ 1 ∷ 0 ∷ []))) sign-places ∙ sign-told;
    }

-- V: its table, its one client's functions and accepted events
solved-table-v : Solved automaton_v table_v
solved-table-v = rw marked-cases.1.1.0.0 at solved-v

expected-v : expected_all automaton_v 1 unfed calls_v ≡ receive (answer_for [] []) ∷ ran 0 2 0 (0 ∷ 1 ∷ []) ∷ []
unfolding feeding automaton_v
expected-v = refl

met-v : moments_of automaton_v table_v (initial_clients automaton_v 1) 0 calls_v ≡ answer_v ∷ query_v ∷ []
unfolding calling automaton_v
met-v = refl

begins_v : is_winning automaton_v table_v (initial_of automaton_v) ≡ false
unfolding stepping automaton_v
begins_v = refl

answer-winning : winning_after automaton_v table_v answer_v ≡ true
unfolding stepping winning_after automaton_v
answer-winning = refl

abbrev FineV : Moment → List ℕ → Type 0
FineV m output = (winning_after automaton_v table_v m ≡ true) × (accepts automaton_v (reached automaton_v automaton_v.initial output) ≡ true)

fine_query : FineV query_v (output_after automaton_v table_v query_v) → FineV query_v (0 ∷ 1 ∷ [])
unfolding stepping effect_at output_after automaton_v
fine_query h = h

pub later-winning : LaterWinning
unfolding automaton_v
later-winning =
    let enforced = clients-demand3 automaton_v table_v valid-v solved-table-v 1 calls_v in
    let said = enforced.met 0 (omega arith) in
    record {
      not-initially = begins_v;
      each-reply = enforced.each-reply ∙ expected-v;
      later = fine_query (said.later [] answer_v (query_v ∷ []) met-v answer-winning).1.0;
      said = (said.said [] answer_v (query_v ∷ []) met-v answer-winning).told;
    }

-- other counts
expected-crowd : expected_all automaton_w 501 unfed crowd_calls ≡ refused 20 ∷ receive (answer_for (0 ∷ []) (0 ∷ [])) ∷ refused 19 ∷ []
unfolding feeding
expected-crowd = refl

expected-none : expected_all automaton_w 0 unfed none_calls ≡ refused 20 ∷ ran 20 0 0 (9 ∷ 9 ∷ []) ∷ []
unfolding feeding
expected-none = refl

pub counts : Counts
counts =
    let solved = clients-demand3-solved automaton_w (filled 16 9) solves_w in
    record {
      crowd = (enforced-w 501 crowd_calls).each-reply ∙ expected-crowd;
      none = (enforced-w 0 none_calls).each-reply ∙ expected-none;
      solved = (solved 2 calls).each-reply ∙ expected-w;
      demand3-solved = solved;
    }

-- what calls bring, one by one
pub clear_two : list_refusal automaton_w table_w 2 ≡ 0
unfolding listing
clear_two = rw valid-w refl

pub none_20 : list_refusal automaton_w table_w 0 ≡ 20
unfolding listing
none_20 = rw valid-w refl

room-two : run_for_refusal automaton_w table_w two (sent 0 3 ∷ sent 1 0 ∷ sent 9 9 ∷ []) (filled 6 9) ≡ 0
unfolding listing
room-two = rw valid-w refl

lacks-two : run_for_refusal automaton_w table_w two (sent 1 0 ∷ sent 0 3 ∷ sent 1 1 ∷ []) (filled 3 9) ≡ 16
unfolding listing
lacks-two = rw valid-w refl

events-two : events_of 1 (named (sent 0 3 ∷ sent 1 0 ∷ sent 9 9 ∷ [])) ≡ 0 ∷ []
unfolding listing
events-two = refl

leaves-two : leaves automaton_w table_w two (receive_for 2 1 0) ≡ signed
unfolding calling
leaves-two = refl

pub answer-sign : received_for automaton_w table_w two 1 0 ≡ answer_for (0 ∷ []) (1 ∷ [])
unfolding listing
answer-sign = rw valid-w refl

answer-receipt : received_for automaton_w table_w signed 1 3 ≡ answer_for (2 ∷ 3 ∷ []) (0 ∷ 2 ∷ [])
unfolding listing
answer-receipt = rw valid-w refl

outcomes-two : part_of 1 (named (sent 0 3 ∷ sent 1 0 ∷ sent 9 9 ∷ []))
    (day_outcomes automaton_w table_w two (sent 0 3 ∷ sent 1 0 ∷ sent 9 9 ∷ []) (filled 6 9)) ≡ lets (0 ∷ []) (1 ∷ []) ∷ []
unfolding listing
outcomes-two = rw valid-w refl

one_lent : length (take (lent_by (receive_for 1 1 3)) two) ≤ 1
unfolding lent_by
one_lent = omega arith

-- calls one after the other
reply-sign : reply automaton_w table_w two (receive_for 2 1 0) ≡ receive (answer_for (0 ∷ []) (1 ∷ []))
unfolding reply
reply-sign = ap receive answer-sign

reply-receipt : reply automaton_w table_w signed (receive_for 2 1 3) ≡ receive (answer_for (2 ∷ 3 ∷ []) (0 ∷ 2 ∷ []))
unfolding reply
reply-receipt = ap receive answer-receipt

leaves_signed : leaves automaton_w table_w signed (receive_for 2 1 3) ≡ full ∷ waiting_served ∷ []
unfolding calling
leaves_signed = refl

-- the same of the functions
abbrev sign_page : List ClientCall
sign_page = receive_for 7 1 0 ∷ receive_for 2 1 2 ∷ []

expected-sign : expected_in automaton_w (min (lent_by (receive_for 7 1 0)) 2) unfed (receive_for 7 1 0) ≡ receive (answer_for (0 ∷ []) (0 ∷ []))
unfolding feeding
expected-sign = refl

fed-sign : fed_in automaton_w (min (lent_by (receive_for 7 1 0)) 2) unfed (receive_for 7 1 0) 1 ≡ store_of (0 ∷ []) (0 ∷ []) [] [] 1
unfolding feeding
fed-sign = refl

expected-later : expected_all automaton_w 2 unfed sign_page ++ expected_all automaton_w 2 (fed_all automaton_w 2 unfed sign_page) (receive_for 2 1 3 ∷ [])
    ≡ receive (answer_for (0 ∷ []) (0 ∷ [])) ∷ receive (answer_for [] []) ∷ receive (answer_for (2 ∷ 3 ∷ []) (1 ∷ 2 ∷ [])) ∷ []
unfolding feeding
expected-later = refl

fed-later : fed_all automaton_w 2 (fed_all automaton_w 2 unfed sign_page) (receive_for 2 1 3 ∷ []) 1 ≡ store_of (0 ∷ 2 ∷ 3 ∷ []) (0 ∷ 1 ∷ 2 ∷ []) [] [] 3
unfolding feeding
fed-later = refl

pub turns : Turns
turns =
    let k = answered-in_turn automaton_w table_w in
    let one = (k two).one-said (receive_for 2 1 0) ∙ ap (λ r. r ∷ []) reply-sign in
    let left = (k two).one_left (receive_for 2 1 0) ∙ leaves-two in
    let f = expected-in-turn automaton_w 2 in
    record {
      none-answered = (k two).none_said;
      one-answered = one;
      more-answered =
          (k two).more-said (receive_for 2 1 0 ∷ []) (receive_for 2 1 3 ∷ []) ∙
          rw (one, left, (k signed).one-said (receive_for 2 1 3), reply-receipt);
      none_left = (k two).none_left;
      one_left = left;
      more_left =
          (k two).more_left (receive_for 2 1 0 ∷ []) (receive_for 2 1 3 ∷ []) ∙
          rw (left, (k signed).one_left (receive_for 2 1 3), leaves_signed);
      none-expected = (f unfed).none_said;
      one-expected = (f unfed).one-said (receive_for 7 1 0) ∙ ap (λ r. r ∷ []) expected-sign;
      more-expected = (f unfed).more-said sign_page (receive_for 2 1 3 ∷ []) ∙ expected-later;
      none-fed = ap (λ (ss : Functions). ss 1) (f unfed).none_left;
      one-fed = ap (λ (ss : Functions). ss 1) ((f unfed).one_left (receive_for 7 1 0)) ∙ fed-sign;
      more-fed = ap (λ (ss : Functions). ss 1) ((f unfed).more_left sign_page (receive_for 2 1 3 ∷ [])) ∙ fed-later;
    }

pub bringing : Bringing
unfolding pad
bringing =
    let own = events-brought_as_worded automaton_w table_w two 1 in
    let later = events-brought_as_worded automaton_w table_w signed 1 in
    let said = outcomes_as_answered automaton_w table_w two 1 in
    let then = outcomes_as_answered automaton_w table_w signed 1 in
    let told : (r : ReceivedFor) → List Outcome = λ r. outcome_of r ∷ [] in
    let sign = said.event 2 0 clear_two (omega arith) ∙ ap told answer-sign in
    record {
      nothing = own.nothing;
      own-event = own.own-event 2 3 clear_two (omega arith);
      other-event = own.other-event 2 0 3 (λ h. omega arith);
      day = own.day 2 (sent 0 3 ∷ sent 1 0 ∷ sent 9 9 ∷ []) (filled 6 9) room-two (omega arith) ∙ events-two;
      refused-event = own.refused-event 0 1 3 (λ h. let n = none_20 in omega arith);
      refused-day = own.refused-day 2 (sent 1 0 ∷ sent 0 3 ∷ sent 1 1 ∷ []) (filled 3 9) (λ h. let n = lacks-two in omega arith);
      not-lent = own.not-lent (receive_for 1 1 3) one_lent;
      first =
          own.first (receive_for 2 1 0) (receive_for 2 1 3 ∷ []) ∙
          rw (own.own-event 2 0 clear_two (omega arith), leaves-two, later.own-event 2 3 clear_two (omega arith));
      outcomes-nothing = said.nothing;
      outcomes-event = sign;
      outcomes-day = said.day 2 (sent 0 3 ∷ sent 1 0 ∷ sent 9 9 ∷ []) (filled 6 9) (omega arith) ∙ outcomes-two;
      outcomes-first =
          said.first (receive_for 2 1 0) (receive_for 2 1 3 ∷ []) ∙
          rw (sign, leaves-two, then.event 2 3 clear_two (omega arith) ∙ ap told answer-receipt);
    }

-- noninterference over calls: what the client has here
pub own-here : own_all automaton_w table_w here 0 calls_here ≡ 0 ∷ 3 ∷ []
unfolding calling
own-here = refl

own-two : own_all automaton_w table_w two 1 calls_two ≡ 0 ∷ 3 ∷ []
unfolding calling
own-two = refl

pub outcomes-here : outcomes_to automaton_w table_w here 0 calls_here ≡ lets (0 ∷ []) (1 ∷ []) ∷ lets (2 ∷ 3 ∷ []) (0 ∷ 2 ∷ []) ∷ []
unfolding calling
outcomes-here = refl

pub replies-here : replies automaton_w table_w here calls_here
    ≡ receive (answer_for (0 ∷ []) (1 ∷ [])) ∷ refused 20 ∷ ran 0 3 1 (2 ∷ 3 ∷ 1 ∷ 9 ∷ 9 ∷ 9 ∷ 9 ∷ 9 ∷ 9 ∷ []) ∷ []
unfolding calling
replies-here = refl

pub leaves-here : leaves_all automaton_w table_w here calls_here ≡ waiting_served ∷ broken ∷ configuration (at 0 [] [] 2 2) ∷ []
unfolding calling
leaves-here = refl

-- of the broken one, over nines
broken-own : own_all automaton_w (filled 14 9) here 1 calls_here ≡ own_all automaton_w (filled 14 9) (broken ∷ []) 0 (receive_for 1 0 2 ∷ [])
unfolding calling
broken-own = refl

broken-outcomes-here : outcomes_to automaton_w (filled 14 9) here 1 calls_here ≡ brings 13 ∷ []
unfolding calling
broken-outcomes-here = refl

broken-last-here : get_or (leaves_all automaton_w (filled 14 9) here calls_here) 1 none ≡ broken
unfolding calling
broken-last-here = refl

-- the two tables: at each place of S the bits below 4 are the same
agree : Bool → Bool → Bool
agree b c = cond b c (not c)

agreed : (b c : Bool) → agree b c ≡ true → b ≡ c
unfolding agree
agreed true c h = sym h
agreed false true h = h
agreed false false h = refl

all_agree : each 7 (λ j. each 4 (λ q. agree (has (get_or table_w (2 * j) 0) q) (has (get_or other_table (2 * j) 0) q))) ≡ true
unfolding each has agree
all_agree = refl

pub same_bits : SameBits automaton_w table_w other_table
unfolding automaton_w
same_bits w b q h =
    let l : index automaton_w w < 7 = omega (arith, numbered automaton_w valid-w w b, buffers-w) in
    agreed _ _ (each_at 4 _ (each_at 7 _ all_agree (index automaton_w w) l) q h)

pub both_long : short automaton_w table_w ≡ short automaton_w other_table
unfolding short
both_long = rw buffers-w refl

pub beside : Beside
beside =
    let same = calls_noninterference automaton_w table_w here two calls_here calls_two 0 1 (omega arith) (omega arith) refl (own-here ∙ sym own-two) in
    let nines =
    calls_noninterference automaton_w (filled 14 9) here (broken ∷ []) calls_here (receive_for 1 0 2 ∷ []) 1 0 (omega arith) (omega arith) refl
    broken-own in
    let other = clients-others_ignored automaton_w table_w other_table both_long same_bits here calls_here in
    record {
      own = own-two;
      outcomes = sym same.0 ∙ outcomes-here;
      last = sym same.1 ∙ ap (λ cs. get_or cs 0 none) leaves-here;
      broken-outcomes = sym nines.0 ∙ broken-outcomes-here;
      broken-last = sym nines.1 ∙ broken-last-here;
      replies-other = sym other.0 ∙ replies-here;
      clients-other = sym other.1 ∙ leaves-here;
    }

-- the list as it was stored: its client 0 is winning
waits_winning : (status automaton_w table_w waiting).winning ≡ true
unfolding stepping status call_refusal call_rows table_rows
waits_winning = rw valid-w refl

accepts-sign : received_for automaton_w table_w here 0 0 ≡ answer_for (0 ∷ []) (1 ∷ [])
accepts-sign = alone-w.answer

sign-after : (received_for automaton_w table_w (leaves_all automaton_w table_w here calls_here) 0 0).refusal ≡ 0
unfolding listing
sign-after = rw leaves-here (rw valid-w refl)

pub reloaded : Reloaded
reloaded =
    let stays = clients-flag-stays automaton_w table_w solved-w here 0 (omega arith) waits_winning calls_here in
    let told = clients-flag-is-status automaton_w table_w here 0 0 (ap (λ r. r.refusal) accepts-sign) in
    record {
      before = waits_winning;
      after = stays.told;
      flagged = stays.flagged 0 sign-after;
      flag-is-status = rw accepts-sign at told;
    }
