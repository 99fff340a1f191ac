-- The instances of the claims on records of the feed over a list of clients.
use Prim.Native.Nat.{ℕ}
use mathlib.Core.Path.{◌≡◌, refl, sym, ◌∙◌, ap}
use mathlib.Core.Logic.{inl, inr}
use mathlib.Core.List.{List, [], ◌∷◌}
use native.Mathlib.Omega.{arith}
use lib.ListN.{length, get_or}
use Rattle.base.specs.Pad.{pad}
use Rattle.base.proofs.Bools.{either}
use Rattle.varint.specs.Varint.{encode, bytes, encoded}
use Rattle.solver_sets.specs.Table.{table}
use Rattle.configuration.specs.declared.Configuration.{Configuration}
use Rattle.enforcement.specs.Store.{empty}
use Rattle.enforcement_cases.specs.Cases.{automaton_v, automaton_w}
use Rattle.enforcement_instances.specs.Statements.{filled, table_w}
use Rattle.enforcement_instances.specs.MonitorStatements.{store_of, wide_v}
use Rattle.enforcement_instances.proofs.Sheets.{valid-w}
use Rattle.enforcement_instances.proofs.MonitorInstances.{sign_fits, invalid_wide}
use Rattle.clients_answers.specs.declared.ReceivedFor.{ReceivedFor}
use Rattle.clients_answers.specs.Clients.{none, Outcome, refused_for, received_clients}
use Rattle.clients_answers.specs.Claims.{ListClear, outcome_of}
use Rattle.feed_record.specs.declared.Expected.{Expected}
use Rattle.feed_record.specs.declared.Expected.TheVariants.{Any, Serial}
use Rattle.feed_record.specs.Records.{admission}
use Rattle.feed_record.specs.Claims.{RecordIs, InTime}
use Rattle.feed_record.proofs.Worded.{records_as_worded, records_read_back}
use Rattle.feed_answers.specs.Feed.{entry_refusal, fed_for, event_in, fed_clients}
use Rattle.feed_answers.specs.Claims.{FeedRows, FeedAnswered}
use Rattle.feed_answers.proofs.Worded.{feed-rows_as_worded, feed-answered_as_worded, events_in_as_worded}
use Rattle.feed_answers.proofs.Worded.{feed_noninterference, feed_keeps_others, feed-emitted-padded}
use Rattle.enforcement_clients.specs.ClientCalls.{replies, leaves_all, own_all}
use Rattle.enforcement_clients.specs.Functions.{unfed, fed_all, events_to, refusals_of}
use Rattle.enforcement_clients.proofs.Parts.{calls_noninterference, events-brought_as_worded, outcomes_as_answered}
use Rattle.enforcement_clients.proofs.Ignored.{clients-others_ignored}
use Rattle.enforcement_clients_instances.proofs.Computing.{admitting, listing, calling, feeding}
use Rattle.enforcement_clients_instances.proofs.ListInstances.{short_13, long-w, broken_fails, held-stands, receipt-shut, waiting-stands, end_stands, crowd-length, clear_w}
use Rattle.enforcement_clients_instances.proofs.CallInstances.{enforced-w, clear_two, none_20, answer-sign, own-here, outcomes-here, leaves-here}
use Rattle.enforcement_clients_instances.proofs.CallInstances.{both_long, same_bits}
use Rattle.enforcement_clients_instances.proofs.RecordInstances.{turn_in, gap_in, record_fields}
use Rattle.enforcement_clients_instances.specs.ListStatements.{broken, waiting_signed, here, there, beside, answer_for, crowd, pair, end_pair}
use Rattle.enforcement_clients_instances.specs.CallStatements.{start_w, calls_here, two, signed, other_table}
use Rattle.enforcement_clients_instances.specs.RecordStatements.{serial_zero, after_gap, repeated, one_more, too_large, in_turn}
use Rattle.enforcement_clients_instances.specs.FeedStatements.{fed_as, kept_as, feed_calls, feed_replies, feed_clients, FeedCallFields, feed_row}
use Rattle.enforcement_clients_instances.specs.FeedStatements.{unthreaded, unthreaded_replies, UnthreadedFields, FeedRowFields, FeedAnswerFields}
use Rattle.enforcement_clients_instances.specs.FeedStatements.{FeedIsolating, FeedBringing, feed_there, FeedBeside}

replies-fed : replies automaton_w table_w (start_w 3) feed_calls ≡ feed_replies
unfolding calling
replies-fed = refl

leaves-fed : leaves_all automaton_w table_w (start_w 3) feed_calls ≡ feed_clients
unfolding calling
leaves-fed = refl

-- the functions' side, computed
fed-one : fed_all automaton_w 3 unfed feed_calls 1 ≡ store_of (0 ∷ 2 ∷ 3 ∷ []) (1 ∷ 0 ∷ 2 ∷ []) [] [] 3
unfolding feeding
fed-one = refl

events-zero : events_to automaton_w 3 unfed 0 feed_calls ≡ 0 ∷ []
unfolding feeding
events-zero = refl

events-one : events_to automaton_w 3 unfed 1 feed_calls ≡ 2 ∷ 0 ∷ 7 ∷ 3 ∷ []
unfolding feeding
events-one = refl

events-two : events_to automaton_w 3 unfed 2 feed_calls ≡ 2 ∷ []
unfolding feeding
events-two = refl

rows-one : refusals_of automaton_w empty (2 ∷ 0 ∷ 7 ∷ 3 ∷ []) ≡ 0 ∷ 0 ∷ 14 ∷ 0 ∷ []
unfolding feeding refusals_of
rows-one = refl

pub feed_call_fields : FeedCallFields
feed_call_fields =
    let said = enforced-w 3 feed_calls in
    let own = said.own 1 (omega arith) in
    let other = clients-others_ignored automaton_w table_w other_table both_long same_bits (start_w 3) feed_calls in
    record {
      each-reply = replies-fed;
      expected = sym said.each-reply ∙ replies-fed;
      last-clients = leaves-fed;
      clients = sym said.last-clients ∙ leaves-fed;
      brought-0 = (said.own 0 (omega arith)).brought ∙ events-zero;
      brought-1 = own.brought ∙ events-one;
      brought-2 = (said.own 2 (omega arith)).brought ∙ events-two;
      events = events-one;
      function = fed-one;
      rows = own.rows ∙ ap (refusals_of automaton_w empty) events-one ∙ rows-one;
      received = own.received ∙ ap (λ s. s.output) fed-one;
      last = ap (λ cs. get_or cs 1 none) leaves-fed;
      replies-other = sym other.0 ∙ replies-fed;
      clients-other = sym other.1 ∙ leaves-fed;
    }

-- each given what it is given
replies-unthreaded : replies automaton_w table_w (start_w 3) unthreaded ≡ unthreaded_replies
unfolding calling
replies-unthreaded = refl

events-unthreaded : events_to automaton_w 3 unfed 1 unthreaded ≡ 0 ∷ 0 ∷ []
unfolding feeding
events-unthreaded = refl

pub unthreaded_fields : UnthreadedFields
unthreaded_fields =
    let s = enforced-w 3 unthreaded in
    record {
      each-reply = replies-unthreaded;
      expected = sym s.each-reply ∙ replies-unthreaded;
      brought = (s.own 1 (omega arith)).brought ∙ events-unthreaded;
    }

-- the rows
said : (cs : List Configuration) (s : List ℕ) (x : Expected) → FeedRows automaton_w table_w cs s x
said = feed-rows_as_worded automaton_w table_w

clear_pair : ListClear automaton_w table_w (length pair)
clear_pair = clear_w pair (omega arith, omega arith)

clear_end : ListClear automaton_w table_w (length end_pair)
clear_end = clear_w end_pair (omega arith, omega arith)

pub feed-row_fields : FeedRowFields
unfolding automaton_w pad admitting
feed-row_fields =
    record {
      row_11 = (feed-rows_as_worded wide_v (table automaton_v) [] [] Any).list.row_11.1 invalid_wide;
      row_12 = (feed-rows_as_worded automaton_w (filled 13 9) [] [] Any).list.row_12.1 (valid-w, short_13);
      none_lent = λ s x. (said [] s x).list.row-20.1 (valid-w, long-w, inl refl);
      too_many = λ s x. (said (crowd 501) s x).list.row-20.1 (valid-w, long-w, inr (omega (arith, crowd-length 501)));
      row-1 = ((said pair [] (Serial 7)).own 1 (inl (inl refl))).1 (clear_pair, refl);
      row-2 = ((said pair (128 ∷ 128 ∷ 128 ∷ 0 ∷ []) (Serial 7)).own 2 (inl (inr refl))).1 (clear_pair, refl);
      row_10 = ((said pair one_more (Serial 7)).own 10 (inr (inl refl))).1 (clear_pair, refl);
      row-21 = ((said pair too_large (Serial 7)).own 21 (inr (inr (inl refl)))).1 (clear_pair, refl);
      row-22 = ((said pair repeated (Serial 7)).own 22 (inr (inr (inr refl)))).1 (clear_pair, refl);
      row-19 = (said pair (in_turn 2 9) (Serial 7)).event.row-19.1 ((clear_pair, refl), omega arith);
      row-13 = (said pair (in_turn 0 9) (Serial 7)).event.row-13.1 ((clear_pair, refl), omega arith, broken_fails);
      row-14 = (said pair (in_turn 1 4) (Serial 7)).event.row-14.1 ((clear_pair, refl), omega arith, held-stands, omega arith);
      row-15 =
          (said pair (in_turn 1 3) (Serial 7)).event.row-15.1
          ((clear_pair, refl), omega arith, held-stands, receipt-shut);
      row-23 = (said end_pair (in_turn 0 0) (Serial 7)).event.row-23.1 ((clear_end, refl), omega arith, end_stands, (sign_fits _ _ _, refl));
      row-0-beside =
          (said end_pair (in_turn 1 0) (Serial 7)).event.accepted.1
          ((clear_end, refl), omega arith, waiting-stands, (sign_fits _ _ _, λ z. omega arith));
      row_0 =
          (said pair (in_turn 1 1) (Serial 7)).event.accepted.1
          ((clear_pair, refl), omega arith, held-stands, ((omega arith, inl λ c. omega arith), λ z. omega arith));
      answered =
          (said pair repeated (Serial 7)).answered ∙
          ((said pair repeated (Serial 7)).own 22 (inr (inr (inr refl)))).1 (clear_pair, refl);
      only-11 = λ a s x h. (feed-rows_as_worded a table_w here s x).list.row_11.0 h;
      only-12 = λ t s x h. ((feed-rows_as_worded automaton_w t here s x).list.row_12.0 h).1;
      only-20 = λ cs s x h. ((said cs s x).list.row-20.0 h).2;
      only-22 = λ cs s x h. (((said cs s x).own 22 (inr (inr (inr refl)))).0 h).1;
      only-19 = λ cs s x h. ((said cs s x).event.row-19.0 h).1;
      only-13 = λ c h. ((said (broken ∷ c ∷ []) (in_turn 1 0) (Serial 7)).event.row-13.0 h).2;
      only-14 = λ cs s x h. ((said cs s x).event.row-14.0 h).3;
      only-15 = λ c h. let k = ((said (broken ∷ c ∷ []) (in_turn 1 3) (Serial 7)).event.row-15.0 h).3 in (k.0.2, k.1);
      only-23 = λ c h. ((said (broken ∷ c ∷ []) (in_turn 1 3) (Serial 7)).event.row-23.0 h).3.1;
      only-0 = λ c h.
          either ((said (broken ∷ c ∷ []) (in_turn 1 3) (Serial 7)).event.accepted.0 h).3.0.1 (λ k. absurd (k refl)) (λ l. l);
    }

-- Sign of client 1 and of client 0, let in
sign_in : InTime (in_turn 1 0) (Serial 2) 7 1 0
sign_in = turn_in 1 0 (omega arith) (omega arith)

zero-read : RecordIs serial_zero 0 0 0
unfolding encode bytes encoded
zero-read = records_read_back 0 0 0 [] (omega arith) (omega arith) (omega arith)

zero_in : InTime serial_zero (Serial 0) 0 0 0
unfolding admitting
zero_in = record { is = zero-read; small = omega arith; early = omega arith }

-- whole answers
answered : (cs : List Configuration) (s : List ℕ) (x : Expected) → FeedAnswered automaton_w table_w cs s x
answered = feed-answered_as_worded automaton_w table_w

clear_list-two : ListClear automaton_w table_w (length two)
clear_list-two = clear_w two (omega arith, omega arith)

list-sign : received_clients automaton_w table_w two 1 0 ≡ signed
unfolding listing
list-sign = rw valid-w refl

fed-sign : fed_for automaton_w table_w two (in_turn 1 0) (Serial 2) ≡ fed_as (answer_for (0 ∷ []) (1 ∷ [])) 8 5
unfolding admitting
fed-sign = ((answered two (in_turn 1 0) (Serial 2)).let-in clear_list-two 7 1 0 sign_in).0 ∙ ap (λ r. fed_as r 8 5) answer-sign

row_gap : feed_row two after_gap (Serial 1) ≡ 14
unfolding listing
row_gap = rw valid-w refl

own_gap : event_in after_gap (Serial 1) ≡ (1, 7) ∷ []
own_gap = (events_in_as_worded after_gap (Serial 1)).own 6 1 7 gap_in

no_repeat : event_in repeated (Serial 7) ≡ []
no_repeat = (events_in_as_worded repeated (Serial 7)).no_event (λ z. omega (arith, record_fields.row-22))

own-zero : event_in serial_zero (Serial 0) ≡ (0, 0) ∷ []
own-zero = (events_in_as_worded serial_zero (Serial 0)).own 0 0 0 zero_in

client-zero : (admission serial_zero (Serial 0)).client ≡ 0
client-zero = ap (λ m. m.client) ((records_as_worded serial_zero (Serial 0)).answer 0 0 0 zero_in)

-- whose the first of these is
client-of : List (ℕ × ℕ) → ℕ
client-of xs = (get_or xs 0 (0, 0)).0

pub feed-answer_fields : FeedAnswerFields
unfolding pad client-of
feed-answer_fields =
    let by-list = (answered [] one_more (Serial 7)).by-list (λ z. omega (arith, none_20)) in
    let at-10 = record_fields.row_10 in
    let by-record = (answered two one_more (Serial 7)).by-record clear_list-two (λ z. omega (arith, at-10.0)) in
    let refused = (answered two after_gap (Serial 1)).refused (λ z. omega (arith, row_gap)) in
    let emitted = feed-emitted-padded automaton_w table_w two (in_turn 1 0) (Serial 2) in
    record {
      by-list = (by-list.0 ∙ ap (λ n. kept_as 7 n 0) none_20, by-list.1);
      by-record = (by-record.0 ∙ (λ j. kept_as 7 (at-10.0 j) (at-10.1 j)), by-record.1);
      let-in = (fed-sign, ((answered two (in_turn 1 0) (Serial 2)).let-in clear_list-two 7 1 0 sign_in).1 ∙ list-sign);
      refused = (refused.0, refused.1 ∙ ap refused_for row_gap);
      others = (answered here serial_zero (Serial 0)).others 1 (λ h. omega (arith, client-zero));
      count = (answered here serial_zero (Serial 0)).count;
      own = own_gap;
      no_event = no_repeat;
      emitted-count = emitted.0;
      emitted-length = emitted.1.0;
      padded = emitted.1.1 1 (omega (arith, ap (λ f. f.answer.count) fed-sign));
      places-padded = emitted.2.1 1 (omega (arith, ap (λ f. f.answer.count) fed-sign));
      kept = feed_keeps_others automaton_w table_w two serial_zero (Serial 0) 1 (λ e h. let k = ap client-of (sym own-zero ∙ h) in omega arith);
      repeat-kept = feed_keeps_others automaton_w table_w there repeated (Serial 7) 2 (λ e h. let k = ap length (sym no_repeat ∙ h) in omega arith);
    }

-- noninterference: what the client has here, and the broken one
answer-here : (fed_for automaton_w table_w here serial_zero (Serial 0)).answer ≡ answer_for (0 ∷ []) (1 ∷ [])
unfolding listing
answer-here = rw valid-w refl

last-here : get_or (fed_clients automaton_w table_w here serial_zero (Serial 0)) 0 none ≡ waiting_signed
unfolding listing
last-here = rw valid-w refl

broken-answer-here : (fed_for automaton_w (filled 14 9) here (in_turn 1 2) (Serial 7)).answer ≡ refused_for 13
unfolding listing
broken-answer-here = rw valid-w refl

broken-last-here : get_or (fed_clients automaton_w (filled 14 9) here (in_turn 1 2) (Serial 7)) 1 none ≡ broken
unfolding listing
broken-last-here = rw valid-w refl

same_sign : ((fed_for automaton_w table_w here serial_zero (Serial 0)).answer ≡ (fed_for automaton_w table_w there repeated (Serial 1)).answer)
    × (get_or (fed_clients automaton_w table_w here serial_zero (Serial 0)) 0 none ≡ get_or (fed_clients automaton_w table_w there repeated (Serial 1)) 2 none)
unfolding admitting event_in
same_sign =
    feed_noninterference automaton_w table_w here there serial_zero repeated (Serial 0) (Serial 1) 0 2 0 refl (omega arith) (omega arith) refl refl refl

same-broken : ((fed_for automaton_w (filled 14 9) here (in_turn 1 2) (Serial 7)).answer
    ≡ (fed_for automaton_w (filled 14 9) beside (in_turn 0 2) (Serial 7)).answer)
    × (get_or (fed_clients automaton_w (filled 14 9) here (in_turn 1 2) (Serial 7)) 1 none
    ≡ get_or (fed_clients automaton_w (filled 14 9) beside (in_turn 0 2) (Serial 7)) 0 none)
unfolding admitting event_in
same-broken =
    feed_noninterference automaton_w (filled 14 9) here beside (in_turn 1 2) (in_turn 0 2) (Serial 7) (Serial 7) 1 0 2 refl (omega arith) (omega arith)
    refl refl refl

pub feed_isolating : FeedIsolating
feed_isolating =
    record {
      answer = sym same_sign.0 ∙ answer-here;
      last = sym same_sign.1 ∙ last-here;
      broken-answer = sym same-broken.0 ∙ broken-answer-here;
      broken-last = sym same-broken.1 ∙ broken-last-here;
    }

-- what records bring
late_entry : entry_refusal automaton_w table_w 2 (in_turn 1 0) (Serial 8) ≡ 22
unfolding listing
late_entry = rw valid-w refl

pub feed_bringing : FeedBringing
unfolding pad
feed_bringing =
    let own = events-brought_as_worded automaton_w table_w two 1 in
    let told : (r : ReceivedFor) → List Outcome = λ r. outcome_of r ∷ [] in
    record {
      own-record = own.own-record 2 (in_turn 1 0) (Serial 2) 7 0 clear_two (omega arith) sign_in;
      other-record = own.other-record 2 serial_zero (Serial 0) 0 0 0 (λ h. omega arith) zero_in;
      refused-record = own.refused-record 2 (in_turn 1 0) (Serial 8) (λ h. let n = late_entry in omega arith);
      outcomes =
          (outcomes_as_answered automaton_w table_w two 1).fed 2 (in_turn 1 0) (Serial 2) 7 0 clear_two (omega arith) sign_in ∙
          ap (λ f. told f.answer) fed-sign;
    }

own-there : own_all automaton_w table_w there 2 feed_there ≡ 0 ∷ 3 ∷ []
unfolding calling
own-there = refl

pub feed-beside : FeedBeside
feed-beside =
    let same =
    calls_noninterference automaton_w table_w here there calls_here feed_there 0 2 (omega arith) (omega arith) refl (own-here ∙ sym own-there) in
    record {
      own = own-there;
      outcomes = sym same.0 ∙ outcomes-here;
      last = sym same.1 ∙ ap (λ cs. get_or cs 0 none) leaves-here;
    }
