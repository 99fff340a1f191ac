-- The instances of the claims on the interface for C over a list of clients.
use Prim.Native.Nat.{ℕ}
use mathlib.Core.Path.{◌≡◌, refl, ◌∙◌, ap}
use mathlib.Core.List.{List, [], ◌∷◌, map}
use native.Mathlib.Omega.{arith}
use Rattle.base.specs.Pad.{pad}
use Rattle.automaton.specs.declared.Automaton.{Automaton}
use Rattle.enforcement_cases.specs.Cases.{automaton_w}
use Rattle.enforcement_instances.specs.Statements.{filled, table_w}
use Rattle.enforcement_instances.proofs.Sheets.{valid-w, solved-w}
use Rattle.enforcement_instances.specs.LayoutStatements.{record_w, any_bytes}
use Rattle.enforcement_instances.proofs.LayoutInstances.{kept-w}
use Rattle.clients_answers.specs.Clients.{receive_for_refusal, received_for, received_clients, run_for_refusal, ran_for, ran_clients, ran_for_buffer}
use Rattle.feed_record.specs.Serials.{following}
use Rattle.feed_record.specs.Claims.{InTime}
use Rattle.feed_answers.specs.Feed.{entry_refusal, feed_refusal, fed_for, fed_clients}
use Rattle.c_layout.specs.Layout.{part, automaton_of, number_bytes, number_of, expected_of, expected_bytes, same_expected, expected_laid}
use Rattle.c_layout.proofs.Offsets.{offsets_hold}
use Rattle.c_layout.proofs.ClientCalls.{clients-left_as_answered}
use Rattle.c_layout.proofs.FeedCalls.{expected-kept, feed-left_as_answered}
use Rattle.enforcement_bytes.specs.ClientByteCalls.{call_of, BesideList, expected_lent, laid_for, laid_all}
use Rattle.enforcement_bytes.proofs.ClientByteCalls.{clients-by_value, client-bytes-enforced}
use Rattle.enforcement_clients_instances.proofs.Computing.{listing}
use Rattle.enforcement_clients_instances.proofs.CallInstances.{replies-here, leaves-here, fields}
use Rattle.enforcement_clients_instances.proofs.RecordInstances.{turn_in, gap_in}
use Rattle.enforcement_clients_instances.proofs.FeedInstances.{feed_call_fields, feed-answer_fields}
use Rattle.enforcement_clients_instances.specs.ListStatements.{sent, here, answer_for}
use Rattle.enforcement_clients_instances.specs.CallStatements.{two, signed}
use Rattle.enforcement_clients_instances.specs.RecordStatements.{after_gap, repeated, in_turn}
use Rattle.enforcement_clients_instances.specs.FeedStatements.{fed_as, feed_calls, feed_replies}
use Rattle.enforcement_clients_instances.specs.LayoutStatements.{late_answer, lent_here, lent_calls, ClientLayouts, long_loss, at_fourth, lent_feed_calls, serials_left, FeedLayouts}

-- what the calls by value say of W and the list of two
sign-row-w : receive_for_refusal automaton_w table_w two 1 0 ≡ 0
unfolding listing
sign-row-w = rw valid-w refl

sign-list-w : received_clients automaton_w table_w two 1 0 ≡ signed
unfolding listing
sign-list-w = rw valid-w refl

sign-answer-w : (received_for automaton_w table_w two 1 0).count ≡ 1
unfolding listing
sign-answer-w = rw valid-w refl

absent-row-w : receive_for_refusal automaton_w table_w two 2 0 ≡ 19
unfolding listing
absent-row-w = rw valid-w refl

day-row-w : run_for_refusal automaton_w table_w two (sent 1 0 ∷ []) (filled 4 9) ≡ 0
unfolding listing
day-row-w = rw valid-w refl

day-list-w : ran_clients automaton_w table_w two (sent 1 0 ∷ []) (filled 4 9) ≡ signed
unfolding listing
day-list-w = rw valid-w refl

day-written-w : (ran_for automaton_w table_w two (sent 1 0 ∷ []) (filled 4 9)).length ≡ 1
unfolding listing
day-written-w = rw valid-w refl

day-output-w : ran_for_buffer automaton_w table_w two (sent 1 0 ∷ []) (filled 4 9) ≡ 0 ∷ 9 ∷ 9 ∷ 9 ∷ []
unfolding listing
day-output-w = rw valid-w refl

short_row-w : run_for_refusal automaton_w table_w two (sent 1 0 ∷ []) (filled 3 9) ≡ 16
unfolding listing
short_row-w = rw valid-w refl

module _ (a : Automaton) (own : a ≡ automaton_w) where
  sign-row : receive_for_refusal a table_w two 1 0 ≡ 0
  sign-row = rw own sign-row-w

  sign-list : received_clients a table_w two 1 0 ≡ signed
  sign-list = rw own sign-list-w

  sign-answer : (received_for a table_w two 1 0).count ≡ 1
  sign-answer = rw own sign-answer-w

  absent-row : receive_for_refusal a table_w two 2 0 ≡ 19
  absent-row = rw own absent-row-w

  day-row : run_for_refusal a table_w two (sent 1 0 ∷ []) (filled 4 9) ≡ 0
  day-row = rw own day-row-w

  day-list : ran_clients a table_w two (sent 1 0 ∷ []) (filled 4 9) ≡ signed
  day-list = rw own day-list-w

  day-written : (ran_for a table_w two (sent 1 0 ∷ []) (filled 4 9)).length ≡ 1
  day-written = rw own day-written-w

  day-output : ran_for_buffer a table_w two (sent 1 0 ∷ []) (filled 4 9) ≡ 0 ∷ 9 ∷ 9 ∷ 9 ∷ []
  day-output = rw own day-output-w

  short_row : run_for_refusal a table_w two (sent 1 0 ∷ []) (filled 3 9) ≡ 16
  short_row = rw own short_row-w

pub client_layouts : ClientLayouts
unfolding pad call_of laid_for laid_all
client_layouts =
    let a = automaton_of record_w in
    let left = clients-left_as_answered record_w table_w two in
    let r = offsets_hold.received-for late_answer two refl refl in
    let d = offsets_hold.ran-for (record { refusal = 0; length = 300; refused = 2 }) two [] in
    let enforced = client-bytes-enforced record_w table_w (rw kept-w valid-w) (rw kept-w solved-w) (any_bytes ∷ any_bytes ∷ []) lent_calls in
    record {
      received-size = r.size;
      emitted = r.emitted 1 (omega arith);
      count = r.count;
      winning = r.winning.0 refl;
      input-place = (r.places 1 (omega arith)).value (omega arith);
      input-place-low-first = (r.places 0 (omega arith)).low_first 1 (omega arith);
      ran-size = d.size;
      written = d.written.value (omega arith);
      events-refused = d.refused.value (omega arith);
      event-refusal = left.event-refusal 1 0 ∙ sign-row a kept-w;
      event-list = left.event-list 1 0 ∙ sign-list a kept-w;
      event-answer = (left.event-answer 1 0).count ∙ sign-answer a kept-w;
      event-refused = left.event-refused 2 0 (λ h. omega (arith, left.event-refusal 2 0 ∙ absent-row a kept-w));
      run-refusal = left.run-refusal (sent 1 0 ∷ []) (filled 4 9) ∙ day-row a kept-w;
      run-list = left.run-list (sent 1 0 ∷ []) (filled 4 9) ∙ day-list a kept-w;
      run-answer =
          (left.run-answer (sent 1 0 ∷ []) (filled 4 9)).written.value (omega (arith, day-written a kept-w)) ∙ day-written a kept-w;
      run-output = left.run-output (sent 1 0 ∷ []) (filled 4 9) ∙ day-output a kept-w;
      run-refused =
          left.run-refused (sent 1 0 ∷ []) (filled 3 9)
          (λ h. omega (arith, left.run-refusal (sent 1 0 ∷ []) (filled 3 9) ∙ short_row a kept-w));
      by_value = (clients-by_value record_w table_w here lent_here).each-reply ∙ rw kept-w (ap (laid_all lent_here) replies-here);
      by-value-list = (clients-by_value record_w table_w here lent_here).list ∙ rw kept-w leaves-here;
      initial-list = enforced.0;
      enforced-replies = enforced.1.each-reply ∙ rw (enforced.0, kept-w) (ap (laid_all lent_calls) fields.each-reply);
      enforced-rows = refl;
      enforced-list = enforced.1.list ∙ rw (enforced.0, kept-w) fields.last-clients;
      enforced = enforced.2;
    }

-- the calls with records of the feed, by what the lent bytes say
lent_is : map call_of lent_feed_calls ≡ feed_calls
unfolding call_of expected_of part number_of
lent_is = refl

-- Sign of client 1, where 2 is expected
fed_entry-w : entry_refusal automaton_w table_w 2 (in_turn 1 0) (expected_of (1 ∷ 2 ∷ 0 ∷ [])) ≡ 0
unfolding listing expected_of part number_of
fed_entry-w = rw valid-w refl

fed-row-w : feed_refusal automaton_w table_w two (in_turn 1 0) (expected_of (1 ∷ 2 ∷ 0 ∷ [])) ≡ 0
unfolding listing expected_of part number_of
fed-row-w = rw valid-w refl

-- a kind that there is not, where 1 is
gap_entry-w : entry_refusal automaton_w table_w 2 after_gap (expected_of (1 ∷ 1 ∷ 0 ∷ [])) ≡ 0
unfolding listing expected_of part number_of
gap_entry-w = rw valid-w refl

gap_row-w : feed_refusal automaton_w table_w two after_gap (expected_of (1 ∷ 1 ∷ 0 ∷ [])) ≡ 14
unfolding listing expected_of part number_of
gap_row-w = rw valid-w refl

-- a repeat
late_entry-w : entry_refusal automaton_w table_w 2 repeated (expected_of (9 ∷ 7 ∷ 0 ∷ [])) ≡ 22
unfolding listing expected_of part number_of
late_entry-w = rw valid-w refl

module _ (a : Automaton) (own : a ≡ automaton_w) where
  -- Sign of client 1, where 2 is expected
  fed_entry : entry_refusal a table_w 2 (in_turn 1 0) (expected_of (1 ∷ 2 ∷ 0 ∷ [])) ≡ 0
  fed_entry = rw own fed_entry-w

  fed-row : feed_refusal a table_w two (in_turn 1 0) (expected_of (1 ∷ 2 ∷ 0 ∷ [])) ≡ 0
  fed-row = rw own fed-row-w

  fed-list : fed_clients a table_w two (in_turn 1 0) (expected_of (1 ∷ 2 ∷ 0 ∷ [])) ≡ signed
  unfolding expected_of part number_of
  fed-list = rw own feed-answer_fields.let-in.1

  fed-is : fed_for a table_w two (in_turn 1 0) (expected_of (1 ∷ 2 ∷ 0 ∷ [])) ≡ fed_as (answer_for (0 ∷ []) (1 ∷ [])) 8 5
  unfolding expected_of part number_of
  fed-is = rw own feed-answer_fields.let-in.0

  -- a kind that there is not, where 1 is
  gap_entry : entry_refusal a table_w 2 after_gap (expected_of (1 ∷ 1 ∷ 0 ∷ [])) ≡ 0
  gap_entry = rw own gap_entry-w

  gap_row : feed_refusal a table_w two after_gap (expected_of (1 ∷ 1 ∷ 0 ∷ [])) ≡ 14
  gap_row = rw own gap_row-w

  -- a repeat
  late_entry : entry_refusal a table_w 2 repeated (expected_of (9 ∷ 7 ∷ 0 ∷ [])) ≡ 22
  late_entry = rw own late_entry-w

lent-sign : InTime (in_turn 1 0) (expected_of (1 ∷ 2 ∷ 0 ∷ [])) 7 1 0
unfolding expected_of part number_of
lent-sign = turn_in 1 0 (omega arith) (omega arith)

lent_gap : InTime after_gap (expected_of (1 ∷ 1 ∷ 0 ∷ [])) 6 1 7
unfolding expected_of part number_of
lent_gap = gap_in

lent-serials : map (λ (x : BesideList). x.expected) (laid_all lent_feed_calls feed_replies) ≡ serials_left
unfolding laid_all laid_for expected_lent expected_laid same_expected expected_bytes expected_of part number_of number_bytes
lent-serials = refl

pub feed_layouts : FeedLayouts
unfolding pad following laid_for laid_all
feed_layouts =
    let a = automaton_of record_w in
    let lent : List ℕ = 1 ∷ 7 ∷ 0 ∷ [] in
    let r = offsets_hold.fed long_loss two lent refl refl in
    let sign = feed-left_as_answered record_w table_w two (in_turn 1 0) (1 ∷ 2 ∷ 0 ∷ []) refl in
    let gap = feed-left_as_answered record_w table_w two after_gap (1 ∷ 1 ∷ 0 ∷ []) refl in
    let again = feed-left_as_answered record_w table_w two repeated (9 ∷ 7 ∷ 0 ∷ []) refl in
    let lost = ap (λ f. f.loss) (fed-is a kept-w) in
    let enforced = client-bytes-enforced record_w table_w (rw kept-w valid-w) (rw kept-w solved-w) (any_bytes ∷ any_bytes ∷ any_bytes ∷ []) lent_feed_calls in
    record {
      size = r.size;
      emitted = r.emitted 1 (omega arith);
      count = r.count;
      winning = r.winning.0 refl;
      input-place = (r.places 1 (omega arith)).value (omega arith);
      loss = r.loss.value (omega arith);
      low_first = r.loss.low_first 1 (omega arith);
      place = (offsets_hold.fed at_fourth two lent refl refl).place.value (omega arith);
      unknown = (offsets_hold.expected (0 ∷ 9 ∷ 9 ∷ []) refl).unknown refl;
      known = (offsets_hold.expected (9 ∷ 1 ∷ 2 ∷ []) refl).known (λ z. omega arith);
      any-kept = (expected-kept (9 ∷ 1 ∷ 2 ∷ [])).none;
      serial-kept = (expected-kept (0 ∷ 9 ∷ 9 ∷ [])).serial 65535 (omega arith);
      said-already = (expected-kept (0 ∷ 9 ∷ 9 ∷ [])).already;
      none_anew = (expected-kept (9 ∷ 1 ∷ 2 ∷ [])).zeros (λ z. omega arith);
      handed_on =
          gap.handed_on ∙
          ap (λ y. (fed_for a table_w two after_gap y).expected) ((offsets_hold.expected (1 ∷ 1 ∷ 0 ∷ []) refl).known (λ z. omega arith));
      refusal = sign.refusal ∙ fed-row a kept-w;
      list = sign.list ∙ fed-list a kept-w;
      answer = sign.answer.count ∙ ap (λ f. f.answer.count) (fed-is a kept-w);
      answer-loss = sign.answer.loss.value (omega (arith, lost)) ∙ lost;
      next = sign.next (fed_entry a kept-w) 7 1 0 lent-sign;
      refused = gap.refused (λ z. omega (arith, gap.refusal ∙ gap_row a kept-w));
      refused-next = gap.next (gap_entry a kept-w) 6 1 7 lent_gap;
      kept = again.kept (λ z. omega (arith, late_entry a kept-w));
      enforced-replies = enforced.1.each-reply ∙ rw (enforced.0, kept-w, lent_is) (ap (laid_all lent_feed_calls) feed_call_fields.each-reply);
      enforced-rows = refl;
      enforced-serials = lent-serials;
      enforced-list = enforced.1.list ∙ rw (enforced.0, kept-w, lent_is) feed_call_fields.last-clients;
      enforced = rw lent_is at enforced.2;
    }
