-- The instances of the claim on the published functions.
use Prim.Native.Nat.{ℕ, suc, ◌<◌}
use mathlib.Core.Path.{◌≡◌, refl, sym, ◌∙◌, ap, subst}
use mathlib.Core.Logic.{inl, inr}
use mathlib.Core.List.{List, [], ◌∷◌, ◌++◌}
use native.Mathlib.Omega.{arith}
use lib.ListN.{length}
use Rattle.base.specs.Pad.{pad}
use Rattle.base.proofs.Bools.{either}
use Rattle.monitor_rule.specs.Step.{by_sets}
use Rattle.monitor_rule.specs.Claims.{Full}
use Rattle.monitor_rule.proofs.Rows.{opens-releases}
use Rattle.enforcement.specs.Published.{ShutAt}
use Rattle.enforcement.specs.Store.{Store, store}
use Rattle.enforcement.specs.Calls.{since}
use Rattle.enforcement_cases.specs.Cases.{automaton_w}
use Rattle.enforcement_instances.specs.Statements.{filled}
use Rattle.enforcement_instances.specs.MonitorStatements.{store_of, two_held}
use Rattle.enforcement_instances.proofs.MonitorInstances.{sign_fits, third-shut-out}
use Rattle.clients_answers.specs.Clients.{named, refused_for}
use Rattle.clients_answers.specs.Claims.{RightCount, sum_below}
use Rattle.feed_record.specs.declared.Expected.{Expected}
use Rattle.feed_record.specs.declared.Expected.TheVariants.{Any, Serial}
use Rattle.feed_record.specs.Records.{Admitted}
use Rattle.feed_record.specs.Serials.{distance, following, ahead}
use Rattle.enforcement_clients.specs.ClientCalls.{receive_for, receive, feed}
use Rattle.enforcement_clients.specs.Functions.{Functions, fed_own, put_out, refused_day, expected_in}
use Rattle.enforcement_clients.specs.Published.{ClientsAsPublished, EventAsPublished, EventsAsPublished, DayAsPublished, FeedAsPublished}
use Rattle.enforcement_clients.proofs.Published.{clients_follow_published}
use Rattle.enforcement_clients_instances.proofs.Computing.{storing}
use Rattle.enforcement_clients_instances.proofs.RecordInstances.{turn_in, record_fields}
use Rattle.enforcement_clients_instances.specs.ListStatements.{sent, answer_for}
use Rattle.enforcement_clients_instances.specs.RecordStatements.{repeated, one_more, in_turn}
use Rattle.enforcement_clients_instances.specs.FeedStatements.{kept_as}
use Rattle.enforcement_clients_instances.specs.PublishedStatements.{signed_store, paged_store, family, ending, OpensAt, EventFields, xs, EventsFields, DayFields, FeedFields}

-- what the claim says of W's functions
said : (n : ℕ) (ss : Functions) → ClientsAsPublished automaton_w n ss
said n ss = clients_follow_published automaton_w n ss

-- what a function that put out Sign makes of Page, and of Receipt
page-held : store automaton_w signed_store 2 ≡ paged_store
unfolding storing
page-held = refl

-- and of Receipt behind the Page
abbrev served_store : Store
served_store = store_of (0 ∷ 2 ∷ 3 ∷ []) (0 ∷ 1 ∷ 2 ∷ []) [] [] 3

both_go : store automaton_w paged_store 3 ≡ served_store
unfolding storing
both_go = refl

-- one event
event : (n i e : ℕ) → EventAsPublished automaton_w n family n i e
event n i e = (said n family).event n i e

at-end : (n i e : ℕ) → EventAsPublished automaton_w n ending n i e
at-end n i e = (said n ending).event n i e

receipt-answered : expected_in automaton_w 2 family (receive_for 2 1 3) ≡ receive (answer_for (3 ∷ []) (1 ∷ []))
unfolding storing
receipt-answered =
    (event 2 1 3).answer (omega arith, omega arith) (omega arith) ((omega arith, inr (inl (omega arith))), λ z. omega arith)

-- with two Pages held the function is full for Receipt, which does not open its buffer
receipt-full : Full automaton_w (2 ∷ 2 ∷ []) 3
unfolding automaton_w pad
receipt-full = (omega arith, refl, omega arith)

receipt-opens-nothing : OpensAt two_held 3 → ⊥
unfolding storing
receipt-opens-nothing o = omega (arith, opens-releases (by_sets automaton_w) automaton_w 0 (2 ∷ 2 ∷ []) 3 o)

receipt-shut : ShutAt automaton_w two_held 3
receipt-shut = (receipt-full, receipt-opens-nothing)

pub event_fields : EventFields
unfolding automaton_w pad
event_fields =
    let full = (event 2 0 3).row-15.1 ((omega arith, omega arith), omega arith, receipt-shut) in
    record {
      row-20 = (event 0 0 0).row-20.1 (inl refl);
      row-20-many = (event 501 0 0).row-20.1 (inr (omega arith));
      row-19 = (event 2 2 9).row-19.1 ((omega arith, omega arith), omega arith);
      row-14 = (event 2 0 4).row-14.1 ((omega arith, omega arith), omega arith, omega arith);
      row-15 = full;
      row-23 = (at-end 2 0 0).row-23.1 ((omega arith, omega arith), omega arith, (sign_fits _ _ _, refl));
      accepted-beside = (at-end 2 1 0).accepted.1 ((omega arith, omega arith), omega arith, (sign_fits _ _ _, λ z. omega arith));
      accepted =
          (event 2 1 3).accepted.1 ((omega arith, omega arith), omega arith, ((omega arith, inr (inl (omega arith))), λ z. omega arith));
      last-of-500 =
          (event 500 499 2).accepted.1 ((omega arith, omega arith), omega arith, ((omega arith, inr (inl (omega arith))), λ z. omega arith));
      only-20 = λ n i e h. (event n i e).row-20.0 h;
      only-19 = λ n i e h. ((event n i e).row-19.0 h).1;
      only-14 = λ n i e h. ((event n i e).row-14.0 h).2;
      only-15 = λ n i e h. let k = ((event n i e).row-15.0 h).2 in (k.0.2, k.1);
      only-23 = λ n i e h. ((at-end n i e).row-23.0 h).2.1;
      only-0 = λ n i h. either ((event n i 2).accepted.0 h).2.0.1 (λ k. absurd (k refl)) (λ l. l);
      fed = (event 2 1 2).fed (omega arith, omega arith) (omega arith) ∙ page-held;
      others = (event 2 1 2).others 0 (λ h. omega arith);
      wrong-count = (event 501 1 2).wrong-count 1 (inr (omega arith));
      absent = (event 2 2 2).absent 2 (omega arith);
      answer = receipt-answered;
      answer-refused = (event 2 0 3).refused 15 (λ z. omega arith) full;
    }

-- events one after the other: each is one of the claim's steps, over what the one before left
events : (ss : Functions) → EventsAsPublished automaton_w 2 ss
events ss = (said 2 ss).events

-- client 1's function after its Page
abbrev paged : Functions
paged = fed_own automaton_w 2 family ((1, 2) ∷ [])

paged_one : paged 1 ≡ paged_store
paged_one = (events family).own-fed 1 2 (omega arith) ∙ page-held

-- and after its Receipt
abbrev received : Functions
received = fed_own automaton_w 2 paged ((1, 3) ∷ [])

received-zero : received 0 ≡ two_held
received-zero = (events paged).other-kept 1 3 0 (λ h. omega arith) ∙ (events family).other-kept 1 2 0 (λ h. omega arith)

received-one : received 1 ≡ served_store
received-one = (events paged).own-fed 1 3 (omega arith) ∙ ap (λ s. store automaton_w s 3) paged_one ∙ both_go

-- a third Page, and a kind that there is not, change nothing
full-kept : store automaton_w two_held 2 ≡ two_held
unfolding storing
full-kept = refl

unknown-kept : store automaton_w served_store 4 ≡ served_store
unfolding storing
unknown-kept = refl

-- what a function puts out, by what it was and is
put-own : (ss : Functions) (i e : ℕ) (ys : List (ℕ × ℕ)) (s z : Store) → i < 2 → ss i ≡ s → store automaton_w s e ≡ z
    → put_out automaton_w 2 ss ((i, e) ∷ ys) ≡ since s z ++ put_out automaton_w 2 (fed_own automaton_w 2 ss ((i, e) ∷ [])) ys
put-own ss i e ys s z l h k =
    let rest = put_out automaton_w 2 (fed_own automaton_w 2 ss ((i, e) ∷ [])) ys in
    (events ss).own_put i e ys l ∙ ap (λ u. since u (store automaton_w u e) ++ rest) h ∙ ap (λ u. since s u ++ rest) k

-- the third Page is fed; then the kind that there is not
abbrev filled_up : Functions
filled_up = fed_own automaton_w 2 received ((0, 2) ∷ [])

filled-one : filled_up 1 ≡ served_store
filled-one = (events received).other-kept 0 2 1 (λ h. omega arith) ∙ received-one

put-xs : put_out automaton_w 2 family xs ≡ 2 ∷ 3 ∷ []
unfolding since
put-xs =
    put-own family 1 2 _ _ _ (omega arith) refl page-held ∙
    (events paged).absent-put 5 0 _ (omega arith) ∙
    put-own paged 1 3 _ _ _ (omega arith) paged_one both_go ∙
    ap (λ w. 2 ∷ 3 ∷ w)
    (put-own received 0 2 _ _ _ (omega arith) received-zero full-kept ∙
    put-own filled_up 1 4 _ _ _ (omega arith) filled-one unknown-kept ∙
    (events _).none-put)

count-xs : refused_day automaton_w 2 family xs ≡ 3
unfolding automaton_w pad
count-xs =
    let one : length (paged 1).buffer ≡ 1 = ap (λ s. length s.buffer) paged_one in
    let shut = subst (λ s. ShutAt automaton_w s 2) (sym received-zero) third-shut-out in
    let count : (paged 1).accepted ≡ 2 = ap (λ s. s.accepted) paged_one in
    (events family).not-counted 1 2 _ (omega arith) ((omega arith, inr (inl (omega arith))), λ z. omega arith) ∙
    (events paged).absent-counted 5 0 _ (omega arith) ∙
    ap suc
    ((events paged).not-counted 1 3 _ (omega arith) ((omega arith, inr (inl (omega (arith, one)))), λ z. omega (arith, count)) ∙
    (events received).counted 0 2 _ (omega arith) (inr (inl shut)) ∙
    ap suc ((events received).counted 1 4 _ (omega arith) (inl (omega arith)) ∙ ap suc (events received).none-counted))

-- Page of client 0, Sign of a client 5
abbrev after_full : Functions
after_full = fed_own automaton_w 2 family ((0, 2) ∷ [])

abbrev after_absent : Functions
after_absent = fed_own automaton_w 2 after_full ((5, 0) ∷ [])

absent-kept : (g : ℕ) → after_absent g ≡ after_full g
absent-kept g = (events after_full).absent-kept 5 0 g (omega arith)

-- then Page of client 1, each after the other
one_by_one : (g : ℕ) → fed_own automaton_w 2 family ((0, 2) ∷ (5, 0) ∷ (1, 2) ∷ []) g ≡ fed_own automaton_w 2 after_absent ((1, 2) ∷ []) g
one_by_one g = (events family).first-fed (0, 2) _ g ∙ (events after_full).first-fed (5, 0) _ g

-- of the family whose first has its count at the end: its Sign is counted, and the other's is not
count-end : refused_day automaton_w 2 ending ((0, 0) ∷ (1, 0) ∷ []) ≡ 1
count-end =
    (events ending).counted 0 0 _ (omega arith) (inr (inr (sign_fits _ _ _, refl))) ∙
    ap suc ((events ending).not-counted 1 0 _ (omega arith) (sign_fits _ _ _, λ z. omega arith) ∙ (events _).none-counted)

pub events_fields : EventsFields
events_fields =
    let unchanged = absent-kept 1 ∙ (events family).other-kept 0 2 1 (λ h. omega arith) in
    record {
      none-fed = (events family).none-fed 0;
      fed =
          one_by_one 1 ∙ (events after_absent).own-fed 1 2 (omega arith) ∙ ap (λ s. store automaton_w s 2) unchanged ∙ page-held;
      fed-other =
          one_by_one 0 ∙ (events after_absent).other-kept 1 2 0 (λ h. omega arith) ∙ absent-kept 0 ∙
          (events family).own-fed 0 2 (omega arith) ∙ full-kept;
      put = put-xs;
      counted = count-xs;
      end-counted = count-end;
    }

-- a day
day : (n : ℕ) (vs out : List ℕ) → DayAsPublished automaton_w n family n vs out
day n vs out = (said n family).day n vs out

abbrev both : List ℕ
both = sent 1 2 ∷ sent 1 3 ∷ []

named-both : named both ≡ (1, 2) ∷ (1, 3) ∷ []
unfolding storing
named-both = refl

both-put : put_out automaton_w 2 family ((1, 2) ∷ (1, 3) ∷ []) ≡ 2 ∷ 3 ∷ []
unfolding since
both-put =
    put-own family 1 2 _ _ _ (omega arith) refl page-held ∙ put-own paged 1 3 _ _ _ (omega arith) paged_one both_go ∙
    ap (λ w. 2 ∷ 3 ∷ w) (events _).none-put

both-counted : refused_day automaton_w 2 family ((1, 2) ∷ (1, 3) ∷ []) ≡ 0
unfolding automaton_w pad
both-counted =
    let one : length (paged 1).buffer ≡ 1 = ap (λ s. length s.buffer) paged_one in
    let count : (paged 1).accepted ≡ 2 = ap (λ s. s.accepted) paged_one in
    (events family).not-counted 1 2 _ (omega arith) ((omega arith, inr (inl (omega arith))), λ z. omega arith) ∙
    (events paged).not-counted 1 3 _ (omega arith) ((omega arith, inr (inl (omega (arith, one)))), λ z. omega (arith, count)) ∙
    (events _).none-counted

held_two : sum_below 2 (λ g. length (family g).buffer) ≡ 2
unfolding sum_below
held_two = refl

pub day_fields : DayFields
day_fields =
    let right : RightCount 2 = (omega arith, omega arith) in
    let short = (day 2 both (filled 3 9)).row-16.1 (right, omega (arith, held_two)) in
    let enough = (day 2 both (filled 4 9)).accepted.1 (right, omega (arith, held_two)) in
    let answered = rw (named-both, both-put, both-counted) at ((day 2 both (filled 4 9)).answer enough) in
    record {
      row-20 = (day 0 (sent 1 2 ∷ []) []).row-20.1 (inl refl);
      row-20-many = (day 501 (sent 1 2 ∷ []) []).row-20.1 (inr (omega arith));
      row-16 = short;
      accepted = enough;
      only-20 = λ n vs out h. (day n vs out).row-20.0 h;
      only-16 = λ out h. let l = ((day 2 both out).row-16.0 h).1 in omega (arith, held_two);
      only-0 = λ out h. let l = ((day 2 both out).accepted.0 h).1 in omega (arith, held_two);
      refused-fed = ((day 2 both (filled 3 9)).refused 16 (λ z. omega arith) short).0;
      refused = ((day 2 both (filled 3 9)).refused 16 (λ z. omega arith) short).1;
      fed = (day 2 both (filled 4 9)).fed enough 1 ∙ ap (λ ys. fed_own automaton_w 2 family ys 1) named-both ∙ (events family).first-fed (1, 2) _ 1 ∙ received-one;
      answer = answered;
    }

-- a record of the feed
record_of : (n : ℕ) (s : List ℕ) (x : Expected) → FeedAsPublished automaton_w n family n s x
record_of n s x = (said n family).record-fed n s x

pub feed_fields : FeedFields
unfolding following ahead distance
feed_fields =
    let right : (n : ℕ) → 0 < n → n < 4 → RightCount n = λ n l h. (omega arith, omega arith) in
    let at-10 = record_fields.row_10 in
    let at-22 = record_fields.refused in
    let page = turn_in 1 2 (omega arith) (omega arith) in
    record {
      row-20 = (record_of 0 [] Any).row-20.1 (inl refl);
      row-20-many = (record_of 501 [] Any).row-20.1 (inr (omega arith));
      only-20 = λ n s x h. (record_of n s x).row-20.0 h;
      wrong-count = (record_of 501 one_more (Serial 7)).wrong-count (inr (omega arith));
      one-more =
          (record_of 2 one_more (Serial 7)).not-let-in (right 2 (omega arith) (omega arith)) (λ z. omega (arith, at-10.0)) ∙
          (λ j. feed (kept_as 7 (at-10.0 j) (at-10.1 j)));
      late =
          (record_of 3 repeated (Serial 7)).not-let-in (right 3 (omega arith) (omega arith)) (λ z. omega (arith, record_fields.row-22)) ∙
          ap (λ (m : Admitted). feed (kept_as 7 m.refusal m.place)) at-22;
      wrong-count-fed = (record_of 501 (in_turn 1 2) (Serial 2)).wrong-count-fed 1 (inr (omega arith));
      late-fed = (record_of 3 repeated (Serial 7)).not_let_in-fed 2 (λ z. omega (arith, record_fields.row-22));
      fed = (record_of 2 (in_turn 1 2) (Serial 2)).let-in-fed 1 7 1 2 page ∙ event_fields.fed;
      others = (record_of 2 (in_turn 1 2) (Serial 2)).let-in-fed 0 7 1 2 page ∙ event_fields.others;
      let-in =
          (record_of 2 (in_turn 1 3) (Serial 2)).let-in (right 2 (omega arith) (omega arith)) 7 1 3 (turn_in 1 3 (omega arith) (omega arith))
          (answer_for (3 ∷ []) (1 ∷ [])) event_fields.answer;
      let-in-refused =
          (record_of 2 (in_turn 0 3) (Serial 2)).let-in (right 2 (omega arith) (omega arith)) 7 0 3 (turn_in 0 3 (omega arith) (omega arith))
          (refused_for 15) event_fields.answer-refused;
    }
