-- The functions follow document 02's words.
use Prim.Native.Nat.{ℕ, suc, ◌+◌, ◌<◌, ◌≤◌}
use mathlib.Core.Path.{◌≡◌, refl, sym, ◌∙◌, ap}
use mathlib.Core.Logic.{◌↔◌}
use mathlib.Core.Bool.{true}
use mathlib.Core.List.{List, [], ◌∷◌, ◌++◌, map}
use native.Mathlib.Omega.{arith}
use lib.ListN.{length, drop}
use lib.Dec.{eqb, leb, ltb}
use borrow.Author.Tests.{eqb-true, eqb-false, eq-eqb, ne_eqb, ltb-true, ltb-false, lt-ltb, le-ltb, leb-true, leb-false, le-leb, lt-leb}
use Rattle.base.specs.Pad.{pad}
use Rattle.base.proofs.Bools.{by, either}
use Rattle.automaton.specs.declared.Automaton.{Automaton}
use Rattle.automaton.specs.Automaton.{reached}
use Rattle.solver_sets.specs.Claims.{Winning}
use Rattle.configuration_places.specs.Places.{input_place}
use Rattle.monitor_rule.specs.Step.{by_sets}
use Rattle.monitor_rule.specs.Claims.{Full, RowsOfEvent}
use Rattle.monitor_rule.proofs.Rows.{event-number}
use Rattle.enforcement.specs.Store.{state_of, position_at, refusal_at, store}
use Rattle.enforcement.specs.Calls.{since, sources_since}
use Rattle.enforcement.specs.Published.{AdmittedAt, Refused, OpensBuffer}
use Rattle.enforcement.proofs.Published.{event-rows, follows_published}
use Rattle.enforcement.proofs.Stores.{since-same, sources-same, store-refuses}
use Rattle.clients_answers.specs.declared.ReceivedFor.{ReceivedFor}
use Rattle.clients_answers.specs.Clients.{named}
use Rattle.clients_answers.specs.Claims.{WrongCount, RightCount, sum_below}
use Rattle.feed_record.specs.declared.Expected.{Expected}
use Rattle.feed_record.specs.declared.Expected.TheVariants.{Serial}
use Rattle.feed_record.specs.Records.{Admitted as LetIn}
use Rattle.feed_record.specs.Serials.{following, ahead}
use Rattle.feed_record.specs.Records.{let_in, admission}
use Rattle.feed_record.specs.Claims.{InTime}
use Rattle.feed_record.proofs.Worded.{records_as_worded, not-between}
use Rattle.feed_answers.specs.Feed.{delivered_fed}
use Rattle.feed_answers.proofs.Worded.{events_in_as_worded}
use Rattle.enforcement_clients.specs.ClientCalls.{ClientCall, receive_for, run_for, feed_for, events_by, ClientReply, receive, run, feed, refusal_in}
use Rattle.enforcement_clients.specs.Functions.{Functions, fed_own, bad_count, no_room, refusal_of, fed_in, put_out, refused_day}
use Rattle.enforcement_clients.specs.Functions.{event_refusal_of, answer_in, expected_in}
use Rattle.enforcement_clients.specs.Published.{silent, EventAsPublished, EventsAsPublished, DayAsPublished, FeedAsPublished, ClientsFollowPublished}
use Rattle.enforcement_clients.proofs.Fed.{count-wrong, count-right, wrong_bad, right_good}
use Rattle.enforcement_clients.proofs.Fed.{fed-none, fed_itself, fed-other, fed-absent, fed-first}
use Rattle.enforcement_clients.proofs.Fed.{day-counts, day-absent, day-none, fed-passes, fed-refuses}

-- one event
module _ (a : Automaton) (n : ℕ) (ss : Functions) (k i e : ℕ) where
  abbrev answer : ClientReply
  answer = expected_in a n ss (receive_for k i e)

  abbrev own : ℕ
  own = refusal_at a (ss i) e

  abbrev after : Functions
  after = fed_in a n ss (receive_for k i e)

  -- too many or none are lent, or the client is not there, or it is
  cases : {R : Type 0} → (WrongCount n → R) → (RightCount n × (n ≤ i) → R) → (RightCount n × (i < n) → R) → R
  cases wrong absent there =
      by (bad_count n)
      (λ b. wrong (count-wrong n b))
      (λ b.
      let r = count-right n b in
      by (leb n i) (λ m. absent (r, leb-true n i m)) (λ m. there (r, leb-false n i m)))

  -- its number, where that holds
  wrong_20 : WrongCount n → event_refusal_of a n ss i e ≡ 20
  unfolding event_refusal_of
  wrong_20 w = rw (wrong_bad n w)

  absent_19 : RightCount n × (n ≤ i) → event_refusal_of a n ss i e ≡ 19
  unfolding event_refusal_of
  absent_19 (r, l) = rw (right_good n r, le-leb n i l)

  pub there-own : RightCount n × (i < n) → event_refusal_of a n ss i e ≡ own
  unfolding event_refusal_of
  there-own (r, l) = rw (right_good n r, lt-leb n i l)

  -- the event's own number is neither of them
  own-other : (m : ℕ) → 15 < m → m < 23 → own ≡ m → ⊥
  own-other m above below h =
      either (event-number (by_sets a) a (position_at a (ss i)) e) (λ x. omega arith)
      (λ f. either f (λ x. omega arith) (λ g. either g (λ x. omega arith) (λ x. omega arith)))

  -- any other number is the event's own
  of_own : {X : Type 0} (m : ℕ) → (m ≡ 20 → ⊥) → (m ≡ 19 → ⊥) → (own ≡ m) ↔ X
      → (event_refusal_of a n ss i e ≡ m) ↔ (RightCount n × (i < n) × X)
  of_own m no-20 no-19 f = (
    λ h.
        cases
        (λ w. absurd (no-20 (sym h ∙ wrong_20 w)))
        (λ s. absurd (no-19 (sym h ∙ absent_19 s)))
        (λ p. (p.0, p.1, f.0 (sym (there-own p) ∙ h))),
    λ (r, b, x). there-own (r, b) ∙ f.1 x,
  )

  rows : RowsOfEvent (Winning a) a (reached a a.initial (ss i).output) (ss i).buffer (ss i).accepted e own
  rows = event-rows a (ss i) e

  given_20 : event_refusal_of a n ss i e ≡ 20 → WrongCount n
  given_20 h =
      cases (λ w. w) (λ s. absurd (omega (arith, absent_19 s)))
      (λ p. absurd (own-other 20 (omega arith) (omega arith) (sym (there-own p) ∙ h)))

  given_19 : event_refusal_of a n ss i e ≡ 19 → RightCount n × (n ≤ i)
  given_19 h =
      cases (λ w. absurd (omega (arith, wrong_20 w))) (λ s. s)
      (λ p. absurd (own-other 19 (omega arith) (omega arith) (sym (there-own p) ∙ h)))

  -- what is fed
  fed : RightCount n → i < n → after i ≡ store a (ss i) e
  unfolding fed_in refusal_of events_by
  fed r l = rw (right_good n r) (fed_itself a n ss i e l)

  others : (g : ℕ) → (g ≡ i → ⊥) → after g ≡ ss g
  unfolding fed_in refusal_of events_by
  others g m = by (bad_count n) (λ b. rw b) (λ b. rw b (fed-other a n ss i e g m))

  wrong-count : (g : ℕ) → WrongCount n → after g ≡ ss g
  unfolding fed_in refusal_of
  wrong-count g w = rw (wrong_bad n w)

  absent : (g : ℕ) → n ≤ i → after g ≡ ss g
  unfolding fed_in refusal_of events_by
  absent g l = by (bad_count n) (λ b. rw b) (λ b. rw b (fed-absent a n ss i e g l))

  -- a refused one leaves its client's function as it was
  refused-kept : (event_refusal_of a n ss i e ≡ 0 → ⊥) → after i ≡ ss i
  refused-kept z =
      cases (wrong-count i) (λ (r, l). absent i l) (λ (r, l). fed r l ∙ store-refuses a (ss i) e (λ h. z (there-own (r, l) ∙ h)))

  -- however many it asks for
  as_lent : fed_in a n ss (receive_for n i e) i ≡ after i
  unfolding fed_in refusal_of events_by
  as_lent = refl

  answered : RightCount n → i < n → AdmittedAt a (ss i) e
      → let z = store a (ss i) e in
      answer
      ≡ receive (record {
        refusal = 0;
        emitted = pad 7 (since (ss i) z);
        count = length (since (ss i) z);
        winning = by_sets a z.buffer (state_of a z);
        places = map input_place (pad 7 (sources_since (ss i) z));
      })
  unfolding expected_in answer_in
  answered r l h = rw (there-own (r, l), rows.accepted.1 h, as_lent, fed r l)

  opens : RightCount n → i < n → Full a (ss i).buffer e → AdmittedAt a (ss i) e
      → OpensBuffer a (ss i) e (after i) × (by_sets a (after i).buffer (state_of a (after i)) ≡ true)
  unfolding by_sets state_of
  opens r l full h = let o = (follows_published a (ss i)).opens e full h in rw (fed r l) (o, o.opened.rests)

  refused : (m : ℕ) → (m ≡ 0 → ⊥) → event_refusal_of a n ss i e ≡ m
      → answer ≡ receive (silent m)
  unfolding expected_in answer_in pad
  refused m z h = rw (as_lent, refused-kept (λ q. z (sym h ∙ q)), h, since-same (ss i), sources-same (ss i), ne_eqb m 0 z)

  pub event_as_published : EventAsPublished a n ss k i e
  unfolding refusal_in expected_in answer_in
  event_as_published =
      record {
        row-20 = (given_20, wrong_20);
        row-19 = (given_19, absent_19);
        row-14 = of_own 14 (λ z. omega arith) (λ z. omega arith) rows.row-14;
        row-15 = of_own 15 (λ z. omega arith) (λ z. omega arith) rows.row-15;
        row-23 = of_own 23 (λ z. omega arith) (λ z. omega arith) rows.row-23;
        accepted = of_own 0 (λ z. omega arith) (λ z. omega arith) rows.accepted;
        fed = fed;
        others = others;
        wrong-count = wrong-count;
        absent = absent;
        answer = answered;
        opens = opens;
        refused = refused;
      }

-- events one after the other
module _ (a : Automaton) (n : ℕ) (ss : Functions) where
  module _ (i e : ℕ) (xs : List (ℕ × ℕ)) where
    abbrev next : Functions
    next = fed_own a n ss ((i, e) ∷ [])

    own_put : i < n → put_out a n ss ((i, e) ∷ xs) ≡ since (ss i) (store a (ss i) e) ++ put_out a n next xs
    unfolding put_out
    own_put l = ap (λ z. since (ss i) z ++ put_out a n next xs) (fed_itself a n ss i e l)

    -- the functions, where none of them is fed
    kept : ((g : ℕ) → next g ≡ ss g) → next ≡ ss
    kept h = λ j g. h g j

    absent-put : n ≤ i → put_out a n ss ((i, e) ∷ xs) ≡ put_out a n ss xs
    unfolding put_out
    absent-put l =
        let same = kept (λ g. fed-absent a n ss i e g l) in
        ap (λ (z : Functions). since (ss i) (z i) ++ put_out a n z xs) same ∙ ap (λ out. out ++ put_out a n ss xs) (since-same (ss i))

    -- an event that its client's function refuses
    not_taken : Refused a (ss i) e → refusal_at a (ss i) e ≡ 0 → ⊥
    not_taken f z =
        let r = event-rows a (ss i) e in
        either f (λ u. omega (arith, r.row-14.1 u))
        (λ g. either g (λ b. omega (arith, r.row-15.1 b)) (λ b. omega (arith, r.row-23.1 b)))

    passed_over : i < n → (refusal_at a (ss i) e ≡ 0 → ⊥) → (g : ℕ) → next g ≡ ss g
    passed_over l z g =
        by (eqb g i)
        (λ q. rw (eqb-true g i q) (fed_itself a n ss i e l ∙ store-refuses a (ss i) e z))
        (λ q. fed-other a n ss i e g (eqb-false g i q))

    counted : i < n → Refused a (ss i) e → refused_day a n ss ((i, e) ∷ xs) ≡ suc (refused_day a n ss xs)
    counted l f =
        let z = not_taken f in
        let same = ap (λ (r : Functions). refused_day a n r xs) (kept (passed_over l z)) in
        day-counts a n ss i e xs l ∙ rw (ne_eqb (refusal_at a (ss i) e) 0 z) (omega (arith, same))

    not-counted : i < n → AdmittedAt a (ss i) e → refused_day a n ss ((i, e) ∷ xs) ≡ refused_day a n next xs
    not-counted l f =
        let z = (event-rows a (ss i) e).accepted.1 f in
        day-counts a n ss i e xs l ∙ rw z (omega arith)

    absent-counted : n ≤ i → refused_day a n ss ((i, e) ∷ xs) ≡ suc (refused_day a n ss xs)
    absent-counted l =
        let same = ap (λ (r : Functions). refused_day a n r xs) (kept (λ g. fed-absent a n ss i e g l)) in
        omega (arith, day-absent a n ss i e xs l, same)

  events_as_published : EventsAsPublished a n ss
  unfolding put_out
  events_as_published =
      record {
        none-fed = fed-none a n ss;
        first-fed = fed-first a n ss;
        own-fed = fed_itself a n ss;
        other-kept = fed-other a n ss;
        absent-kept = fed-absent a n ss;
        none-put = refl;
        own_put = own_put;
        absent-put = absent-put;
        none-counted = day-none a n ss;
        counted = counted;
        not-counted = not-counted;
        absent-counted = absent-counted;
      }

-- a day
module _ (a : Automaton) (n : ℕ) (ss : Functions) (k : ℕ) (vs out : List ℕ) where
  abbrev day : ClientCall
  day = run_for k vs out

  abbrev row : ℕ
  row = refusal_of n ss day

  -- the room that it wants
  abbrev need : ℕ
  need = length vs + sum_below n (λ g. length (ss g).buffer)

  abbrev Lacks : Type 0
  Lacks = RightCount n × (length out < need)

  abbrev Enough : Type 0
  Enough = RightCount n × (need ≤ length out)

  day-cases : {R : Type 0} → (WrongCount n → R) → (Lacks → R) → (Enough → R) → R
  day-cases wrong lacks enough =
      by (bad_count n)
      (λ b. wrong (count-wrong n b))
      (λ b.
      let r = count-right n b in
      by (ltb (length out) need)
      (λ m. lacks (r, ltb-true (length out) need m))
      (λ m. enough (r, ltb-false (length out) need m)))

  day-wrong : WrongCount n → row ≡ 20
  unfolding refusal_of
  day-wrong w = rw (wrong_bad n w)

  day-lacks : Lacks → row ≡ 16
  unfolding refusal_of no_room
  day-lacks (r, l) = rw (right_good n r, lt-ltb (length out) need l)

  day-enough : Enough → row ≡ 0
  unfolding refusal_of no_room
  day-enough (r, l) = rw (right_good n r, le-ltb (length out) need l)

  day_20 : row ≡ 20 → WrongCount n
  day_20 h = day-cases (λ w. w) (λ l. absurd (omega (arith, day-lacks l))) (λ l. absurd (omega (arith, day-enough l)))

  day_16 : row ≡ 16 → Lacks
  day_16 h = day-cases (λ w. absurd (omega (arith, day-wrong w))) (λ l. l) (λ l. absurd (omega (arith, day-enough l)))

  day_0 : row ≡ 0 → Enough
  day_0 h = day-cases (λ w. absurd (omega (arith, day-wrong w))) (λ l. absurd (omega (arith, day-lacks l))) (λ l. l)

  day-refused : (m : ℕ) → (m ≡ 0 → ⊥) → row ≡ m
      → ((g : ℕ) → fed_in a n ss day g ≡ ss g) × (expected_in a n ss day ≡ run (record { refusal = m; length = 0; refused = 0 }) out)
  unfolding expected_in
  day-refused m z h = (λ g. fed-refuses a n ss day g (rw h (ne_eqb m 0 z)), rw (h, ne_eqb m 0 z))

  day-fed : row ≡ 0 → (g : ℕ) → fed_in a n ss day g ≡ fed_own a n ss (named vs) g
  unfolding events_by
  day-fed h g = fed-passes a n ss day g (eq-eqb row 0 h)

  day-answer : row ≡ 0
      → let new = put_out a n ss (named vs) in
      expected_in a n ss day
      ≡ run (record { refusal = 0; length = length new; refused = refused_day a n ss (named vs) }) (new ++ drop (length new) out)
  unfolding expected_in
  day-answer h = rw h

  day_as_published : DayAsPublished a n ss k vs out
  unfolding refusal_in expected_in
  day_as_published =
      record {
        row-20 = (day_20, day-wrong);
        row-16 = (day_16, day-lacks);
        accepted = (day_0, day-enough);
        refused = day-refused;
        fed = day-fed;
        answer = day-answer;
      }

-- the answer in a reply to an event; in any other, d
unfoldable pub event_answer : ReceivedFor → ClientReply → ReceivedFor
event_answer d (receive r) = r
event_answer d (run r out) = d
event_answer d (feed r) = d

-- one record of the feed
module _ (a : Automaton) (n : ℕ) (ss : Functions) (k : ℕ) (s : List ℕ) (x : Expected) where
  abbrev fed_call : ClientCall
  fed_call = feed_for k s x

  abbrev m : LetIn
  m = admission s x

  -- not let in, by row 20 or by one of its own
  abbrev turned : ℕ → ℕ → ClientReply
  turned row place = feed (record { answer = silent row; place = place; expected = x; loss = 0 })

  feed-wrong : WrongCount n → expected_in a n ss fed_call ≡ turned 20 0
  unfolding expected_in refusal_of
  feed-wrong w = rw (wrong_bad n w)

  feed-refused : RightCount n → (m.refusal ≡ 0 → ⊥) → expected_in a n ss fed_call ≡ turned m.refusal m.place
  unfolding expected_in refusal_of
  feed-refused r z = rw (right_good n r, ne_eqb m.refusal 0 z)

  pub feed-let_in : RightCount n → m.refusal ≡ 0
      → expected_in a n ss fed_call ≡ feed (delivered_fed m (answer_in a n ss m.client m.symbol))
  unfolding expected_in refusal_of
  feed-let_in r z = rw (right_good n r, z)

  feed_20 : refusal_in (expected_in a n ss fed_call) ≡ 20 → WrongCount n
  unfolding refusal_in answer_in
  feed_20 h =
      by (bad_count n)
      (λ b. count-wrong n b)
      (λ b.
      let r = count-right n b in
      by (eqb m.refusal 0)
      (λ q. given_20 a n ss k m.client m.symbol (sym (ap refusal_in (feed-let_in r (eqb-true m.refusal 0 q))) ∙ h))
      (λ q. absurd (not-between s x 20 (omega arith) (omega arith) (sym (ap refusal_in (feed-refused r (eqb-false m.refusal 0 q))) ∙ h))))

  -- what is fed
  wrong-count-fed : (g : ℕ) → WrongCount n → fed_in a n ss fed_call g ≡ ss g
  unfolding fed_in refusal_of
  wrong-count-fed g w = rw (wrong_bad n w)

  not_let_in-fed : (g : ℕ) → (m.refusal ≡ 0 → ⊥) → fed_in a n ss fed_call g ≡ ss g
  unfolding fed_in refusal_of
  not_let_in-fed g z = by (bad_count n) (λ b. rw b) (λ b. rw (b, ne_eqb m.refusal 0 z))

  module _ (serial client symbol : ℕ) (i : InTime s x serial client symbol) where
    is : m ≡ let_in x serial client symbol
    is = (records_as_worded s x).answer serial client symbol i

    let-in-fed : (g : ℕ) → fed_in a n ss fed_call g ≡ fed_in a n ss (receive_for k client symbol) g
    unfolding fed_in refusal_of events_by
    let-in-fed g = rw (is, (events_in_as_worded s x).own serial client symbol i)

    let-in : RightCount n → (r : ReceivedFor) → expected_in a n ss (receive_for k client symbol) ≡ receive r
        → expected_in a n ss fed_call ≡ feed (record { answer = r; place = 0; expected = Serial (following serial); loss = ahead x serial })
    unfolding expected_in event_answer
    let-in c r e =
        feed-let_in c (ap (λ q. q.refusal) is) ∙
        ap (λ (q : LetIn). feed (delivered_fed q (answer_in a n ss q.client q.symbol))) is ∙
        ap (λ (q : ReceivedFor). feed (delivered_fed (let_in x serial client symbol) q)) (ap (event_answer r) e)

  pub feed_as_published : FeedAsPublished a n ss k s x
  unfolding refusal_in
  feed_as_published =
      record {
        row-20 = (feed_20, λ w. ap refusal_in (feed-wrong w));
        wrong-count = feed-wrong;
        not-let-in = feed-refused;
        wrong-count-fed = wrong-count-fed;
        not_let_in-fed = not_let_in-fed;
        let-in-fed = λ g serial client symbol i. let-in-fed serial client symbol i g;
        let-in = λ c serial client symbol i. let-in serial client symbol i c;
      }

pub clients_follow_published : ClientsFollowPublished
clients_follow_published a n ss =
    record {
      event = event_as_published a n ss;
      events = events_as_published a n ss;
      day = day_as_published a n ss;
      record-fed = feed_as_published a n ss;
    }
