-- The call in document 02's words.
use Prim.Native.Nat.{ℕ, ◌<◌}
use mathlib.Core.Path.{◌≡◌, sym, ◌∙◌, ap, subst}
use mathlib.Core.Logic.Iff
use mathlib.Core.Logic.{◌⊎◌, inl, inr, ◌↔◌}
use mathlib.Core.Bool.{Bool}
use mathlib.Core.List.{List, [], ◌∷◌, ◌++◌}
use native.Mathlib.Omega.{arith}
use lib.ListN.{length, get_or}
use lib.Dec.{eqb}
use borrow.Author.Tests.{eqb-true, eqb-false, ne_eqb}
use Rattle.base.specs.Rows.{first}
use Rattle.base.proofs.Bools.{by, either}
use Rattle.base.proofs.Padding.{zeros-used}
use Rattle.automaton.specs.declared.Automaton.{Automaton}
use Rattle.configuration.specs.declared.Configuration.{Configuration}
use Rattle.clients_answers.specs.Clients.{none, list_rows, list_refusal, client_rows, receive_for_refusal, refused_for, received_for, received_clients}
use Rattle.clients_answers.specs.Claims.{ListClear, ClientRows}
use Rattle.clients_answers.proofs.Refusals.{Later, Inner, inner_later, list-later, list-rows, list-passes, list_clear, clear_list, list-stands}
use Rattle.clients_answers.proofs.Worded.{client_inner, client-rows, client-rows_as_worded}
use Rattle.clients_answers.proofs.Kept.{others-kept}
use Rattle.clients_answers.proofs.Parting.{event_noninterference}
use Rattle.clients_answers.proofs.Single.{clients-emitted-padded}
use Rattle.feed_record.specs.declared.Expected.{Expected}
use Rattle.feed_record.specs.Records.{Admitted, record_rows, admission}
use Rattle.feed_record.proofs.Laws.{rows_stand, rows_pass}
use Rattle.feed_record.proofs.Worded.{records_as_worded}
use Rattle.feed_answers.specs.Feed.{feed_refusal, fed_for, event_in, fed_clients}
use Rattle.feed_answers.specs.Claims.{RecordRow, FeedRowsAsWorded, FeedAnsweredAsWorded, EventsInAsWorded}
use Rattle.feed_answers.specs.Claims.{FeedNoninterference, FeedKeepsOthers, FeedEmittedPadded}
use Rattle.feed_answers.proofs.Entering.{fed-list, fed_record, fed-in}

-- a record's rows lie below those of the list and the event, or above the list's and below the
-- event's last
abbrev Apart : ℕ → Type 0
Apart n = ((0 < n) × (n < 11)) ⊎ ((20 < n) × (n < 23))

apart : (n : ℕ) → RecordRow n → Apart n
apart n r =
    either r (λ l. either l (λ e. inl (omega arith, omega arith)) (λ e. inl (omega arith, omega arith)))
    (λ r2. either r2 (λ e. inl (omega arith, omega arith)) (λ r3. either r3 (λ e. inr (omega arith, omega arith)) (λ e. inr (omega arith, omega arith))))

record_later : (n : ℕ) → RecordRow n → Later n
record_later n r =
    either (apart n r)
    (λ (some, low). (λ h. omega arith, λ h. omega arith, λ h. omega arith))
    (λ (high, below). (λ h. omega arith, λ h. omega arith, λ h. omega arith))

record_not_inner : (n : ℕ) → RecordRow n → Inner n → ⊥
record_not_inner n r i =
    either (apart n r)
    (λ (some, low). either i (λ z. omega arith) (λ k. either k (λ (l, h). omega arith) (λ h. omega arith)))
    (λ (high, below). either i (λ z. omega arith) (λ k. either k (λ (l, h). omega arith) (λ h. omega arith)))

module _ (a : Automaton) (t : List ℕ) (cs : List Configuration) (s : List ℕ) (expected : Expected) where
  abbrev m : Admitted
  m = admission s expected

  abbrev count : ℕ
  count = length cs

  abbrev Let : Type 0
  Let = ListClear a t count × (m.refusal ≡ 0)

  -- the rows of the event
  abbrev events : List (ℕ × Bool)
  events = client_rows a t cs m.client m.symbol

  abbrev rows : List (ℕ × Bool)
  rows = record_rows s expected ++ events

  -- the record's own number, or an inner one
  abbrev Own : Type 0
  Own = (m.refusal ≡ 0) ⊎ RecordRow m.refusal

  own-number : Own
  own-number = (records_as_worded s expected).known

  rows-later : Later (first rows)
  rows-later =
      either own-number
      (λ z. subst Later (sym (rows_pass s expected events z)) (inner_later _ (client_inner a t cs m.client m.symbol)))
      (λ r. subst Later (sym (rows_stand s expected events (λ z. record_not_inner _ r (inl z)))) (record_later _ r))

  own_row : (n : ℕ) → RecordRow n → (first rows ≡ n) ↔ (m.refusal ≡ n)
  own_row n r = (
    λ h. either own-number
        (λ z. absurd (record_not_inner n r (subst Inner (sym (rows_pass s expected events z) ∙ h) (client_inner a t cs m.client m.symbol))))
        (λ k. sym (rows_stand s expected events (λ z. record_not_inner _ k (inl z))) ∙ h),
    λ h. rows_stand s expected events (λ z. record_not_inner n r (inl (sym h ∙ z))) ∙ h,
  )

  -- an inner number is the event's, where the record is let in
  inner_row : {Z : Type 0} (k : ℕ) → Inner k → (m.refusal ≡ 0 → (first events ≡ k) ↔ Z) → (first rows ≡ k) ↔ ((m.refusal ≡ 0) × Z)
  inner_row k i f = (
    λ h. either own-number
        (λ z. (z, (f z).0 (sym (rows_pass s expected events z) ∙ h)))
        (λ r. absurd (record_not_inner _ r (subst Inner (sym h ∙ rows_stand s expected events (λ z. record_not_inner _ r (inl z))) i))),
    λ (z, x). rows_pass s expected events z ∙ (f z).1 x,
  )

  event-rows : ClientRows Let a t cs m.client m.symbol (feed_refusal a t cs s expected)
  unfolding feed_refusal
  event-rows =
      client-rows a t cs m.client m.symbol (first (list_rows a t count ++ rows))
      (λ Z k i f.
      Iff.trans (list-later a t count rows k (inner_later k i) (λ clear. inner_row k i (λ z. f (clear, z))))
      (λ (c, (z, x)). ((c, z), x), λ ((c, z), x). (c, (z, x))))

  -- the answer's row
  abbrev n : ℕ
  n = list_refusal a t count

  is-list : (n ≡ 0 → ⊥) → feed_refusal a t cs s expected ≡ n
  unfolding feed_refusal
  is-list z = list-stands a t count rows z

  is_record : n ≡ 0 → (m.refusal ≡ 0 → ⊥) → feed_refusal a t cs s expected ≡ m.refusal
  unfolding feed_refusal
  is_record z k = list-passes a t count rows (list_clear a t count z) ∙ rows_stand s expected events k

  is-event : n ≡ 0 → m.refusal ≡ 0 → feed_refusal a t cs s expected ≡ receive_for_refusal a t cs m.client m.symbol
  unfolding feed_refusal receive_for_refusal
  is-event z k =
      let clear = list_clear a t count z in
      list-passes a t count rows clear ∙ rows_pass s expected events k ∙ sym (list-passes a t count events clear)

  cases : {R : Type 0} → ((n ≡ 0 → ⊥) → R) → (n ≡ 0 → (m.refusal ≡ 0 → ⊥) → R) → (n ≡ 0 → m.refusal ≡ 0 → R) → R
  cases list own let-in =
      by (eqb n 0)
      (λ h. by (eqb m.refusal 0)
      (λ k. let-in (eqb-true n 0 h) (eqb-true m.refusal 0 k))
      (λ k. own (eqb-true n 0 h) (eqb-false m.refusal 0 k)))
      (λ h. list (eqb-false n 0 h))

  answered : (fed_for a t cs s expected).answer.refusal ≡ feed_refusal a t cs s expected
  answered =
      cases
      (λ z. sym (ap (λ r. r.answer.refusal) (fed-list a t cs s expected z).0) ∙ sym (is-list z))
      (λ z k. sym (ap (λ r. r.answer.refusal) (fed_record a t cs s expected z k).0) ∙ sym (is_record z k))
      (λ z k.
      sym (ap (λ r. r.answer.refusal) (fed-in a t cs s expected z k).0) ∙
      (client-rows_as_worded a t cs).answered m.client m.symbol ∙
      sym (is-event z k))

  -- a refused call
  refused : (feed_refusal a t cs s expected ≡ 0 → ⊥)
      → (fed_clients a t cs s expected ≡ cs) × ((fed_for a t cs s expected).answer ≡ refused_for (feed_refusal a t cs s expected))
  refused z =
      cases
      (λ y. let e = fed-list a t cs s expected y in (sym e.1, sym (ap (λ f. f.answer) e.0) ∙ ap refused_for (sym (is-list y))))
      (λ y k. let e = fed_record a t cs s expected y k in (sym e.1, sym (ap (λ f. f.answer) e.0) ∙ ap refused_for (sym (is_record y k))))
      (λ y k.
      let e = fed-in a t cs s expected y k in
      let kept = others-kept a t cs in
      let some : receive_for_refusal a t cs m.client m.symbol ≡ 0 → ⊥ = λ h. z (is-event y k ∙ h) in (
        sym e.1 ∙ kept.refused-event m.client m.symbol some,
        sym (ap (λ f. f.answer) e.0) ∙ kept.refused-answer m.client m.symbol some ∙ ap refused_for (sym (is-event y k)),
      ))

  others : (g : ℕ) → (g ≡ m.client → ⊥) → get_or (fed_clients a t cs s expected) g none ≡ get_or cs g none
  others g d =
      let at : List Configuration → Configuration = λ ds. get_or ds g none in
      cases
      (λ y. ap at (sym (fed-list a t cs s expected y).1))
      (λ y k. ap at (sym (fed_record a t cs s expected y k).1))
      (λ y k. ap at (sym (fed-in a t cs s expected y k).1) ∙ (others-kept a t cs).others m.client m.symbol g d)

  as_long : length (fed_clients a t cs s expected) ≡ count
  as_long =
      cases
      (λ y. ap length (sym (fed-list a t cs s expected y).1))
      (λ y k. ap length (sym (fed_record a t cs s expected y k).1))
      (λ y k. ap length (sym (fed-in a t cs s expected y k).1) ∙ (others-kept a t cs).count-event m.client m.symbol)

pub feed-rows_as_worded : FeedRowsAsWorded
unfolding feed_refusal
feed-rows_as_worded a t cs s expected =
    record {
      list = list-rows a t (length cs) (rows a t cs s expected) (rows-later a t cs s expected);
      own = λ n r. list-later a t (length cs) (rows a t cs s expected) n (record_later n r) (λ _. own_row a t cs s expected n r);
      event = event-rows a t cs s expected;
      answered = answered a t cs s expected;
    }

pub feed-answered_as_worded : FeedAnsweredAsWorded
feed-answered_as_worded a t cs s expected =
    record {
      by-list = λ z. let e = fed-list a t cs s expected z in (sym e.0, sym e.1);
      by-record = λ c z. let e = fed_record a t cs s expected (clear_list a t (length cs) c) z in (sym e.0, sym e.1);
      let-in = λ c serial client symbol i.
          let is = (records_as_worded s expected).answer serial client symbol i in
          let e = fed-in a t cs s expected (clear_list a t (length cs) c) (ap (λ x. x.refusal) is) in (
            sym e.0 ∙
                ap (λ (x : Admitted). record { answer = received_for a t cs x.client x.symbol; place = 0; expected = x.expected; loss = x.loss }) is,
            sym e.1 ∙ ap (λ (x : Admitted). received_clients a t cs x.client x.symbol) is,
          );
      refused = refused a t cs s expected;
      others = others a t cs s expected;
      count = as_long a t cs s expected;
    }

-- the event of a record
module _ (s : List ℕ) (expected : Expected) where
  event-is : (admission s expected).refusal ≡ 0 → event_in s expected ≡ ((admission s expected).client, (admission s expected).symbol) ∷ []
  unfolding event_in
  event-is z = rw z

  no_event : ((admission s expected).refusal ≡ 0 → ⊥) → event_in s expected ≡ []
  unfolding event_in
  no_event z = rw (ne_eqb (admission s expected).refusal 0 z)

pub events_in_as_worded : EventsInAsWorded
events_in_as_worded s expected =
    record {
      own = λ serial client symbol i.
          let is = (records_as_worded s expected).answer serial client symbol i in
          event-is s expected (ap (λ x. x.refusal) is) ∙ ap (λ (x : Admitted). (x.client, x.symbol) ∷ []) is;
      no_event = no_event s expected;
    }

-- a record that brings an event is let in, with that event
module _ (s : List ℕ) (x : Expected) (g e : ℕ) (h : event_in s x ≡ (g, e) ∷ []) where
  abbrev first_of : List (ℕ × ℕ) → ℕ × ℕ
  first_of xs = get_or xs 0 (0, 0)

  brings : (admission s x).refusal ≡ 0
  brings =
      by (eqb (admission s x).refusal 0)
      (λ k. eqb-true (admission s x).refusal 0 k)
      (λ k.
      let z : 0 ≡ 1 = ap length (sym (no_event s x (eqb-false (admission s x).refusal 0 k)) ∙ h) in
      absurd (omega arith))

  brought : ((admission s x).client ≡ g) × ((admission s x).symbol ≡ e)
  brought =
      let same = ap first_of (sym (event-is s x brings) ∙ h) in
      (ap (λ (v : ℕ × ℕ). v.0) same, ap (λ (v : ℕ × ℕ). v.1) same)

  module _ (a : Automaton) (t : List ℕ) (cs : List Configuration) (z : list_refusal a t (length cs) ≡ 0) where
    fed-answer : (fed_for a t cs s x).answer ≡ received_for a t cs g e
    fed-answer =
        sym (ap (λ f. f.answer) (fed-in a t cs s x z brings).0) ∙ (λ i. received_for a t cs (brought.0 i) (brought.1 i))

    fed-next : get_or (fed_clients a t cs s x) g none ≡ get_or (received_clients a t cs g e) g none
    fed-next =
        sym (ap (λ (ds : List Configuration). get_or ds g none) (fed-in a t cs s x z brings).1) ∙
        (λ i. get_or (received_clients a t cs (brought.0 i) (brought.1 i)) g none)

pub feed_noninterference : FeedNoninterference
feed_noninterference a t cs ds s u x y g h e long gl hl same es eu =
    let n = list_refusal a t (length cs) in
    let both : n ≡ list_refusal a t (length ds) = ap (list_refusal a t) long in
    by (eqb n 0)
    (λ k.
    let z = eqb-true n 0 k in
    let z' = sym both ∙ z in
    let p = event_noninterference a t cs ds g h e long gl hl same in (
      fed-answer s x g e es a t cs z ∙ p.0 ∙ sym (fed-answer u y h e eu a t ds z'),
      fed-next s x g e es a t cs z ∙ p.1 ∙ sym (fed-next u y h e eu a t ds z'),
    ))
    (λ k.
    let z = eqb-false n 0 k in
    let z' : list_refusal a t (length ds) ≡ 0 → ⊥ = λ q. z (both ∙ q) in
    let p = fed-list a t cs s x z in
    let q = fed-list a t ds u y z' in (
      sym (ap (λ f. f.answer) p.0) ∙ ap refused_for both ∙ ap (λ f. f.answer) q.0,
      sym (ap (λ (l : List Configuration). get_or l g none) p.1) ∙ same ∙ ap (λ (l : List Configuration). get_or l h none) q.1,
    ))

pub feed_keeps_others : FeedKeepsOthers
feed_keeps_others a t cs s x g none-own =
    let m = admission s x in
    cases a t cs s x
    (λ y. ap (λ (l : List Configuration). get_or l g none) (sym (fed-list a t cs s x y).1))
    (λ y k. ap (λ (l : List Configuration). get_or l g none) (sym (fed_record a t cs s x y k).1))
    (λ y k. others a t cs s x g (λ h. none-own m.symbol (event-is s x k ∙ ap (λ i. (i, m.symbol) ∷ []) (sym h))))

pub feed-emitted-padded : FeedEmittedPadded
feed-emitted-padded a t cs s expected =
    let m = admission s expected in
    let n = feed_refusal a t cs s expected in
    by (eqb n 0)
    (λ h.
    let k = (event-rows a t cs s expected).accepted.0 (eqb-true n 0 h) in
    let e = ap (λ f. f.answer) (fed-in a t cs s expected (clear_list a t (length cs) k.0.0) k.0.1).0 in
    rw (sym e) (clients-emitted-padded a t cs m.client m.symbol))
    (λ h. rw (refused a t cs s expected (eqb-false n 0 h)).1 (omega arith, zeros-used 7, zeros-used 7))
