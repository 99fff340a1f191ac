-- What a call on a record of the feed leaves, as it answers.
use Prim.Native.Nat.{ℕ, ◌+◌, ◌/◌, ◌%◌, ◌<◌, ◌≤◌}
use mathlib.Core.Path.{◌≡◌, refl, sym, ◌∙◌, ap}
use mathlib.Core.Bool.{true, false}
use mathlib.Core.List.{List, [], ◌∷◌}
use native.Mathlib.Omega.{arith}
use lib.ListN.{length, take, replicate}
use lib.Seq.{take_at, drop_at}
use lib.Dec.{eqb}
use borrow.Author.Tests.{eqb-true, eqb-false, eq-eqb, ne_eqb}
use Rattle.base.proofs.Bools.{by, clash}
use Rattle.std.specs.Int.{w16, from_le_bytes}
use Rattle.configuration.specs.declared.Configuration.{Configuration}
use Rattle.clients_answers.specs.Clients.{list_refusal, refused_for}
use Rattle.feed_record.specs.declared.Expected.{Expected}
use Rattle.feed_record.specs.declared.Expected.TheVariants.{Any, Serial}
use Rattle.feed_record.specs.Serials.{distance, following, ahead}
use Rattle.feed_record.specs.Claims.{InTime}
use Rattle.feed_record.proofs.Worded.{records_as_worded}
use Rattle.feed_answers.specs.declared.Fed.{Fed}
use Rattle.feed_answers.specs.Feed.{entry_refusal, fed_for, fed_clients}
use Rattle.feed_answers.proofs.Entering.{entry_record, entry_clear, fed-list, fed_record}
use Rattle.feed_answers.proofs.Worded.{feed-rows_as_worded, feed-answered_as_worded, feed-emitted-padded}
use Rattle.clients_answers.proofs.Refusals.{list_clear}
use Rattle.c_layout.specs.Offsets.{number_size, received_size, expected_size, expected_known, expected_serial, fed_loss}
use Rattle.c_layout.specs.Layout.{byte_at, part, automaton_of, number_of, number_bytes, places_bytes}
use Rattle.c_layout.specs.Layout.{expected_of, expected_bytes, same_expected, expected_laid}
use Rattle.c_layout.specs.Answers.{received_for_bytes, fed_bytes}
use Rattle.c_layout.specs.Calls.{received_for_left, fed_left, feed_leaves}
use Rattle.c_layout.specs.Claims.{ExpectedKept, FeedLeftAsAnswered}
use Rattle.c_layout.proofs.Numbers.{number-length}
use Rattle.c_layout.proofs.Bytes.{of-two}
use Rattle.c_layout.proofs.Offsets.{places-seven, offsets_hold}

-- out of bytes
pub expected-none : (bytes : List ℕ) → byte_at bytes expected_known ≡ 0 → Any ≡ expected_of bytes
unfolding expected_of
expected-none bytes z = rw z

pub expected-some : (bytes : List ℕ) → length bytes ≡ expected_size → (byte_at bytes expected_known ≡ 0 → ⊥) → (serial : ℕ)
    → serial ≡ from_le_bytes w16 (byte_at bytes expected_serial ∷ byte_at bytes (expected_serial + 1) ∷ [])
    → Serial serial ≡ expected_of bytes
expected-some bytes long z serial h = ap Serial (h ∙ of-two _ _) ∙ sym ((offsets_hold.expected bytes long).known z)

-- the test whether two are the same
same_itself : (x : Expected) → same_expected x x ≡ true
unfolding same_expected
same_itself Any = refl
same_itself (Serial s) = eq-eqb s s refl

same-is : (x y : Expected) → same_expected x y ≡ true → x ≡ y
unfolding same_expected
same-is Any Any h = refl
same-is Any (Serial y) h = absurd (clash h refl)
same-is (Serial x) Any h = absurd (clash h refl)
same-is (Serial x) (Serial y) h = ap Serial (eqb-true x y h)

-- laid into bytes that say it, or that do not
laid_same : (lent : List ℕ) → expected_laid (expected_of lent) lent ≡ lent
unfolding expected_laid
laid_same lent = rw (same_itself (expected_of lent))

laid-other : (x : Expected) (lent : List ℕ) → same_expected (expected_of lent) x ≡ false → expected_laid x lent ≡ expected_bytes x
unfolding expected_laid
laid-other x lent h = rw h

-- .. where what they say is y
module _ (x y : Expected) (lent : List ℕ) (e : y ≡ expected_of lent) where
  pub lays_already : y ≡ x → lent ≡ expected_laid x lent
  lays_already h = sym (ap (λ z. expected_laid z lent) (sym h ∙ e) ∙ laid_same lent)

  pub lays_anew : (y ≡ x → ⊥) → expected_bytes x ≡ expected_laid x lent
  lays_anew h =
      by (same_expected (expected_of lent) x)
      (λ same. absurd (h (e ∙ same-is (expected_of lent) x same)))
      (λ other. sym (laid-other x lent other))

kept-laid : (x : Expected) (lent : List ℕ) → expected_of (expected_bytes x) ≡ x → expected_of (expected_laid x lent) ≡ x
kept-laid x lent e =
    by (same_expected (expected_of lent) x)
    (λ h. let z = same-is (expected_of lent) x h in ap (λ y. expected_of (expected_laid y lent)) (sym z) ∙ ap expected_of (laid_same lent) ∙ z)
    (λ h. ap expected_of (laid-other x lent h) ∙ e)

none_anew : (lent : List ℕ) → (byte_at lent expected_known ≡ 0 → ⊥) → same_expected (expected_of lent) Any ≡ false
unfolding expected_of same_expected
none_anew lent z = rw (ne_eqb (byte_at lent expected_known) 0 z)

pub expected-kept : ExpectedKept
unfolding expected_of expected_bytes part number_bytes number_of
expected-kept lent =
    record {
      none = kept-laid Any lent refl;
      serial = λ s l. kept-laid (Serial s) lent (ap Serial (omega arith));
      already = laid_same lent;
      zeros = λ z. laid-other Any lent (none_anew lent z);
    }

-- a record that is let in expects another serial than was expected
moves : (x : Expected) (serial : ℕ) → serial ≤ 65535 → ahead x serial < 32768 → same_expected x (Serial (following serial)) ≡ false
unfolding same_expected ahead distance following
moves Any serial l d = refl
moves (Serial x) serial l d = ne_eqb x ((serial + 1) % 65536) (λ h. omega arith)

-- the parts of an answer
module _ (r : Fed) where
  event-part : length (received_for_bytes r.answer) ≡ received_size → take received_size (fed_bytes r) ≡ received_for_bytes r.answer
  unfolding fed_bytes
  event-part long = take_at (received_for_bytes r.answer) _ received_size long

  loss-part : length (received_for_bytes r.answer) ≡ received_size → part fed_loss number_size (fed_bytes r) ≡ number_bytes number_size r.loss
  unfolding fed_bytes part
  loss-part long =
      ap (take number_size) (drop_at (received_for_bytes r.answer) _ fed_loss long) ∙
      take_at (number_bytes number_size r.loss) _ number_size (number-length number_size r.loss)

zeros-laid : (row : ℕ) → received_for_bytes (refused_for row) ≡ replicate received_size 0
unfolding received_for_bytes places_bytes number_bytes
zeros-laid row = refl

module _ (record-bytes t : List ℕ) (cs : List Configuration) (s lent : List ℕ) where
  abbrev x : Expected
  x = expected_of lent

  abbrev r : Fed
  r = fed_for (automaton_of record-bytes) t cs s x

  abbrev row : ℕ
  row = entry_refusal (automaton_of record-bytes) t (length cs) s x

  event-long : length (received_for_bytes r.answer) ≡ received_size
  unfolding received_for_left
  event-long =
      let padded = feed-emitted-padded (automaton_of record-bytes) t cs s x in
      (offsets_hold.received-for r.answer cs padded.1.0 (places-seven r.answer.places padded.2.0)).size

  -- not let in
  unmoved : (row ≡ 0 → ⊥) → (r.expected ≡ x) × (r.loss ≡ 0)
  unmoved z =
      let a = automaton_of record-bytes in
      let n = list_refusal a t (length cs) in
      by (eqb n 0)
      (λ h.
      let l = eqb-true n 0 h in
      let e = (fed_record a t cs s x l (λ k. z (entry_record a t (length cs) s x l ∙ k))).0 in
      (sym (ap (λ f. f.expected) e), sym (ap (λ f. f.loss) e)))
      (λ h.
      let e = (fed-list a t cs s x (eqb-false n 0 h)).0 in
      (sym (ap (λ f. f.expected) e), sym (ap (λ f. f.loss) e)))

  kept : (row ≡ 0 → ⊥)
      → ((feed_leaves record-bytes t cs s lent).expected ≡ lent)
      × (part fed_loss number_size (feed_leaves record-bytes t cs s lent).answer ≡ replicate number_size 0)
  unfolding feed_leaves fed_left number_bytes
  kept z =
      let (same, none) = unmoved z in (
        ap (λ y. expected_laid y lent) same ∙ laid_same lent,
        loss-part r event-long ∙ ap (number_bytes number_size) none,
      )

  next : row ≡ 0 → (serial client symbol : ℕ) → InTime s x serial client symbol
      → (feed_leaves record-bytes t cs s lent).expected ≡ 1 ∷ following serial % 256 ∷ following serial / 256 ∷ []
  unfolding feed_leaves fed_left expected_bytes number_bytes following
  next z serial client symbol i =
      let a = automaton_of record-bytes in
      let clear = list_clear a t (length cs) (entry_clear a t (length cs) s x z).0 in
      let e = ap (λ f. f.expected) ((feed-answered_as_worded a t cs s x).let-in clear serial client symbol i).0 in
      let high : following serial / 256 % 256 ≡ following serial / 256 = omega arith in
      ap (λ y. expected_laid y lent) e ∙
      laid-other (Serial (following serial)) lent (moves x serial i.small i.early) ∙
      ap (λ h. 1 ∷ following serial % 256 ∷ h ∷ []) high

  handed_on : expected_of (feed_leaves record-bytes t cs s lent).expected ≡ r.expected
  unfolding feed_leaves fed_left following
  handed_on =
      let a = automaton_of record-bytes in
      by (eqb row 0)
      (λ h.
      let z = eqb-true row 0 h in
      let (l, k) = entry_clear a t (length cs) s x z in
      let i = (records_as_worded s x).admitted.0 k in
      let e = ap (λ f. f.expected) ((feed-answered_as_worded a t cs s x).let-in (list_clear a t (length cs) l) i.serial i.client i.symbol i.in-time).0 in
      ap (λ y. expected_of (expected_laid y lent)) e ∙ (expected-kept lent).serial (following i.serial) (omega arith) ∙ sym e)
      (λ h.
      let same = (unmoved (eqb-false row 0 h)).0 in
      ap (λ y. expected_of (expected_laid y lent)) same ∙ ap expected_of (laid_same lent) ∙ sym same)

  refused : ((feed_leaves record-bytes t cs s lent).refusal ≡ 0 → ⊥)
      → ((feed_leaves record-bytes t cs s lent).configurations ≡ cs)
      × (take received_size (feed_leaves record-bytes t cs s lent).answer ≡ replicate received_size 0)
  unfolding feed_leaves fed_left
  refused z =
      let a = automaton_of record-bytes in
      let e = (feed-answered_as_worded a t cs s x).refused (λ k. z ((feed-rows_as_worded a t cs s x).answered ∙ k)) in
      (e.0, event-part r event-long ∙ ap received_for_bytes e.1 ∙ zeros-laid _)

pub feed-left_as_answered : FeedLeftAsAnswered
unfolding feed_leaves fed_left
feed-left_as_answered record-bytes t cs s lent long =
    let a = automaton_of record-bytes in
    let x = expected_of lent in
    let r = fed_for a t cs s x in
    let padded = feed-emitted-padded a t cs s x in
    record {
      refusal = (feed-rows_as_worded a t cs s x).answered;
      list = refl;
      answer = offsets_hold.fed r (fed_clients a t cs s x) lent padded.1.0 (places-seven r.answer.places padded.2.0);
      kept = kept record-bytes t cs s lent;
      next = next record-bytes t cs s lent;
      handed_on = handed_on record-bytes t cs s lent;
      refused = refused record-bytes t cs s lent;
    }
