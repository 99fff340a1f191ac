-- What is proved of a call on one record of the feed: its rows in document 02's words, its whole
-- answer and the lent list, and that what a client receives depends on nothing of the others.
use Rattle.std.specs.Prelude.{ℕ, ◌<◌, ◌≤◌, ◌≡◌, ◌⊎◌, ◌↔◌, false, List, [], ◌∷◌, map, length, get_or, replicate}
use Rattle.base.specs.Pad.{UsedTo}
use Rattle.automaton.specs.declared.Automaton.{Automaton}
use Rattle.configuration_places.specs.Places.{input_place, input_number}
use Rattle.configuration.specs.declared.Configuration.{Configuration}
use Rattle.clients_answers.specs.declared.ReceivedFor.{ReceivedFor}
use Rattle.clients_answers.specs.Clients.{none, list_refusal, received_for, received_clients}
use Rattle.clients_answers.specs.Claims.{ListRows, ListClear, ClientRows}
use Rattle.feed_record.specs.declared.Expected.{Expected}
use Rattle.feed_record.specs.declared.Expected.TheVariants.{Serial}
use Rattle.feed_record.specs.Serials.{following, ahead}
use Rattle.feed_record.specs.Records.{admission}
use Rattle.feed_record.specs.Claims.{NumberRow, InTime}
use Rattle.feed_answers.specs.Feed.{feed_refusal, fed_for, event_in, fed_clients}

-- a row of the record itself (in words: `RecordsAsWorded` of crate `feed_record`)
abbrev pub RecordRow : ℕ → Type 0
RecordRow n = NumberRow n ⊎ (n ≡ 10) ⊎ (n ≡ 21) ⊎ (n ≡ 22)

-- The rows in their order: 11, 12, 20; then the record's; then, of a record that is let in, its
-- event's.
pub record FeedRows (a : Automaton) (t : List ℕ) (cs : List Configuration) (s : List ℕ) (expected : Expected) : Type 0 where
  pub list : ListRows a t (length cs) (feed_refusal a t cs s expected)
  pub own : (n : ℕ) → RecordRow n
      → (feed_refusal a t cs s expected ≡ n) ↔ (ListClear a t (length cs) × ((admission s expected).refusal ≡ n))
  pub event : ClientRows (ListClear a t (length cs) × ((admission s expected).refusal ≡ 0)) a t cs (admission s expected).client
      (admission s expected).symbol (feed_refusal a t cs s expected)
  pub answered : (fed_for a t cs s expected).answer.refusal ≡ feed_refusal a t cs s expected

abbrev pub FeedRowsAsWorded : Type 0
FeedRowsAsWorded =
    (a : Automaton) (t : List ℕ) (cs : List Configuration) (s : List ℕ) (expected : Expected) → FeedRows a t cs s expected

-- a refused event's answer: the row, nothing put out, no
abbrev pub zeros : ℕ → ReceivedFor
zeros row = record { refusal = row; emitted = replicate 7 0; count = 0; winning = false; places = replicate 7 (input_place 0) }

-- The whole answer and the whole lent list, in every case.
pub record FeedAnswered (a : Automaton) (t : List ℕ) (cs : List Configuration) (s : List ℕ) (expected : Expected) : Type 0 where
  -- refused by 11, 12 or 20: at no place of the record
  pub by-list : (list_refusal a t (length cs) ≡ 0 → ⊥)
      → (fed_for a t cs s expected
      ≡ record {
        answer = zeros (list_refusal a t (length cs));
        place = 0;
        expected = expected;
        loss = 0;
      })
      × (fed_clients a t cs s expected ≡ cs)
  -- by 1, 2, 10, 21 or 22: at its place; the expected serial as it was given, none too
  pub by-record : ListClear a t (length cs) → ((admission s expected).refusal ≡ 0 → ⊥)
      → (fed_for a t cs s expected
      ≡ record {
        answer = zeros (admission s expected).refusal;
        place = (admission s expected).place;
        expected = expected;
        loss = 0;
      })
      × (fed_clients a t cs s expected ≡ cs)
  -- let in: all that the call for one event answers, refused or not, and leaves; beside it the
  -- serial that follows the one received, and the loss
  pub let-in : ListClear a t (length cs) → (serial client symbol : ℕ) → InTime s expected serial client symbol
      → (fed_for a t cs s expected
      ≡ record {
        answer = received_for a t cs client symbol;
        place = 0;
        expected = Serial (following serial);
        loss = ahead expected serial;
      })
      × (fed_clients a t cs s expected ≡ received_clients a t cs client symbol)
  -- a refused call changes nothing, and answers an event of zeros
  pub refused : (feed_refusal a t cs s expected ≡ 0 → ⊥)
      → (fed_clients a t cs s expected ≡ cs)
      × ((fed_for a t cs s expected).answer ≡ zeros (feed_refusal a t cs s expected))
  -- no call changes another client than its record's
  pub others : (g : ℕ) → (g ≡ (admission s expected).client → ⊥) → get_or (fed_clients a t cs s expected) g none ≡ get_or cs g none
  pub count : length (fed_clients a t cs s expected) ≡ length cs

abbrev pub FeedAnsweredAsWorded : Type 0
FeedAnsweredAsWorded =
    (a : Automaton) (t : List ℕ) (cs : List Configuration) (s : List ℕ) (expected : Expected) → FeedAnswered a t cs s expected

-- the event that a record brings: its own, where it is let in
pub record EventOfRecord (s : List ℕ) (expected : Expected) : Type 0 where
  pub own : (serial client symbol : ℕ) → InTime s expected serial client symbol → event_in s expected ≡ (client, symbol) ∷ []
  pub no_event : ((admission s expected).refusal ≡ 0 → ⊥) → event_in s expected ≡ []

abbrev pub EventsInAsWorded : Type 0
EventsInAsWorded = (s : List ℕ) (expected : Expected) → EventOfRecord s expected

-- Two records that are let in, whatever their serials and what is expected, and bring the same
-- event to clients with the same configuration, over one automaton, table (of any contents) and
-- count: the same answer to the event, and the same configuration after it.
abbrev pub FeedNoninterference : Type 0
FeedNoninterference =
    (a : Automaton) (t : List ℕ) (cs ds : List Configuration) (s u : List ℕ) (x y : Expected) (g h e : ℕ)
    → length cs ≡ length ds → g < length cs → h < length ds → get_or cs g none ≡ get_or ds h none
    → event_in s x ≡ (g, e) ∷ [] → event_in u y ≡ (h, e) ∷ []
    → ((fed_for a t cs s x).answer ≡ (fed_for a t ds u y).answer)
    × (get_or (fed_clients a t cs s x) g none ≡ get_or (fed_clients a t ds u y) h none)

-- a record that brings a client no event changes nothing of it
abbrev pub FeedKeepsOthers : Type 0
FeedKeepsOthers =
    (a : Automaton) (t : List ℕ) (cs : List Configuration) (s : List ℕ) (x : Expected) (g : ℕ)
    → ((e : ℕ) → event_in s x ≡ (g, e) ∷ [] → ⊥) → get_or (fed_clients a t cs s x) g none ≡ get_or cs g none

-- the answer has seven places for what is emitted, and as many for its places in the input; those
-- past the count hold 0
abbrev pub FeedEmittedPadded : Type 0
FeedEmittedPadded =
    (a : Automaton) (t : List ℕ) (cs : List Configuration) (s : List ℕ) (expected : Expected)
    → let r = (fed_for a t cs s expected).answer in
    (r.count ≤ 7) × UsedTo 7 r.count r.emitted × UsedTo 7 r.count (map input_number r.places)
