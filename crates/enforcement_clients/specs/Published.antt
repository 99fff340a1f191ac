-- The published functions in document 02's words: what they answer to a call that lends n, and
-- what each of them is after it, from what it was before. (What one function makes of its own
-- event is `FollowsPublished`, of crate `enforcement`.) Of the calls over the list only how a
-- day's numbers are read is used (`named`, pinned by `NumbersAsWorded`), and which records of the
-- feed are let in (`admission`, pinned by `RecordsAsWorded`).
use Rattle.std.specs.Prelude.{ℕ, suc, ◌+◌, ◌<◌, ◌≤◌, ◌≡◌, ◌↔◌, true, false, List, [], ◌∷◌, ◌++◌, map, length, drop, replicate}
use Rattle.base.specs.Pad.{pad}
use Rattle.automaton.specs.declared.Automaton.{Automaton}
use Rattle.configuration_places.specs.Places.{input_place}
use Rattle.monitor_rule.specs.Step.{by_sets}
use Rattle.monitor_rule.specs.Claims.{Unknown, Full}
use Rattle.enforcement.specs.Store.{state_of, store}
use Rattle.enforcement.specs.Calls.{since, sources_since}
use Rattle.enforcement.specs.Published.{ShutAt, EndedAt, AdmittedAt, Refused, OpensBuffer}
use Rattle.clients_answers.specs.declared.ReceivedFor.{ReceivedFor}
use Rattle.clients_answers.specs.Clients.{named}
use Rattle.clients_answers.specs.Claims.{WrongCount, RightCount, sum_below}
use Rattle.feed_record.specs.declared.Expected.{Expected}
use Rattle.feed_record.specs.declared.Expected.TheVariants.{Serial}
use Rattle.feed_record.specs.Serials.{following, ahead}
use Rattle.feed_record.specs.Records.{admission}
use Rattle.feed_record.specs.Claims.{InTime}
use Rattle.enforcement_clients.specs.ClientCalls.{receive_for, run_for, feed_for, receive, run, feed, refusal_in}
use Rattle.enforcement_clients.specs.Functions.{Functions, fed_own, fed_in, put_out, refused_day, expected_in}

-- the answer to a refused event: the row, nothing put out, no
abbrev pub silent : ℕ → ReceivedFor
silent m = record { refusal = m; emitted = replicate 7 0; count = 0; winning = false; places = replicate 7 (input_place 0) }

-- One event: k is how many the call asks to lend, n how many it lends, i the client, e the symbol.
pub record EventAsPublished (a : Automaton) (n : ℕ) (ss : Functions) (k i e : ℕ) : Type 0 where
  -- row 20, a list of none or over 500; row 19, a client's number not below the count; then 14, 15
  -- and 23, by the client's own output, buffer and count
  pub row-20 : (refusal_in (expected_in a n ss (receive_for k i e)) ≡ 20) ↔ WrongCount n
  pub row-19 : (refusal_in (expected_in a n ss (receive_for k i e)) ≡ 19) ↔ (RightCount n × (n ≤ i))
  pub row-14 : (refusal_in (expected_in a n ss (receive_for k i e)) ≡ 14) ↔ (RightCount n × (i < n) × Unknown a e)
  pub row-15 : (refusal_in (expected_in a n ss (receive_for k i e)) ≡ 15)
      ↔ (RightCount n × (i < n) × ShutAt a (ss i) e)
  pub row-23 : (refusal_in (expected_in a n ss (receive_for k i e)) ≡ 23)
      ↔ (RightCount n × (i < n) × EndedAt a (ss i) e)
  pub accepted : (refusal_in (expected_in a n ss (receive_for k i e)) ≡ 0)
      ↔ (RightCount n × (i < n) × AdmittedAt a (ss i) e)
  -- it is fed to its client's function and to no other; a call that 20 refuses, or 19, brings none
  -- of them an event
  pub fed : RightCount n → i < n → fed_in a n ss (receive_for k i e) i ≡ store a (ss i) e
  pub others : (g : ℕ) → (g ≡ i → ⊥) → fed_in a n ss (receive_for k i e) g ≡ ss g
  pub wrong-count : (g : ℕ) → WrongCount n → fed_in a n ss (receive_for k i e) g ≡ ss g
  pub absent : (g : ℕ) → n ≤ i → fed_in a n ss (receive_for k i e) g ≡ ss g
  -- the answer to an accepted one: what the client's function put out then with the places, and
  -- whether its state lies in S of its buffer
  pub answer : RightCount n → i < n → AdmittedAt a (ss i) e
      → let z = store a (ss i) e in
      expected_in a n ss (receive_for k i e)
      ≡ receive (record {
        refusal = 0;
        emitted = pad 7 (since (ss i) z);
        count = length (since (ss i) z);
        winning = by_sets a z.buffer (state_of a z);
        places = map input_place (pad 7 (sources_since (ss i) z));
      })
  -- and to a refused one
  pub refused : (m : ℕ) → (m ≡ 0 → ⊥) → refusal_in (expected_in a n ss (receive_for k i e)) ≡ m
      → expected_in a n ss (receive_for k i e)
      ≡ receive (silent m)
  -- one that its client's full buffer accepts opens that buffer, and so its answer says winning
  pub opens : RightCount n → i < n → Full a (ss i).buffer e → AdmittedAt a (ss i) e
      → let z = fed_in a n ss (receive_for k i e) i in
      OpensBuffer a (ss i) e z × (by_sets a z.buffer (state_of a z) ≡ true)

-- Events with their clients' numbers, one after the other: each is fed to its client's function
-- and to no other, one for a client that is not there to none; what the functions put out stands
-- in the order of the events; those are counted that a row refuses, 19 among them.
pub record EventsAsPublished (a : Automaton) (n : ℕ) (ss : Functions) : Type 0 where
  pub none-fed : (g : ℕ) → fed_own a n ss [] g ≡ ss g
  pub first-fed : (x : ℕ × ℕ) (xs : List (ℕ × ℕ)) (g : ℕ)
      → fed_own a n ss (x ∷ xs) g ≡ fed_own a n (fed_own a n ss (x ∷ [])) xs g
  pub own-fed : (i e : ℕ) → i < n → fed_own a n ss ((i, e) ∷ []) i ≡ store a (ss i) e
  pub other-kept : (i e g : ℕ) → (g ≡ i → ⊥) → fed_own a n ss ((i, e) ∷ []) g ≡ ss g
  pub absent-kept : (i e g : ℕ) → n ≤ i → fed_own a n ss ((i, e) ∷ []) g ≡ ss g
  pub none-put : put_out a n ss [] ≡ []
  pub own_put : (i e : ℕ) (xs : List (ℕ × ℕ)) → i < n
      → put_out a n ss ((i, e) ∷ xs) ≡ since (ss i) (store a (ss i) e) ++ put_out a n (fed_own a n ss ((i, e) ∷ [])) xs
  pub absent-put : (i e : ℕ) (xs : List (ℕ × ℕ)) → n ≤ i → put_out a n ss ((i, e) ∷ xs) ≡ put_out a n ss xs
  pub none-counted : refused_day a n ss [] ≡ 0
  pub counted : (i e : ℕ) (xs : List (ℕ × ℕ)) → i < n → Refused a (ss i) e
      → refused_day a n ss ((i, e) ∷ xs) ≡ suc (refused_day a n ss xs)
  pub not-counted : (i e : ℕ) (xs : List (ℕ × ℕ)) → i < n → AdmittedAt a (ss i) e
      → refused_day a n ss ((i, e) ∷ xs) ≡ refused_day a n (fed_own a n ss ((i, e) ∷ [])) xs
  pub absent-counted : (i e : ℕ) (xs : List (ℕ × ℕ)) → n ≤ i
      → refused_day a n ss ((i, e) ∷ xs) ≡ suc (refused_day a n ss xs)

-- A day: its events' numbers vs and the output lent to it.
pub record DayAsPublished (a : Automaton) (n : ℕ) (ss : Functions) (k : ℕ) (vs out : List ℕ) : Type 0 where
  -- row 20; row 16, the output shorter than all the day's events and all that the functions hold
  pub row-20 : (refusal_in (expected_in a n ss (run_for k vs out)) ≡ 20) ↔ WrongCount n
  pub row-16 : (refusal_in (expected_in a n ss (run_for k vs out)) ≡ 16)
      ↔ (RightCount n × (length out < length vs + sum_below n (λ g. length (ss g).buffer)))
  pub accepted : (refusal_in (expected_in a n ss (run_for k vs out)) ≡ 0)
      ↔ (RightCount n × (length vs + sum_below n (λ g. length (ss g).buffer) ≤ length out))
  -- refused, it brings none of them an event, writes nothing and counts nothing
  pub refused : (m : ℕ) → (m ≡ 0 → ⊥) → refusal_in (expected_in a n ss (run_for k vs out)) ≡ m
      → ((g : ℕ) → fed_in a n ss (run_for k vs out) g ≡ ss g)
      × (expected_in a n ss (run_for k vs out) ≡ run (record { refusal = m; length = 0; refused = 0 }) out)
  -- else all its events, in order
  pub fed : refusal_in (expected_in a n ss (run_for k vs out)) ≡ 0
      → (g : ℕ) → fed_in a n ss (run_for k vs out) g ≡ fed_own a n ss (named vs) g
  pub answer : refusal_in (expected_in a n ss (run_for k vs out)) ≡ 0
      → let new = put_out a n ss (named vs) in
      expected_in a n ss (run_for k vs out)
      ≡ run (record { refusal = 0; length = length new; refused = refused_day a n ss (named vs) }) (new ++ drop (length new) out)

-- One record of the feed: its bytes s and the serial x that is expected, which may be any. (When
-- it is let in: `RecordsAsWorded` of crate `feed_record`.)
pub record FeedAsPublished (a : Automaton) (n : ℕ) (ss : Functions) (k : ℕ) (s : List ℕ) (x : Expected) : Type 0 where
  -- row 20 first, then the record's own
  pub row-20 : (refusal_in (expected_in a n ss (feed_for k s x)) ≡ 20) ↔ WrongCount n
  pub wrong-count : WrongCount n
      → expected_in a n ss (feed_for k s x)
      ≡ feed (record {
        answer = silent 20;
        place = 0;
        expected = x;
        loss = 0;
      })
  pub not-let-in : RightCount n → ((admission s x).refusal ≡ 0 → ⊥)
      → expected_in a n ss (feed_for k s x)
      ≡ feed (record {
        answer = silent (admission s x).refusal;
        place = (admission s x).place;
        expected = x;
        loss = 0;
      })
  -- neither brings any of them an event
  pub wrong-count-fed : (g : ℕ) → WrongCount n → fed_in a n ss (feed_for k s x) g ≡ ss g
  pub not_let_in-fed : (g : ℕ) → ((admission s x).refusal ≡ 0 → ⊥) → fed_in a n ss (feed_for k s x) g ≡ ss g
  -- let in, it is fed and answered as its event, refused then or not; the serial that follows the
  -- one received is expected next, and the loss is answered
  pub let-in-fed : (g serial client symbol : ℕ) → InTime s x serial client symbol
      → fed_in a n ss (feed_for k s x) g ≡ fed_in a n ss (receive_for k client symbol) g
  pub let-in : RightCount n → (serial client symbol : ℕ) → InTime s x serial client symbol
      → (r : ReceivedFor) → expected_in a n ss (receive_for k client symbol) ≡ receive r
      → expected_in a n ss (feed_for k s x)
      ≡ feed (record { answer = r; place = 0; expected = Serial (following serial); loss = ahead x serial })

pub record ClientsAsPublished (a : Automaton) (n : ℕ) (ss : Functions) : Type 0 where
  pub event : (k i e : ℕ) → EventAsPublished a n ss k i e
  pub events : EventsAsPublished a n ss
  pub day : (k : ℕ) (vs out : List ℕ) → DayAsPublished a n ss k vs out
  pub record-fed : (k : ℕ) (s : List ℕ) (x : Expected) → FeedAsPublished a n ss k s x

-- so it is of every automaton, however many are lent and whatever the functions hold
abbrev pub ClientsFollowPublished : Type 0
ClientsFollowPublished = (a : Automaton) (n : ℕ) (ss : Functions) → ClientsAsPublished a n ss
