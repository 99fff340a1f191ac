-- What is proved of the layout: what stands at each offset, and that nothing is lost on the way
-- into bytes or out of them.
use Rattle.std.specs.Prelude.{ℕ, ◌+◌, ◌*◌, ◌/◌, ◌%◌, ◌<◌, ◌^◌, ◌≡◌, Bool, true, false, List, [], ◌∷◌, length, get_or, take, replicate}
use Rattle.automaton.specs.declared.Automaton.{Automaton}
use Rattle.automaton.specs.Automaton.{class, flag, step, shaped}
use Rattle.automaton_format.specs.Reading.{parse}
use Rattle.product_rule.specs.Product.{product_answer}
use Rattle.configuration_places.specs.declared.InputPlace.{InputPlace}
use Rattle.configuration_places.specs.Places.{input_place, input_number, output_number}
use Rattle.configuration.specs.declared.Configuration.{Configuration}
use Rattle.configuration.specs.Configuration.{initial_of, initial_answer}
use Rattle.game.specs.Game.{Verdict}
use Rattle.monitor_answers.specs.declared.Status.{Status}
use Rattle.monitor_answers.specs.declared.Received.{Received}
use Rattle.monitor_answers.specs.declared.Ran.{Ran}
use Rattle.monitor_answers.specs.Answers.{received, ran}
use Rattle.clients_answers.specs.declared.ReceivedFor.{ReceivedFor}
use Rattle.clients_answers.specs.declared.RanFor.{RanFor}
use Rattle.clients_answers.specs.Clients.{receive_for_refusal, received_for, received_clients}
use Rattle.clients_answers.specs.Clients.{run_for_refusal, ran_for, ran_clients, ran_for_buffer}
use Rattle.feed_record.specs.declared.Expected.TheVariants.{Any, Serial}
use Rattle.feed_record.specs.Serials.{following}
use Rattle.feed_record.specs.Claims.{InTime}
use Rattle.feed_answers.specs.declared.Fed.{Fed}
use Rattle.feed_answers.specs.Feed.{entry_refusal, feed_refusal, fed_for, fed_clients}
use Rattle.c_layout.specs.Offsets.{max_states, max_symbols, max_capacity, max_emitted}
use Rattle.c_layout.specs.Offsets.{automaton_size, automaton_states, automaton_symbols, automaton_capacity, automaton_initial}
use Rattle.c_layout.specs.Offsets.{automaton_classes, automaton_accepting, automaton_next}
use Rattle.c_layout.specs.Offsets.{configuration_size, configuration_state, configuration_held, configuration_buffer}
use Rattle.c_layout.specs.Offsets.{place_size, configuration_places, configuration_received, configuration_emitted}
use Rattle.c_layout.specs.Offsets.{number_size, status_size, received_size, received_emitted, received_count, received_winning}
use Rattle.c_layout.specs.Offsets.{received_places}
use Rattle.c_layout.specs.Offsets.{ran_size, ran_length, ran_refused, verdict_size, verdict_may_rest, verdict_can_rest}
use Rattle.c_layout.specs.Offsets.{expected_size, expected_known, expected_serial, fed_size, fed_loss, fed_place}
use Rattle.c_layout.specs.Layout.{byte_at, part, automaton_of, automaton_bytes, configuration_of, configuration_bytes}
use Rattle.c_layout.specs.Layout.{number_of, number_bytes, expected_of, expected_laid}
use Rattle.c_layout.specs.Answers.{status_bytes, verdict_bytes}
use Rattle.c_layout.specs.Calls.{initial_bytes, received_left, ran_left, receive_leaves, run_leaves}
use Rattle.c_layout.specs.Calls.{received_for_left, ran_for_left, fed_left, receive_for_leaves, run_for_leaves, feed_leaves}

-- lent bytes: each below 256, as their type has them
abbrev pub Bytes : List ℕ → Type 0
Bytes bytes = (i : ℕ) → byte_at bytes i < 256

-- a configuration as its type has it: the arrays' lengths, and places of 32 bits
pub record Typed (c : Configuration) : Type 0 where
  pub buffer-length : length c.buffer ≡ max_capacity
  pub places-length : length c.places ≡ max_capacity
  pub places-low : (i : ℕ) → input_number (get_or c.places i (input_place 0)) < 2 ^ 32
  pub received-low : input_number c.received < 2 ^ 32
  pub emitted-low : output_number c.emitted < 2 ^ 32

-- What stands at each offset, in the header's words.

-- a yes-or-no: 1 or 0
abbrev pub YesOrNo : Bool → ℕ → Type 0
YesOrNo b byte = (b ≡ true → byte ≡ 1) × (b ≡ false → byte ≡ 0)

-- a number from a place on: eight bytes, low byte first
pub record NumberAt (v place : ℕ) (bytes : List ℕ) : Type 0 where
  pub low_first : (i : ℕ) → i < number_size → byte_at bytes (place + i) ≡ v / 256 ^ i % 256
  pub value : v < 2 ^ 64 → number_of (part place number_size bytes) ≡ v

-- a place in the input or in the output: four bytes, low byte first
pub record PlaceAt (v place : ℕ) (bytes : List ℕ) : Type 0 where
  pub low_first : (i : ℕ) → i < place_size → byte_at bytes (place + i) ≡ v / 256 ^ i % 256
  pub value : v < 2 ^ 32 → number_of (part place place_size bytes) ≡ v

pub record AutomatonIn (a : Automaton) (bytes : List ℕ) : Type 0 where
  pub size : length bytes ≡ automaton_size
  pub states : byte_at bytes automaton_states ≡ a.states
  pub symbols : byte_at bytes automaton_symbols ≡ a.symbols
  pub capacity : byte_at bytes automaton_capacity ≡ a.capacity
  pub initial : byte_at bytes automaton_initial ≡ a.initial
  pub classes : (e : ℕ) → e < max_symbols → byte_at bytes (automaton_classes + e) ≡ class a e
  pub accepting : (q : ℕ) → q < max_states → byte_at bytes (automaton_accepting + q) ≡ flag a q
  pub next : (q e : ℕ) → q < max_states → e < max_symbols → byte_at bytes (automaton_next + q * max_symbols + e) ≡ step a q e

pub record ConfigurationIn (c : Configuration) (bytes : List ℕ) : Type 0 where
  pub size : length bytes ≡ configuration_size
  pub state : byte_at bytes configuration_state ≡ c.state
  pub held : byte_at bytes configuration_held ≡ c.held
  pub buffer : (i : ℕ) → i < max_capacity → byte_at bytes (configuration_buffer + i) ≡ get_or c.buffer i 0
  pub places : (i : ℕ) → i < max_capacity
      → PlaceAt (input_number (get_or c.places i (input_place 0))) (configuration_places + i * place_size) bytes
  pub received : PlaceAt (input_number c.received) configuration_received bytes
  pub emitted : PlaceAt (output_number c.emitted) configuration_emitted bytes

pub record StatusIn (s : Status) (bytes : List ℕ) : Type 0 where
  pub size : length bytes ≡ status_size
  pub winning : YesOrNo s.winning (byte_at bytes 0)

pub record ReceivedIn (symbols : List ℕ) (many : ℕ) (wins : Bool) (from : List InputPlace) (bytes : List ℕ) : Type 0 where
  pub size : length bytes ≡ received_size
  pub emitted : (i : ℕ) → i < max_emitted → byte_at bytes (received_emitted + i) ≡ get_or symbols i 0
  pub count : byte_at bytes received_count ≡ many
  pub winning : YesOrNo wins (byte_at bytes received_winning)
  pub places : (i : ℕ) → i < max_emitted
      → PlaceAt (input_number (get_or from i (input_place 0))) (received_places + i * place_size) bytes

pub record RanIn (bytes-written events-refused : ℕ) (bytes : List ℕ) : Type 0 where
  pub size : length bytes ≡ ran_size
  pub written : NumberAt bytes-written ran_length bytes
  pub refused : NumberAt events-refused ran_refused bytes

-- the answer to the event as above, then the loss and the place
pub record FedIn (r : Fed) (bytes : List ℕ) : Type 0 where
  pub size : length bytes ≡ fed_size
  pub emitted : (i : ℕ) → i < max_emitted → byte_at bytes (received_emitted + i) ≡ get_or r.answer.emitted i 0
  pub count : byte_at bytes received_count ≡ r.answer.count
  pub winning : YesOrNo r.answer.winning (byte_at bytes received_winning)
  pub places : (i : ℕ) → i < max_emitted
      → PlaceAt (input_number (get_or r.answer.places i (input_place 0))) (received_places + i * place_size) bytes
  pub loss : NumberAt r.loss fed_loss bytes
  pub place : NumberAt r.place fed_place bytes

-- what three bytes say of the expected serial: 0, none, whatever the others are; else one, its low
-- byte first
pub record ExpectedIn (bytes : List ℕ) : Type 0 where
  pub unknown : byte_at bytes expected_known ≡ 0 → expected_of bytes ≡ Any
  pub known : (byte_at bytes expected_known ≡ 0 → ⊥)
      → expected_of bytes ≡ Serial (byte_at bytes expected_serial + 256 * byte_at bytes (expected_serial + 1))

pub record VerdictIn (v : Verdict) (bytes : List ℕ) : Type 0 where
  pub size : length bytes ≡ verdict_size
  pub may-rest : YesOrNo v.may_rest (byte_at bytes verdict_may_rest)
  pub can-rest : YesOrNo v.can_rest (byte_at bytes verdict_can_rest)

-- so it is with what the calls lay and take out (arrays have the lengths that their types give)
pub record OffsetsHold : Type 0 where
  pub automaton : (a : Automaton) → shaped a ≡ true → AutomatonIn a (automaton_bytes a)
  pub automaton-out : (bytes : List ℕ) → length bytes ≡ automaton_size → AutomatonIn (automaton_of bytes) bytes
  pub configuration : (c : Configuration) → length c.buffer ≡ max_capacity → length c.places ≡ max_capacity
      → ConfigurationIn c (configuration_bytes c)
  pub configuration-out : (bytes : List ℕ) → length bytes ≡ configuration_size → Bytes bytes
      → ConfigurationIn (configuration_of bytes) bytes
  pub number : (v : ℕ) → (length (number_bytes number_size v) ≡ number_size) × NumberAt v 0 (number_bytes number_size v)
  pub status : (s : Status) → StatusIn s (status_bytes s)
  pub received : (r : Received) → length r.emitted ≡ max_emitted → length r.places ≡ max_emitted
      → ReceivedIn r.emitted r.count r.winning r.places (received_left r).answer
  pub received-for : (r : ReceivedFor) (cs : List Configuration) → length r.emitted ≡ max_emitted
      → length r.places ≡ max_emitted
      → ReceivedIn r.emitted r.count r.winning r.places (received_for_left r cs).answer
  pub ran : (r : Ran) (out : List ℕ) → RanIn r.length r.refused (ran_left r out).answer
  pub ran-for : (r : RanFor) (cs : List Configuration) (out : List ℕ)
      → RanIn r.length r.refused (ran_for_left r cs out).answer
  pub expected : (bytes : List ℕ) → length bytes ≡ expected_size → ExpectedIn bytes
  pub fed : (r : Fed) (cs : List Configuration) (lent : List ℕ) → length r.answer.emitted ≡ max_emitted
      → length r.answer.places ≡ max_emitted → FedIn r (fed_left r cs lent).answer
  pub verdict : (v : Verdict) → VerdictIn v (verdict_bytes v)

-- a record comes back from its bytes, and its bytes from it
abbrev pub AutomatonKept : Type 0
AutomatonKept = (a : Automaton) → shaped a ≡ true → automaton_of (automaton_bytes a) ≡ a

abbrev pub AutomatonBytesKept : Type 0
AutomatonBytesKept = (bytes : List ℕ) → length bytes ≡ automaton_size → automaton_bytes (automaton_of bytes) ≡ bytes

-- so does a configuration
abbrev pub ConfigurationKept : Type 0
ConfigurationKept = (c : Configuration) → Typed c → configuration_of (configuration_bytes c) ≡ c

abbrev pub ConfigurationBytesKept : Type 0
ConfigurationBytesKept =
    (bytes : List ℕ) → length bytes ≡ configuration_size → Bytes bytes → configuration_bytes (configuration_of bytes) ≡ bytes

-- so does an expected serial, whatever the bytes were that it is laid into; bytes that say it
-- already stay, and else none is three zeros
pub record ExpectedLies (lent : List ℕ) : Type 0 where
  pub none : expected_of (expected_laid Any lent) ≡ Any
  pub serial : (s : ℕ) → s < 65536 → expected_of (expected_laid (Serial s) lent) ≡ Serial s
  pub already : expected_laid (expected_of lent) lent ≡ lent
  pub zeros : (byte_at lent expected_known ≡ 0 → ⊥) → expected_laid Any lent ≡ 0 ∷ 0 ∷ 0 ∷ []

abbrev pub ExpectedKept : Type 0
ExpectedKept = (lent : List ℕ) → ExpectedLies lent

-- a number comes back where the bytes are enough for it
abbrev pub NumberKept : Type 0
NumberKept = (width v : ℕ) → v < 256 ^ width → number_of (number_bytes width v) ≡ v

-- a call leaves what it answers by value: the refusal and a day's output as they are, the
-- configuration in its bytes
pub record LeftAsAnswered : Type 0 where
  pub event-refusal : (r : Received) → (received_left r).refusal ≡ r.refusal
  pub event-configuration : (r : Received) → (received_left r).configuration ≡ configuration_bytes r.configuration
  pub run-refusal : (r : Ran) (out : List ℕ) → (ran_left r out).refusal ≡ r.refusal
  pub run-configuration : (r : Ran) (out : List ℕ) → (ran_left r out).configuration ≡ configuration_bytes r.configuration
  pub run-output : (r : Ran) (out : List ℕ) → (ran_left r out).output ≡ out

-- over a list of clients: the refusal, the list and a day's output as they are, the answer at the
-- header's places
pub record LeftForAsAnswered (record-bytes t : List ℕ) (cs : List Configuration) : Type 0 where
  pub event-refusal : (i e : ℕ) → (receive_for_leaves record-bytes t cs i e).refusal
      ≡ receive_for_refusal (automaton_of record-bytes) t cs i e
  pub event-list : (i e : ℕ) → (receive_for_leaves record-bytes t cs i e).configurations
      ≡ received_clients (automaton_of record-bytes) t cs i e
  pub event-answer : (i e : ℕ) → let r = received_for (automaton_of record-bytes) t cs i e in
      ReceivedIn r.emitted r.count r.winning r.places (receive_for_leaves record-bytes t cs i e).answer
  pub run-refusal : (vs out : List ℕ) → (run_for_leaves record-bytes t cs vs out).refusal
      ≡ run_for_refusal (automaton_of record-bytes) t cs vs out
  pub run-list : (vs out : List ℕ) → (run_for_leaves record-bytes t cs vs out).configurations
      ≡ ran_clients (automaton_of record-bytes) t cs vs out
  pub run-answer : (vs out : List ℕ) → let r = ran_for (automaton_of record-bytes) t cs vs out in
      RanIn r.length r.refused (run_for_leaves record-bytes t cs vs out).answer
  pub run-output : (vs out : List ℕ) → (run_for_leaves record-bytes t cs vs out).output
      ≡ ran_for_buffer (automaton_of record-bytes) t cs vs out
  -- refused, everything lent stays, and of the answer every byte is 0
  pub event-refused : (i e : ℕ) → ((receive_for_leaves record-bytes t cs i e).refusal ≡ 0 → ⊥)
      → ((receive_for_leaves record-bytes t cs i e).configurations ≡ cs)
      × ((receive_for_leaves record-bytes t cs i e).answer ≡ replicate received_size 0)
  pub run-refused : (vs out : List ℕ) → ((run_for_leaves record-bytes t cs vs out).refusal ≡ 0 → ⊥)
      → let x = run_for_leaves record-bytes t cs vs out in
      (x.configurations ≡ cs) × (x.answer ≡ replicate ran_size 0) × (x.output ≡ out)

-- one record of the feed, lent the bytes of an expected serial
pub record FedAsAnswered (record-bytes t : List ℕ) (cs : List Configuration) (s lent : List ℕ) : Type 0 where
  pub refusal : (feed_leaves record-bytes t cs s lent).refusal ≡ feed_refusal (automaton_of record-bytes) t cs s (expected_of lent)
  pub list : (feed_leaves record-bytes t cs s lent).configurations
      ≡ fed_clients (automaton_of record-bytes) t cs s (expected_of lent)
  pub answer : FedIn (fed_for (automaton_of record-bytes) t cs s (expected_of lent)) (feed_leaves record-bytes t cs s lent).answer
  -- refused before its event is looked at, the bytes of the expected serial stay as they were,
  -- whatever they were, and of the loss every byte is 0
  pub kept : (entry_refusal (automaton_of record-bytes) t (length cs) s (expected_of lent) ≡ 0 → ⊥)
      → ((feed_leaves record-bytes t cs s lent).expected ≡ lent)
      × (part fed_loss number_size (feed_leaves record-bytes t cs s lent).answer ≡ replicate number_size 0)
  -- let in: 1 and the serial that follows, refused then or not
  pub next : entry_refusal (automaton_of record-bytes) t (length cs) s (expected_of lent) ≡ 0
      → (serial client symbol : ℕ) → InTime s (expected_of lent) serial client symbol
      → (feed_leaves record-bytes t cs s lent).expected ≡ 1 ∷ following serial % 256 ∷ following serial / 256 ∷ []
  -- so the next call takes out of them what this one answered
  pub handed_on : expected_of (feed_leaves record-bytes t cs s lent).expected
      ≡ (fed_for (automaton_of record-bytes) t cs s (expected_of lent)).expected
  -- refused, the list stays, and of the event's answer every byte is 0
  pub refused : ((feed_leaves record-bytes t cs s lent).refusal ≡ 0 → ⊥)
      → ((feed_leaves record-bytes t cs s lent).configurations ≡ cs)
      × (take received_size (feed_leaves record-bytes t cs s lent).answer ≡ replicate received_size 0)

abbrev pub FeedLeftAsAnswered : Type 0
FeedLeftAsAnswered =
    (record-bytes t : List ℕ) (cs : List Configuration) (s lent : List ℕ) → length lent ≡ expected_size
    → FedAsAnswered record-bytes t cs s lent

abbrev pub ClientsLeftAsAnswered : Type 0
ClientsLeftAsAnswered = (record-bytes t : List ℕ) (cs : List Configuration) → LeftForAsAnswered record-bytes t cs

-- a refused call leaves the lent configuration as it was, and a day its output; of its answer
-- every byte is 0
abbrev pub RefusedInitialKeeps : Type 0
RefusedInitialKeeps =
    (record-bytes lent : List ℕ) → ((initial_answer (automaton_of record-bytes)).refusal ≡ 0 → ⊥)
    → initial_bytes record-bytes lent ≡ lent

abbrev pub RefusedEventKeeps : Type 0
RefusedEventKeeps =
    (record-bytes t c : List ℕ) (e : ℕ) → length c ≡ configuration_size → Bytes c
    → ((received (automaton_of record-bytes) t (configuration_of c) e).refusal ≡ 0 → ⊥)
    → let x = receive_leaves record-bytes t c e in
    (x.configuration ≡ c) × (x.answer ≡ replicate received_size 0)

abbrev pub RefusedRunKeeps : Type 0
RefusedRunKeeps =
    (record-bytes t c events out : List ℕ) → length c ≡ configuration_size → Bytes c
    → ((ran (automaton_of record-bytes) t (configuration_of c) events out).refusal ≡ 0 → ⊥)
    → let x = run_leaves record-bytes t c events out in
    (x.configuration ≡ c) × (x.answer ≡ replicate ran_size 0) × (x.output ≡ out)

-- what a call hands back is what the next call takes out of the lent bytes, so a list of calls
-- over lent bytes is that list of calls
abbrev pub InitialHandedOn : Type 0
InitialHandedOn =
    (record-bytes lent : List ℕ) → (initial_answer (automaton_of record-bytes)).refusal ≡ 0
    → configuration_of (initial_bytes record-bytes lent) ≡ initial_of (automaton_of record-bytes)

abbrev pub EventHandedOn : Type 0
EventHandedOn =
    (record-bytes t c : List ℕ) (e : ℕ) → length c ≡ configuration_size → Bytes c
    → configuration_of (receive_leaves record-bytes t c e).configuration
    ≡ (received (automaton_of record-bytes) t (configuration_of c) e).configuration

abbrev pub RunHandedOn : Type 0
RunHandedOn =
    (record-bytes t c events out : List ℕ) → length c ≡ configuration_size → Bytes c
    → configuration_of (run_leaves record-bytes t c events out).configuration
    ≡ (ran (automaton_of record-bytes) t (configuration_of c) events out).configuration

-- the record that a call leaves is what the next call takes out of its bytes, refused or not
pub record AutomataHandedOn : Type 0 where
  pub read : (bytes : List ℕ) → let a = (parse bytes).automaton in automaton_of (automaton_bytes a) ≡ a
  pub product : (a b : Automaton) → let c = (product_answer a b).automaton in automaton_of (automaton_bytes c) ≡ c

-- a refused call that answers with an automaton's record leaves 0 in each of its bytes (document
-- 02, Card 6)
pub record RefusedAutomataZero : Type 0 where
  pub read : (bytes : List ℕ) → ((parse bytes).refusal ≡ 0 → ⊥)
      → automaton_bytes (parse bytes).automaton ≡ replicate automaton_size 0
  pub product : (a b : Automaton) → ((product_answer a b).refusal ≡ 0 → ⊥)
      → automaton_bytes (product_answer a b).automaton ≡ replicate automaton_size 0
