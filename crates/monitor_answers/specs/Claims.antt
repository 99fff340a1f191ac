-- The numbers of refusal of the monitor's calls, as document 01 words their rows: each is given
-- exactly when its row holds and none before it does. And a day is its events.
use Rattle.std.specs.Prelude.{ℕ, ◌+◌, ◌<◌, ◌≤◌, ◌≡◌, ◌↔◌, true, false, cond, List, [], ◌∷◌, ◌++◌, map, length, take, drop, eqb}
use Rattle.base.specs.Pad.{UsedTo}
use Rattle.automaton.specs.declared.Automaton.{Automaton}
use Rattle.automaton.specs.Automaton.{valid}
use Rattle.solver_sets.specs.Table.{short}
use Rattle.configuration_places.specs.Places.{input_number}
use Rattle.configuration.specs.declared.Configuration.{Configuration}
use Rattle.configuration.specs.Configuration.{held_events, consistent}
use Rattle.monitor_rule.specs.Claims.{Unknown, Full, Shut, CountEnded, Admitted, Tabled, Opened}
use Rattle.monitor_answers.specs.declared.Received.{Received}
use Rattle.monitor_answers.specs.Answers.{call_refusal, receive_refusal, received, too_short, run_refusal, ran, ran_buffer}

-- rows 11 to 13, the same for each call; n is the number that it gives
pub record CallRows (a : Automaton) (t : List ℕ) (c : Configuration) (n : ℕ) : Type 0 where
  pub row_11 : (n ≡ 11) ↔ (valid a ≡ false)
  pub row_12 : (n ≡ 12) ↔ ((valid a ≡ true) × (short a t ≡ true))
  pub row-13 : (n ≡ 13) ↔ ((valid a ≡ true) × (short a t ≡ false) × (consistent a c ≡ false))

-- none of them holds
pub record Clear (a : Automaton) (t : List ℕ) (c : Configuration) : Type 0 where
  pub record_valid : valid a ≡ true
  pub table-long : short a t ≡ false
  pub configuration-consistent : consistent a c ≡ true

-- whether a configuration is winning
pub record StatusRows (a : Automaton) (t : List ℕ) (c : Configuration) : Type 0 where
  pub first_rows : CallRows a t c (call_refusal a t c)
  pub accepted : (call_refusal a t c ≡ 0) ↔ Clear a t c

abbrev pub StatusRowsAsWorded : Type 0
StatusRowsAsWorded = (a : Automaton) (t : List ℕ) (c : Configuration) → StatusRows a t c

-- one event; whether the newcomer opens a full buffer is read from the bits of the table, solved
-- or not
pub record ReceiveRows (a : Automaton) (t : List ℕ) (c : Configuration) (e : ℕ) : Type 0 where
  pub first_rows : CallRows a t c (receive_refusal a t c e)
  pub row-14 : (receive_refusal a t c e ≡ 14) ↔ (Clear a t c × Unknown a e)
  pub row-15 : (receive_refusal a t c e ≡ 15) ↔ (Clear a t c × Shut (Tabled a t) a c.state (held_events c) e)
  pub row-23 : (receive_refusal a t c e ≡ 23)
      ↔ (Clear a t c × CountEnded (Tabled a t) a c.state (held_events c) (input_number c.received) e)
  pub accepted : (receive_refusal a t c e ≡ 0)
      ↔ (Clear a t c × Admitted (Tabled a t) a c.state (held_events c) (input_number c.received) e)

abbrev pub ReceiveRowsAsWorded : Type 0
ReceiveRowsAsWorded = (a : Automaton) (t : List ℕ) (c : Configuration) (e : ℕ) → ReceiveRows a t c e

-- The answer to an event that a full buffer accepts (document 02, Card 5): the longest front part
-- with which the newcomer opens the buffer is put out, what is left is held, and the configuration
-- handed back is winning, whatever the table.
pub record OpenedAnswer (a : Automaton) (t : List ℕ) (c : Configuration) (e : ℕ) : Type 0 where
  pub opened : let r = received a t c e in
      Opened (Tabled a t) a c.state (held_events c) e (take r.count r.emitted) (held_events r.configuration)
      r.configuration.state
  pub winning : (received a t c e).winning ≡ true

abbrev pub OpenedAnswers : Type 0
OpenedAnswers =
    (a : Automaton) (t : List ℕ) (c : Configuration) (e : ℕ) → receive_refusal a t c e ≡ 0 → Full a (held_events c) e
    → OpenedAnswer a t c e

-- an event's answer, refused or not, has seven places for what is emitted, and as many for its
-- places in the input; those past the count hold 0
abbrev pub EmittedPadded : Type 0
EmittedPadded =
    (a : Automaton) (t : List ℕ) (c : Configuration) (e : ℕ) → let r = received a t c e in
    (r.count ≤ 7) × UsedTo 7 r.count r.emitted × UsedTo 7 r.count (map input_number r.places)

-- row 16, the published function's too: an output of this size is shorter than events plus held
pub record RoomAsked (size : ℕ) (events : List ℕ) (held : ℕ) : Type 0 where
  pub lacks : (too_short size events held ≡ true) ↔ (size < length events + held)
  pub enough : (too_short size events held ≡ false) ↔ (length events + held ≤ size)

abbrev pub RoomAsWorded : Type 0
RoomAsWorded = (size : ℕ) (events : List ℕ) (held : ℕ) → RoomAsked size events held

-- n is the number of refusal of a day by it
pub record RowOfRun (size : ℕ) (events : List ℕ) (held n : ℕ) : Type 0 where
  pub row-16 : (n ≡ 16) ↔ (size < length events + held)
  pub accepted : (n ≡ 0) ↔ (length events + held ≤ size)

-- a whole day
pub record RunRows (a : Automaton) (t : List ℕ) (c : Configuration) (events out : List ℕ) : Type 0 where
  pub first_rows : CallRows a t c (run_refusal a t c events out)
  pub row-16 : (run_refusal a t c events out ≡ 16) ↔ (Clear a t c × (length out < length events + c.held))
  pub accepted : (run_refusal a t c events out ≡ 0) ↔ (Clear a t c × (length events + c.held ≤ length out))

abbrev pub RunRowsAsWorded : Type 0
RunRowsAsWorded = (a : Automaton) (t : List ℕ) (c : Configuration) (events out : List ℕ) → RunRows a t c events out

-- a day's events brought one by one, by calls of their own, each on what the last one handed back:
-- their answers, and the configuration afterwards
unfoldable pub answers_to : Automaton → List ℕ → Configuration → List ℕ → List Received
answers_to a t c [] = []
answers_to a t c (e ∷ es) = received a t c e ∷ answers_to a t (received a t c e).configuration es

unfoldable pub last_after : Automaton → List ℕ → Configuration → List ℕ → Configuration
last_after a t c [] = c
last_after a t c (e ∷ es) = last_after a t (received a t c e).configuration es

-- what they emitted, end to end, and how many of them were refused
unfoldable pub emitted_in : List Received → List ℕ
emitted_in [] = []
emitted_in (r ∷ rs) = take r.count r.emitted ++ emitted_in rs

unfoldable pub refused_in : List Received → ℕ
refused_in [] = 0
refused_in (r ∷ rs) = cond (eqb r.refusal 0) 0 1 + refused_in rs

-- A day that is not refused as a whole is its events, from any configuration and over any table:
-- the configuration afterwards with places and counts, the bytes and the count are theirs. (So
-- inside a day an event is refused by rows 14, 15 and 23 as it is by itself.)
pub record RunAsEvents (a : Automaton) (t : List ℕ) (c : Configuration) (events out : List ℕ) : Type 0 where
  pub answer : let rs = answers_to a t c events in
      ran a t c events out
      ≡ record { refusal = 0; configuration = last_after a t c events; length = length (emitted_in rs); refused = refused_in rs }
  pub output : let bytes = emitted_in (answers_to a t c events) in ran_buffer a t c events out ≡ bytes ++ drop (length bytes) out

abbrev pub RunsAsEvents : Type 0
RunsAsEvents =
    (a : Automaton) (t : List ℕ) (c : Configuration) (events out : List ℕ) → run_refusal a t c events out ≡ 0
    → RunAsEvents a t c events out
