-- What is proved of the calls over a list of clients: what a client receives depends on nothing of
-- the others; and the rows, the lent list and the lent output in document 02's words.
use Rattle.std.specs.Prelude.{ℕ, zero, suc, ◌+◌, ◌*◌, ◌<◌, ◌≤◌, ◌≡◌, ◌⊎◌, ◌↔◌, true, false, cond, List, [], ◌∷◌, ◌++◌, map, length, get_or, take, drop, eqb}
use Rattle.base.specs.All.{AllOf}
use Rattle.base.specs.Pad.{UsedTo}
use Rattle.automaton.specs.declared.Automaton.{Automaton}
use Rattle.automaton.specs.Automaton.{valid}
use Rattle.solver_sets.specs.Table.{short}
use Rattle.configuration_places.specs.Places.{input_number}
use Rattle.configuration.specs.declared.Configuration.{Configuration}
use Rattle.configuration.specs.Configuration.{held_events, consistent}
use Rattle.monitor_rule.specs.Claims.{Unknown, Full, Shut, CountEnded, Admitted, Tabled, Opened}
use Rattle.monitor_answers.specs.declared.Received.{Received}
use Rattle.monitor_answers.specs.Answers.{received}
use Rattle.clients_answers.specs.declared.ReceivedFor.{ReceivedFor}
use Rattle.clients_answers.specs.Listed.{outcome, changed, outcomes, changed_by, events_of, part_of}
use Rattle.clients_answers.specs.Clients.{none, named, Outcome, monitored, emitted_of, held_in, held_in_all}
use Rattle.clients_answers.specs.Clients.{receive_for_refusal, refused_for, received_for, answer_of, received_clients}
use Rattle.clients_answers.specs.Clients.{run_for_refusal, day_outcomes, refused_run_for, ran_for, ran_clients, ran_for_buffer}

-- Two days over one automaton, table (of any contents) and count, neither refused by 16, in which
-- a client begins with the same configuration (also one that row 13 refuses) and has the same
-- events, wherever it and they stand: the day is refused by the same row or by none, each of the
-- client's events brings the same row and emits the same, and its last configuration is the same.
pub record SameForClient (a : Automaton) (t : List ℕ) (cs : List Configuration) (vs out : List ℕ) (g : ℕ)
    (ds : List Configuration) (ws out' : List ℕ) (h : ℕ) : Type 0 where
  pub refusal : run_for_refusal a t cs vs out ≡ run_for_refusal a t ds ws out'
  pub part : part_of g (named vs) (day_outcomes a t cs vs out) ≡ part_of h (named ws) (day_outcomes a t ds ws out')
  pub last : get_or (ran_clients a t cs vs out) g none ≡ get_or (ran_clients a t ds ws out') h none

abbrev pub Noninterference : Type 0
Noninterference =
    (a : Automaton) (t : List ℕ) (cs ds : List Configuration) (vs ws out out' : List ℕ) (g h : ℕ)
    → length cs ≡ length ds → g < length cs → h < length ds
    → get_or cs g none ≡ get_or ds h none → events_of g (named vs) ≡ events_of h (named ws)
    → (run_for_refusal a t cs vs out ≡ 16 → ⊥) → (run_for_refusal a t ds ws out' ≡ 16 → ⊥)
    → SameForClient a t cs vs out g ds ws out' h

-- One event for a client: the same whole answer, and the same configuration after it.
abbrev pub EventNoninterference : Type 0
EventNoninterference =
    (a : Automaton) (t : List ℕ) (cs ds : List Configuration) (g h e : ℕ)
    → length cs ≡ length ds → g < length cs → h < length ds → get_or cs g none ≡ get_or ds h none
    → (received_for a t cs g e ≡ received_for a t ds h e)
    × (get_or (received_clients a t cs g e) g none ≡ get_or (received_clients a t ds h e) h none)

-- The lent list afterwards: one event changes its client's configuration alone, and a refused
-- event or call nothing.
pub record Kept (a : Automaton) (t : List ℕ) (cs : List Configuration) : Type 0 where
  pub others : (i e g : ℕ) → (g ≡ i → ⊥) → get_or (received_clients a t cs i e) g none ≡ get_or cs g none
  pub refused-event : (i e : ℕ) → (receive_for_refusal a t cs i e ≡ 0 → ⊥) → received_clients a t cs i e ≡ cs
  -- inside a day it is passed over
  pub passed_over : (i e : ℕ) → ((outcome (monitored a t) cs i e).refusal ≡ 0 → ⊥)
      → (changed (monitored a t) cs i e ≡ cs) × ((outcome (monitored a t) cs i e).emitted ≡ [])
  pub refused-day : (vs out : List ℕ) → (run_for_refusal a t cs vs out ≡ 0 → ⊥) → ran_clients a t cs vs out ≡ cs
  -- and its output
  pub refused-output : (vs out : List ℕ) → (run_for_refusal a t cs vs out ≡ 0 → ⊥) → ran_for_buffer a t cs vs out ≡ out
  -- a refused event's whole answer, and a refused day's: the row, and zeros
  pub refused-answer : (i e : ℕ) → (receive_for_refusal a t cs i e ≡ 0 → ⊥)
      → received_for a t cs i e ≡ refused_for (receive_for_refusal a t cs i e)
  pub refused-ran : (vs out : List ℕ) → (run_for_refusal a t cs vs out ≡ 0 → ⊥)
      → ran_for a t cs vs out ≡ refused_run_for (run_for_refusal a t cs vs out)
  -- a client without an event in a day
  pub without : (vs out : List ℕ) (g : ℕ) → g < length cs → events_of g (named vs) ≡ []
      → get_or (ran_clients a t cs vs out) g none ≡ get_or cs g none
  pub count-event : (i e : ℕ) → length (received_clients a t cs i e) ≡ length cs
  pub count-day : (vs out : List ℕ) → length (ran_clients a t cs vs out) ≡ length cs

abbrev pub OthersKept : Type 0
OthersKept = (a : Automaton) (t : List ℕ) (cs : List Configuration) → Kept a t cs

-- row 20: a list of none, or of over 500
abbrev pub WrongCount : ℕ → Type 0
WrongCount count = (count ≡ 0) ⊎ (500 < count)

abbrev pub RightCount : ℕ → Type 0
RightCount count = (0 < count) × (count ≤ 500)

-- rows 11, 12 and 20, the same for every call over a list; n is the number that it gives
pub record ListRows (a : Automaton) (t : List ℕ) (count n : ℕ) : Type 0 where
  pub row_11 : (n ≡ 11) ↔ (valid a ≡ false)
  pub row_12 : (n ≡ 12) ↔ ((valid a ≡ true) × (short a t ≡ true))
  pub row-20 : (n ≡ 20) ↔ ((valid a ≡ true) × (short a t ≡ false) × WrongCount count)

-- none of them holds
pub record ListClear (a : Automaton) (t : List ℕ) (count : ℕ) : Type 0 where
  pub record_valid : valid a ≡ true
  pub table-long : short a t ≡ false
  pub count-right : RightCount count

-- The rows of an event for a client, n being the number that it gives, and P saying that no row
-- before these holds: 19, then 13 of that client's configuration alone, then 14, 15 and 23.
-- Whether the newcomer opens that client's full buffer is read from the bits of the table, solved
-- or not.
pub record ClientRows (P : Type 0) (a : Automaton) (t : List ℕ) (cs : List Configuration) (i e n : ℕ) : Type 0 where
  pub row-19 : (n ≡ 19) ↔ (P × (length cs ≤ i))
  pub row-13 : (n ≡ 13) ↔ (P × (i < length cs) × (consistent a (get_or cs i none) ≡ false))
  pub row-14 : (n ≡ 14) ↔ (P × (i < length cs) × (consistent a (get_or cs i none) ≡ true) × Unknown a e)
  pub row-15 : let c = get_or cs i none in
      (n ≡ 15) ↔ (P × (i < length cs) × (consistent a c ≡ true) × Shut (Tabled a t) a c.state (held_events c) e)
  pub row-23 : let c = get_or cs i none in
      (n ≡ 23)
      ↔ (P × (i < length cs) × (consistent a c ≡ true)
      × CountEnded (Tabled a t) a c.state (held_events c) (input_number c.received) e)
  pub accepted : let c = get_or cs i none in
      (n ≡ 0)
      ↔ (P × (i < length cs) × (consistent a c ≡ true)
      × Admitted (Tabled a t) a c.state (held_events c) (input_number c.received) e)

-- the sum over the numbers below n
unfoldable pub sum_below : ℕ → (ℕ → ℕ) → ℕ
sum_below zero f = 0
sum_below (suc n) f = sum_below n f + f n

-- what all of a list hold together
abbrev pub holds : Automaton → List Configuration → ℕ
holds a cs = sum_below (length cs) (λ g. held_in a (get_or cs g none))

pub record RowsOf (a : Automaton) (t : List ℕ) (cs : List Configuration) : Type 0 where
  -- one event
  pub event-first : (i e : ℕ) → ListRows a t (length cs) (receive_for_refusal a t cs i e)
  pub event : (i e : ℕ) → ClientRows (ListClear a t (length cs)) a t cs i e (receive_for_refusal a t cs i e)
  pub answered : (i e : ℕ) → (received_for a t cs i e).refusal ≡ receive_for_refusal a t cs i e
  -- a day
  pub day-first : (vs out : List ℕ) → ListRows a t (length cs) (run_for_refusal a t cs vs out)
  pub row-16 : (vs out : List ℕ)
      → (run_for_refusal a t cs vs out ≡ 16) ↔ (ListClear a t (length cs) × (length out < length vs + holds a cs))
  pub accepted : (vs out : List ℕ)
      → (run_for_refusal a t cs vs out ≡ 0) ↔ (ListClear a t (length cs) × (length vs + holds a cs ≤ length out))
  pub day-answered : (vs out : List ℕ) → (ran_for a t cs vs out).refusal ≡ run_for_refusal a t cs vs out
  -- each event inside a day
  pub inside : (i e : ℕ) → ClientRows (Unit {0}) a t cs i e (outcome (monitored a t) cs i e).refusal
  -- a configuration that 13 refuses counts as holding nothing
  pub broken : (c : Configuration) → consistent a c ≡ false → held_in a c ≡ 0
  pub holding : (c : Configuration) → consistent a c ≡ true → held_in a c ≡ c.held
  pub together : held_in_all a cs ≡ holds a cs

abbrev pub ClientRowsAsWorded : Type 0
ClientRowsAsWorded = (a : Automaton) (t : List ℕ) (cs : List Configuration) → RowsOf a t cs

-- The room: what is emitted and what is held then are never more than the events and what was
-- held; so an output that 16 lets pass has room for all that a day writes.
pub record Room (a : Automaton) (t : List ℕ) (cs : List Configuration) : Type 0 where
  pub fits : (xs : List (ℕ × ℕ))
      → length (emitted_of (outcomes (monitored a t) cs xs)) + held_in_all a (changed_by (monitored a t) cs xs)
      ≤ length xs + held_in_all a cs
  pub written : (vs out : List ℕ) → (ran_for a t cs vs out).length ≤ length out
  pub output-length : (vs out : List ℕ) → length (ran_for_buffer a t cs vs out) ≡ length out

abbrev pub RoomSuffices : Type 0
RoomSuffices = (a : Automaton) (t : List ℕ) (cs : List Configuration) → Room a t cs

-- what an answer tells of its event: the row, what was emitted, and the places of that
abbrev pub outcome_of : ReceivedFor → Outcome
outcome_of r =
    record {
      refusal = r.refusal;
      emitted = take r.count r.emitted;
      sources = take r.count (map input_number r.places);
    }

-- One event for a client is the call on its configuration alone: the same answer, and the
-- configuration handed back lies in the list; and inside a day it brings the same row and emits
-- the same from the same places.
pub record AsReceived (a : Automaton) (t : List ℕ) (cs : List Configuration) (i e : ℕ) (r : Received) : Type 0 where
  pub answer : received_for a t cs i e ≡ answer_of r
  pub next : get_or (received_clients a t cs i e) i none ≡ r.configuration
  pub inside : outcome (monitored a t) cs i e ≡ outcome_of (answer_of r)

abbrev pub EventsAlone : Type 0
EventsAlone =
    (a : Automaton) (t : List ℕ) (cs : List Configuration) → ListClear a t (length cs) → (i e : ℕ) → i < length cs
    → AsReceived a t cs i e (received a t (get_or cs i none) e)

-- The answer to an event that a client's full buffer accepts (document 02, Card 5): the longest
-- front part with which the newcomer opens that buffer is put out, what is left is held in the
-- client's configuration afterwards, and that is winning, whatever the table.
pub record ClientOpened (a : Automaton) (t : List ℕ) (cs : List Configuration) (i e : ℕ) : Type 0 where
  pub opened : let c = get_or cs i none in
      let r = received_for a t cs i e in
      let d = get_or (received_clients a t cs i e) i none in
      Opened (Tabled a t) a c.state (held_events c) e (take r.count r.emitted) (held_events d) d.state
  pub winning : (received_for a t cs i e).winning ≡ true

abbrev pub ClientsOpened : Type 0
ClientsOpened =
    (a : Automaton) (t : List ℕ) (cs : List Configuration) (i e : ℕ) → receive_for_refusal a t cs i e ≡ 0
    → Full a (held_events (get_or cs i none)) e → ClientOpened a t cs i e

-- an event's answer, refused or not, has seven places for what is emitted, and as many for its
-- places in the input; those past the count hold 0
abbrev pub ClientsEmittedPadded : Type 0
ClientsEmittedPadded =
    (a : Automaton) (t : List ℕ) (cs : List Configuration) (i e : ℕ) → let r = received_for a t cs i e in
    (r.count ≤ 7) × UsedTo 7 r.count r.emitted × UsedTo 7 r.count (map input_number r.places)

-- a day's events brought one by one, by calls of their own: their answers, and the list afterwards
unfoldable pub answers : Automaton → List ℕ → List Configuration → List (ℕ × ℕ) → List ReceivedFor
answers a t cs [] = []
answers a t cs (x ∷ xs) = received_for a t cs x.0 x.1 ∷ answers a t (received_clients a t cs x.0 x.1) xs

unfoldable pub clients_after : Automaton → List ℕ → List Configuration → List (ℕ × ℕ) → List Configuration
clients_after a t cs [] = cs
clients_after a t cs (x ∷ xs) = clients_after a t (received_clients a t cs x.0 x.1) xs

-- what they emitted, end to end, and how many of them were refused
unfoldable pub all_emitted : List ReceivedFor → List ℕ
all_emitted [] = []
all_emitted (r ∷ rs) = take r.count r.emitted ++ all_emitted rs

unfoldable pub all_refused : List ReceivedFor → ℕ
all_refused [] = 0
all_refused (r ∷ rs) = cond (eqb r.refusal 0) 0 1 + all_refused rs

-- A day that is not refused as a whole is its events: the list afterwards, what each brings, the
-- bytes and the count are theirs.
pub record AsEvents (a : Automaton) (t : List ℕ) (cs : List Configuration) (vs out : List ℕ) : Type 0 where
  pub clients : ran_clients a t cs vs out ≡ clients_after a t cs (named vs)
  pub each : day_outcomes a t cs vs out ≡ map outcome_of (answers a t cs (named vs))
  pub ran : let rs = answers a t cs (named vs) in
      ran_for a t cs vs out ≡ record { refusal = 0; length = length (all_emitted rs); refused = all_refused rs }
  pub output : let bytes = all_emitted (answers a t cs (named vs)) in
      ran_for_buffer a t cs vs out ≡ bytes ++ drop (length bytes) out

abbrev pub DaysAsEvents : Type 0
DaysAsEvents =
    (a : Automaton) (t : List ℕ) (cs : List Configuration) (vs out : List ℕ)
    → run_for_refusal a t cs vs out ≡ 0 → AsEvents a t cs vs out

-- Where a client's outputs lie in a day's bytes: what an event emits stands right behind what the
-- events before it emitted.
abbrev pub BytesPlaced : Type 0
BytesPlaced =
    (a : Automaton) (t : List ℕ) (cs : List Configuration) (vs out : List ℕ) → run_for_refusal a t cs vs out ≡ 0
    → (before : List (ℕ × ℕ)) (x : ℕ × ℕ) (after : List (ℕ × ℕ)) → named vs ≡ before ++ x ∷ after
    → let o = outcome (monitored a t) (changed_by (monitored a t) cs before) x.0 x.1 in
    take (length o.emitted)
    (drop (length (emitted_of (outcomes (monitored a t) cs before))) (ran_for_buffer a t cs vs out))
    ≡ o.emitted

-- The numbers in a day's list are client * 65,536 + symbol, each.
abbrev pub NumbersAsWorded : Type 0
NumbersAsWorded =
    (vs : List ℕ) → (map (λ (x : ℕ × ℕ). x.0 * 65536 + x.1) (named vs) ≡ vs) × AllOf (λ (x : ℕ × ℕ). x.1 < 65536) (named vs)
