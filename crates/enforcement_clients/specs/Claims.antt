-- Demand 3 over a list of clients (document 02, Cards 1, 3 and 4), and noninterference over lists
-- of calls: events, days and records of the feed.
use Rattle.std.specs.Prelude.{ℕ, ◌<◌, ◌≤◌, min, ◌≡◌, true, List, [], ◌∷◌, ◌++◌, map, length, get_or, take}
use Rattle.base.specs.All.{AllOf}
use Rattle.automaton.specs.declared.Automaton.{Automaton}
use Rattle.automaton.specs.Automaton.{valid}
use Rattle.solver_sets.specs.Table.{short, Solved}
use Rattle.solver_answers.specs.Solving.{solve_refusal, solved_table}
use Rattle.configuration_places.specs.Places.{input_number, output_number}
use Rattle.configuration.specs.declared.Configuration.{Configuration}
use Rattle.configuration.specs.Configuration.{held_events, place_numbers, initial_of, consistent}
use Rattle.monitor_rule.specs.Claims.{Full}
use Rattle.monitor_answers.specs.Answers.{is_winning, status}
use Rattle.enforcement.specs.Store.{Store, empty, store, store_all}
use Rattle.enforcement.specs.Calls.{receive_call, configuration_after, configuration_at}
use Rattle.enforcement.specs.Moments.{Moment, emitted_at, sources_at, moments}
use Rattle.enforcement.specs.Places.{event_at, Traced, Answered}
use Rattle.enforcement.specs.Claims.{Enforced, winning_after, Stays, LongerIsLost}
use Rattle.enforcement.specs.Answers.{SaysWinning, SameBits}
use Rattle.clients_answers.specs.Listed.{events_of, part_of}
use Rattle.clients_answers.specs.Clients.{none, initial_clients, named, list_refusal, Outcome, monitored, emitted_of}
use Rattle.clients_answers.specs.Clients.{received_for, received_clients, run_for_refusal, day_outcomes}
use Rattle.clients_answers.specs.Claims.{outcome_of}
use Rattle.feed_record.specs.declared.Expected.{Expected}
use Rattle.feed_record.specs.Claims.{InTime}
use Rattle.feed_answers.specs.Feed.{entry_refusal, fed_for}
use Rattle.enforcement_clients.specs.ClientCalls.{ClientCall, receive_for, run_for, feed_for, lent_by}
use Rattle.enforcement_clients.specs.ClientCalls.{reply, leaves, replies, leaves_all, own_all, seen_all, moments_of}
use Rattle.enforcement_clients.specs.Functions.{Functions, unfed, fed_in, expected_in, expected_all, fed_all}
use Rattle.enforcement_clients.specs.Functions.{events_to, refusals_of, configurations_at}

-- Calls one after the other, s being what they begin with: to each is said what `one` says over
-- what those before it left, `next` after `next`.
pub record InTurn {S O : Type 0} (one : S → ClientCall → O) (next : S → ClientCall → S)
    (all : S → List ClientCall → List O) (last : S → List ClientCall → S) (s : S) : Type 0 where
  pub none_said : all s [] ≡ []
  pub one-said : (x : ClientCall) → all s (x ∷ []) ≡ one s x ∷ []
  pub more-said : (xs ys : List ClientCall) → all s (xs ++ ys) ≡ all s xs ++ all (last s xs) ys
  pub none_left : last s [] ≡ s
  pub one_left : (x : ClientCall) → last s (x ∷ []) ≡ next s x
  pub more_left : (xs ys : List ClientCall) → last s (xs ++ ys) ≡ last (last s xs) ys

-- so are they answered, over the configurations ..
abbrev pub AnsweredInTurn : Type 0
AnsweredInTurn =
    (a : Automaton) (t : List ℕ) (cs : List Configuration) → InTurn (reply a t) (leaves a t) (replies a t) (leaves_all a t) cs

-- .. and by the functions. (A call lends what it says, or all there are.)
abbrev pub ExpectedInTurn : Type 0
ExpectedInTurn =
    (a : Automaton) (count : ℕ) (ss : Functions)
    → InTurn (λ fs x. expected_in a (min (lent_by x) count) fs x) (λ fs x. fed_in a (min (lent_by x) count) fs x)
    (expected_all a count) (fed_all a count) ss

-- The events that a list of calls brings a client, in words: of each call that no row refuses as a
-- whole and that lends the client's configuration, the client's own events, in their order.
pub record EventsBrought (a : Automaton) (t : List ℕ) (cs : List Configuration) (g : ℕ) : Type 0 where
  pub nothing : own_all a t cs g [] ≡ []
  pub first : (x : ClientCall) (xs : List ClientCall)
      → own_all a t cs g (x ∷ xs) ≡ own_all a t cs g (x ∷ []) ++ own_all a t (leaves a t cs x) g xs
  pub own-event : (n e : ℕ) → list_refusal a t (length (take n cs)) ≡ 0 → g < length (take n cs)
      → own_all a t cs g (receive_for n g e ∷ []) ≡ e ∷ []
  pub other-event : (n i e : ℕ) → (i ≡ g → ⊥) → own_all a t cs g (receive_for n i e ∷ []) ≡ []
  pub day : (n : ℕ) (vs out : List ℕ) → run_for_refusal a t (take n cs) vs out ≡ 0 → g < length (take n cs)
      → own_all a t cs g (run_for n vs out ∷ []) ≡ events_of g (named vs)
  -- a record of the feed: one that is let in, of this client or another
  pub own-record : (n : ℕ) (s : List ℕ) (x : Expected) (serial e : ℕ) → list_refusal a t (length (take n cs)) ≡ 0
      → g < length (take n cs) → InTime s x serial g e → own_all a t cs g (feed_for n s x ∷ []) ≡ e ∷ []
  pub other-record : (n : ℕ) (s : List ℕ) (x : Expected) (serial i e : ℕ) → (i ≡ g → ⊥) → InTime s x serial i e
      → own_all a t cs g (feed_for n s x ∷ []) ≡ []
  pub refused-event : (n i e : ℕ) → (list_refusal a t (length (take n cs)) ≡ 0 → ⊥)
      → own_all a t cs g (receive_for n i e ∷ []) ≡ []
  pub refused-day : (n : ℕ) (vs out : List ℕ) → (run_for_refusal a t (take n cs) vs out ≡ 0 → ⊥)
      → own_all a t cs g (run_for n vs out ∷ []) ≡ []
  pub refused-record : (n : ℕ) (s : List ℕ) (x : Expected) → (entry_refusal a t (length (take n cs)) s x ≡ 0 → ⊥)
      → own_all a t cs g (feed_for n s x ∷ []) ≡ []
  pub not-lent : (x : ClientCall) → length (take (lent_by x) cs) ≤ g → own_all a t cs g (x ∷ []) ≡ []

abbrev pub EventsBroughtAsWorded : Type 0
EventsBroughtAsWorded = (a : Automaton) (t : List ℕ) (cs : List Configuration) (g : ℕ) → EventsBrought a t cs g

-- what comes of a client's events in a list of calls, one by one
unfoldable pub outcomes_to : Automaton → List ℕ → List Configuration → ℕ → List ClientCall → List Outcome
outcomes_to a t = seen_all a t (monitored a t).says (monitored a t).absent

-- It is what the calls answer: to an event, or to a record that brings it, the row and the symbols
-- of its answer with their places; in a day the client's part of what the day's events bring.
pub record OutcomesAnswered (a : Automaton) (t : List ℕ) (cs : List Configuration) (g : ℕ) : Type 0 where
  pub nothing : outcomes_to a t cs g [] ≡ []
  pub first : (x : ClientCall) (xs : List ClientCall)
      → outcomes_to a t cs g (x ∷ xs) ≡ outcomes_to a t cs g (x ∷ []) ++ outcomes_to a t (leaves a t cs x) g xs
  pub event : (n e : ℕ) → list_refusal a t (length (take n cs)) ≡ 0 → g < length (take n cs)
      → outcomes_to a t cs g (receive_for n g e ∷ []) ≡ outcome_of (received_for a t (take n cs) g e) ∷ []
  pub day : (n : ℕ) (vs out : List ℕ) → g < length (take n cs)
      → outcomes_to a t cs g (run_for n vs out ∷ []) ≡ part_of g (named vs) (day_outcomes a t (take n cs) vs out)
  pub fed : (n : ℕ) (s : List ℕ) (x : Expected) (serial e : ℕ) → list_refusal a t (length (take n cs)) ≡ 0
      → g < length (take n cs) → InTime s x serial g e
      → outcomes_to a t cs g (feed_for n s x ∷ []) ≡ outcome_of (fed_for a t (take n cs) s x).answer ∷ []

abbrev pub OutcomesAsAnswered : Type 0
OutcomesAsAnswered = (a : Automaton) (t : List ℕ) (cs : List Configuration) (g : ℕ) → OutcomesAnswered a t cs g

-- Two lists of calls, events, days and records mixed, over one automaton and table (of any
-- contents), that bring a client with the same configuration the same events: each of them brings
-- the same row and emits the same from the same places, and the last configuration is the same.
abbrev pub CallsNoninterference : Type 0
CallsNoninterference =
    (a : Automaton) (t : List ℕ) (cs ds : List Configuration) (xs ys : List ClientCall) (g h : ℕ)
    → g < length cs → h < length ds → get_or cs g none ≡ get_or ds h none → own_all a t cs g xs ≡ own_all a t ds h ys
    → (outcomes_to a t cs g xs ≡ outcomes_to a t ds h ys)
    × (get_or (leaves_all a t cs xs) g none ≡ get_or (leaves_all a t ds ys) h none)

-- Nothing of a table is read but its bits below n at each buffer's S: over any table, any
-- configurations and any calls.
abbrev pub ClientsOthersIgnored : Type 0
ClientsOthersIgnored =
    (a : Automaton) (t u : List ℕ) → short a t ≡ short a u → SameBits a t u → (cs : List Configuration) (calls : List ClientCall)
    → (replies a t cs calls ≡ replies a u cs calls) × (leaves_all a t cs calls ≡ leaves_all a u cs calls)

-- What is said of a client's winning, from any configurations. Over any table: what an accepted
-- event's answer says is what `status` answers for the configuration that it leaves.
abbrev pub ClientsFlagIsStatus : Type 0
ClientsFlagIsStatus =
    (a : Automaton) (t : List ℕ) (cs : List Configuration) (g e : ℕ) → (received_for a t cs g e).refusal ≡ 0
    → status a t (get_or (received_clients a t cs g e) g none)
    ≡ record { refusal = 0; winning = (received_for a t cs g e).winning }

-- Over a solved table: once `status` answers winning for a client, it does so after any calls on
-- the list, and so does each event of that client that is accepted then.
pub record ClientSaysWinning (a : Automaton) (t : List ℕ) (cs : List Configuration) (g : ℕ) : Type 0 where
  pub told : (status a t (get_or cs g none)).winning ≡ true
  pub flagged : (e : ℕ) → (received_for a t cs g e).refusal ≡ 0 → (received_for a t cs g e).winning ≡ true

abbrev pub ClientsFlagStays : Type 0
ClientsFlagStays =
    (a : Automaton) (t : List ℕ) → Solved a t → (cs : List Configuration) (g : ℕ) → g < length cs
    → (status a t (get_or cs g none)).winning ≡ true
    → (calls : List ClientCall) → ClientSaysWinning a t (leaves_all a t cs calls) g

-- A client, from the initial configurations over a solved table: its function has been fed its own
-- events and nothing else; each of them is refused by the function's row or by none; what the
-- client received, end to end, is its function's output, and its configuration the one that its
-- function stands for; its accepted events, as they are met in the list, are those of the same
-- events brought to a monitor of its own; and so all of demand 3 holds of them: accepted alone,
-- winning stays, the rival.
pub record OwnEnforced (a : Automaton) (t : List ℕ) (count : ℕ) (calls : List ClientCall) (g : ℕ) : Type 0 where
  pub function : fed_all a count unfed calls g ≡ store_all a empty (events_to a count unfed g calls)
  pub brought : own_all a t (initial_clients a count) g calls ≡ events_to a count unfed g calls
  pub rows : map (λ (x : Outcome). x.refusal) (outcomes_to a t (initial_clients a count) g calls)
      ≡ refusals_of a empty (events_to a count unfed g calls)
  pub received : emitted_of (outcomes_to a t (initial_clients a count) g calls) ≡ (fed_all a count unfed calls g).output
  pub last : get_or (leaves_all a t (initial_clients a count) calls) g none ≡ configuration_at a (fed_all a count unfed calls g)
  pub as_alone : get_or (leaves_all a t (initial_clients a count) calls) g none
      ≡ configuration_after a t (initial_of a) (map receive_call (events_to a count unfed g calls))
  pub last-consistent : consistent a (get_or (leaves_all a t (initial_clients a count) calls) g none) ≡ true
  pub same-moments : moments_of a t (initial_clients a count) g calls
      ≡ moments a t (initial_of a) (map receive_call (events_to a count unfed g calls))
  pub enforced : Enforced a t (map receive_call (events_to a count unfed g calls))

-- The same said of the client's accepted events as they are met in the list, s being its function
-- and c its configuration in the end.
pub record MetEnforced (a : Automaton) (t : List ℕ) (ms : List Moment) (s : Store) (c : Configuration) : Type 0 where
  -- fed the accepted events alone, the function ends with the same output and buffer, the same
  -- places of both and the same count
  pub alone : store_all a empty (map (λ (m : Moment). m.event) ms) ≡ s
  pub emitted : emitted_at a t ms ≡ s.output
  -- once winning, winning after each later one, and the output then leads to an accepting state
  pub initially : is_winning a t (initial_of a) ≡ true → Stays a t ms
  pub later : (before : List Moment) (m : Moment) (after : List Moment) → ms ≡ before ++ m ∷ after
      → winning_after a t m ≡ true → Stays a t (m ∷ after)
  -- after one accepted at a full buffer the monitor is winning
  pub opened : (before : List Moment) (m : Moment) (after : List Moment) → ms ≡ before ++ m ∷ after
      → Full a m.position.buffer m.event → Stays a t (m ∷ after)
  -- .. and so the calls on its configuration say
  pub said-initially : is_winning a t (initial_of a) ≡ true → SaysWinning a t c
  pub said : (before : List Moment) (m : Moment) (after : List Moment) → ms ≡ before ++ m ∷ after
      → winning_after a t m ≡ true → SaysWinning a t c
  -- every strategy that emits a longer front part at one of them is lost
  pub strategies : AllOf (LongerIsLost a t) ms

-- What the places mean, of a client of the list cs: they count its own accepted events, ms, and no
-- other's; s is its function. So they do in the answer to an event of that client, and so in the
-- answer to a record of the feed that brings it, which is the same (`FeedAnsweredAsWorded`).
pub record ClientTold (a : Automaton) (t : List ℕ) (cs : List Configuration) (g : ℕ) (ms : List Moment) (s : Store) : Type 0 where
  pub function : Traced (map (λ (m : Moment). m.event) ms) s
  pub traced : sources_at a t ms ≡ s.sources
  pub held : let c = get_or cs g none in
      map (event_at (map (λ (m : Moment). m.event) ms)) (take c.held (place_numbers c)) ≡ held_events c
  pub received-count : input_number (get_or cs g none).received ≡ length ms
  pub emitted-count : output_number (get_or cs g none).emitted ≡ length (emitted_at a t ms)
  pub answered : (e : ℕ) → let r = received_for a t cs g e in r.refusal ≡ 0
      → Answered (map (λ (m : Moment). m.event) ms ++ e ∷ []) s (store a s e) r.count r.emitted
      (map input_number r.places)

-- Demand 3 over any list of calls on a list of clients: every call's whole reply is the published
-- functions'; the whole list is what they stand for; each client is enforced; and its places are
-- what they mean.
pub record ClientsEnforced (a : Automaton) (t : List ℕ) (count : ℕ) (calls : List ClientCall) : Type 0 where
  pub each-reply : replies a t (initial_clients a count) calls ≡ expected_all a count unfed calls
  pub last-clients : leaves_all a t (initial_clients a count) calls ≡ configurations_at a count (fed_all a count unfed calls)
  pub own : (g : ℕ) → g < count → OwnEnforced a t count calls g
  pub met : (g : ℕ) → g < count
      → MetEnforced a t (moments_of a t (initial_clients a count) g calls) (fed_all a count unfed calls g)
      (get_or (leaves_all a t (initial_clients a count) calls) g none)
  pub told : (g : ℕ) → g < count
      → ClientTold a t (leaves_all a t (initial_clients a count) calls) g (moments_of a t (initial_clients a count) g calls)
      (fed_all a count unfed calls g)

-- for any count, also one that row 20 refuses
abbrev pub ClientsDemand3 : Type 0
ClientsDemand3 =
    (a : Automaton) (t : List ℕ) → valid a ≡ true → Solved a t → (count : ℕ) (calls : List ClientCall)
    → ClientsEnforced a t count calls

-- over what the solver leaves
abbrev pub ClientsDemand3Solved : Type 0
ClientsDemand3Solved =
    (a : Automaton) (t : List ℕ) → solve_refusal a t ≡ 0 → (count : ℕ) (calls : List ClientCall)
    → ClientsEnforced a (solved_table a t) count calls
