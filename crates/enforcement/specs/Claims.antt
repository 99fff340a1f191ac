-- Demand 3, as document 01 has it under "One event".
use Rattle.std.specs.Prelude.{ℕ, ◌<◌, ◌≡◌, Bool, true, false, List, [], ◌∷◌, ◌++◌, map, length, take, drop}
use Rattle.base.specs.All.{AllOf}
use Rattle.base.specs.Masks.{has}
use Rattle.automaton.specs.declared.Automaton.{Automaton}
use Rattle.automaton.specs.Automaton.{valid, accepts, reached}
use Rattle.solver_sets.specs.Sets.{sets_for}
use Rattle.solver_sets.specs.Table.{Solved}
use Rattle.solver_answers.specs.Solving.{solve_refusal, solved_table}
use Rattle.configuration.specs.Configuration.{consistent, initial_of}
use Rattle.monitor_rule.specs.Step.{by_table, Effect, release, arrival}
use Rattle.monitor_rule.specs.Claims.{Full}
use Rattle.monitor_answers.specs.Answers.{is_winning}
use Rattle.enforcement.specs.Store.{empty, position_at, store_all, feed_all, accepted_all}
use Rattle.enforcement.specs.Calls.{Call, replies, configuration_after, emitted_all, fed_by, configuration_at, expected_all}
use Rattle.enforcement.specs.Moments.{Moment, effect_at, position_after, emitted_at, sources_at, moments}
use Rattle.enforcement.specs.Places.{PlacesTold}
use Rattle.enforcement.specs.Strategy.{Strategy, Lost, lost_bound}

-- The replies to any list of calls over a solved table: every call's whole reply is the published
-- function's; all that was emitted, end to end, is its output; the configuration handed back is
-- its own, and one that row 13 lets pass.
pub record Enforces (a : Automaton) (t : List ℕ) (calls : List Call) : Type 0 where
  pub each-reply : replies a t (initial_of a) calls ≡ expected_all a empty calls
  pub all-emitted : emitted_all (replies a t (initial_of a) calls) ≡ (feed_all a empty (map fed_by calls)).output
  pub last-configuration : configuration_after a t (initial_of a) calls ≡ configuration_at a (feed_all a empty (map fed_by calls))
  pub last-consistent : consistent a (configuration_after a t (initial_of a) calls) ≡ true

abbrev pub EachReply : Type 0
EachReply = (a : Automaton) (t : List ℕ) → valid a ≡ true → Solved a t → (calls : List Call) → Enforces a t calls

-- the accepted events of the calls
abbrev pub accepted_events : Automaton → List ℕ → List Call → List ℕ
accepted_events a t calls = map (λ (m : Moment). m.event) (moments a t (initial_of a) calls)

-- Fed the accepted events alone, one by one, the function ends with the same output and buffer,
-- the same places of both and the same count.
abbrev pub AcceptedAlone : Type 0
AcceptedAlone =
    (a : Automaton) (calls : List Call)
    → store_all a empty (accepted_all a empty (map fed_by calls)) ≡ feed_all a empty (map fed_by calls)

-- winning after an accepted event, by the table's bits
unfoldable pub winning_after : Automaton → List ℕ → Moment → Bool
winning_after a t m = by_table a t (position_after a t m).buffer (position_after a t m).state

-- all that was emitted, up to and with an accepted event
unfoldable pub output_after : Automaton → List ℕ → Moment → List ℕ
output_after a t m = m.output ++ (effect_at a t m).emitted

-- The accepted events of the calls, one by one, are those that the function accepts; what they
-- emit, end to end, is all that is emitted, and its places are the function's; each of them has
-- the events and the output of those before it; the state that it meets is where that output
-- leads; and fed the events before it, the function has the output and the position that it meets,
-- places and counts included.
pub record Accounted (a : Automaton) (t : List ℕ) (calls : List Call) : Type 0 where
  pub events : accepted_events a t calls ≡ accepted_all a empty (map fed_by calls)
  pub emitted : emitted_at a t (moments a t (initial_of a) calls) ≡ emitted_all (replies a t (initial_of a) calls)
  pub traced : sources_at a t (moments a t (initial_of a) calls) ≡ (feed_all a empty (map fed_by calls)).sources
  pub history : (before : List Moment) (m : Moment) (after : List Moment) → moments a t (initial_of a) calls ≡ before ++ m ∷ after
      → (m.past ≡ map (λ (x : Moment). x.event) before) × (m.output ≡ emitted_at a t before)
  pub leads : AllOf (λ m. reached a a.initial m.output ≡ m.position.state) (moments a t (initial_of a) calls)
  pub fed : AllOf (λ m. ((store_all a empty m.past).output ≡ m.output)
      × (position_at a (store_all a empty m.past) ≡ m.position))
      (moments a t (initial_of a) calls)

abbrev pub MomentsAccounted : Type 0
MomentsAccounted = (a : Automaton) (t : List ℕ) → valid a ≡ true → Solved a t → (calls : List Call) → Accounted a t calls

-- Once winning, initially or after an accepted event, winning after each later accepted event,
-- also inside a day; and the output then leads to an accepting state. An event accepted at a full
-- buffer always brings the monitor there.
abbrev pub Stays : Automaton → List ℕ → List Moment → Type 0
Stays a t = AllOf (λ m. (winning_after a t m ≡ true) × (accepts a (reached a a.initial (output_after a t m)) ≡ true))

pub record OnceWinning (a : Automaton) (t : List ℕ) (calls : List Call) : Type 0 where
  pub initially : is_winning a t (initial_of a) ≡ true → Stays a t (moments a t (initial_of a) calls)
  pub later : (before : List Moment) (m : Moment) (after : List Moment) → moments a t (initial_of a) calls ≡ before ++ m ∷ after
      → winning_after a t m ≡ true → Stays a t (m ∷ after)
  -- after an event accepted at a full buffer the monitor is winning
  pub opened : (before : List Moment) (m : Moment) (after : List Moment) → moments a t (initial_of a) calls ≡ before ++ m ∷ after
      → Full a m.position.buffer m.event → Stays a t (m ∷ after)

abbrev pub WinningStays : Type 0
WinningStays = (a : Automaton) (t : List ℕ) → valid a ≡ true → Solved a t → (calls : List Call) → OnceWinning a t calls

-- an accepted event before the release: one more than the capacity may be in hand then
unfoldable pub arrival_at : Automaton → Moment → Effect
arrival_at a m = arrival a m.position.state m.position.buffer m.event

-- the front part of the buffer that a strategy emits then, and the one that we emit
unfoldable pub strategy_release : Automaton → Strategy → Moment → List ℕ
strategy_release a rule m =
    let x = arrival_at a m in
    take (rule (m.past ++ m.event ∷ []) (m.output ++ x.emitted) x.buffer) x.buffer

unfoldable pub our_release : Automaton → List ℕ → Moment → List ℕ
our_release a t m =
    take (release (by_table a t) a (arrival_at a m).state (arrival_at a m).buffer) (arrival_at a m).buffer

-- what the strategy has put out and still holds then
unfoldable pub strategy_output : Automaton → Strategy → Moment → List ℕ
strategy_output a rule m = (m.output ++ (arrival_at a m).emitted) ++ strategy_release a rule m

unfoldable pub strategy_buffer : Automaton → Strategy → Moment → List ℕ
strategy_buffer a rule m = drop (length (strategy_release a rule m)) (arrival_at a m).buffer

-- every strategy that emits a longer front part there, and goes on by its rule, is lost
abbrev pub LongerIsLost : Automaton → List ℕ → Moment → Type 0
LongerIsLost a t m =
    (rule : Strategy) → length (our_release a t m) < length (strategy_release a rule m)
    → Lost a a.initial rule (m.past ++ m.event ∷ []) (strategy_output a rule m) (strategy_buffer a rule m)
    (lost_bound a (strategy_buffer a rule m))

-- Document 01's rival loses: at every accepted event, also inside a day, whether we are winning or
-- not.
abbrev pub LongerStrategiesLose : Type 0
LongerStrategiesLose =
    (a : Automaton) (t : List ℕ) → valid a ≡ true → Solved a t → (calls : List Call)
    → AllOf (LongerIsLost a t) (moments a t (initial_of a) calls)

-- Whoever rests with a buffer in a state outside its S is lost within the bound, whatever its rule
-- and its past, and from whatever state its output began.
abbrev pub DrivenOut : Type 0
DrivenOut =
    (a : Automaton) → valid a ≡ true → (w : List ℕ) (q : ℕ) → q < a.states → has (sets_for a w).winning q ≡ false
    → (start : ℕ) (rule : Strategy) (events output : List ℕ) → reached a start output ≡ q
    → Lost a start rule events output w (lost_bound a w)

-- Demand 3 as one statement: for any list of calls over a solved table, all of the above; and all
-- that was emitted and the configuration handed back are the published function's, worked out
-- afresh from the accepted events alone; and places are what they mean.
pub record Enforced (a : Automaton) (t : List ℕ) (calls : List Call) : Type 0 where
  pub enforces : Enforces a t calls
  pub alone-emitted : emitted_all (replies a t (initial_of a) calls) ≡ (store_all a empty (accepted_events a t calls)).output
  pub alone-configuration : configuration_after a t (initial_of a) calls
      ≡ configuration_at a (store_all a empty (accepted_events a t calls))
  pub accounted : Accounted a t calls
  pub places-told : PlacesTold a t calls (accepted_events a t calls) (configuration_after a t (initial_of a) calls)
  pub once-winning : OnceWinning a t calls
  pub strategies : AllOf (LongerIsLost a t) (moments a t (initial_of a) calls)

abbrev pub Demand3 : Type 0
Demand3 = (a : Automaton) (t : List ℕ) → valid a ≡ true → Solved a t → (calls : List Call) → Enforced a t calls

-- It holds over what the solver leaves in any table that it does not refuse.
abbrev pub Demand3Solved : Type 0
Demand3Solved = (a : Automaton) (t : List ℕ) → solve_refusal a t ≡ 0 → (calls : List Call) → Enforced a (solved_table a t) calls

-- The hypotheses can be met: a solved table exists for every automaton that row 11 lets pass.
abbrev pub TableExists : Type 0
TableExists = (a : Automaton) → valid a ≡ true → (t : List ℕ) × Solved a t
