-- What the answers tell, from any configuration.
use Rattle.std.specs.Prelude.{ℕ, ◌*◌, ◌<◌, ◌≡◌, true, List, ◌∷◌, ◌++◌, get_or}
use Rattle.base.specs.Masks.{has}
use Rattle.automaton.specs.declared.Automaton.{Automaton}
use Rattle.automaton.specs.Automaton.{valid}
use Rattle.solver_sets.specs.Table.{index, short, Buffer, Solved}
use Rattle.configuration.specs.declared.Configuration.{Configuration}
use Rattle.configuration.specs.Configuration.{initial_of}
use Rattle.monitor_answers.specs.Answers.{status, received, ran, ran_buffer}
use Rattle.enforcement.specs.Calls.{Call, replies, configuration_after}
use Rattle.enforcement.specs.Moments.{Moment, moments}
use Rattle.enforcement.specs.Claims.{winning_after}

-- Over any table: what an accepted event's answer says of winning is what `status` answers for the
-- configuration that it hands back.
abbrev pub FlagIsStatus : Type 0
FlagIsStatus =
    (a : Automaton) (t : List ℕ) (c : Configuration) (e : ℕ) → (received a t c e).refusal ≡ 0
    → status a t (received a t c e).configuration ≡ record { refusal = 0; winning = (received a t c e).winning }

-- Over a solved table: once `status` answers winning, it does so after any calls, and so does each
-- event that is accepted then.
pub record SaysWinning (a : Automaton) (t : List ℕ) (c : Configuration) : Type 0 where
  pub told : (status a t c).winning ≡ true
  pub flagged : (e : ℕ) → (received a t c e).refusal ≡ 0 → (received a t c e).winning ≡ true

abbrev pub FlagStays : Type 0
FlagStays =
    (a : Automaton) (t : List ℕ) → Solved a t → (c : Configuration) → (status a t c).winning ≡ true
    → (calls : List Call) → SaysWinning a t (configuration_after a t c calls)

-- .. and so once any accepted event, also inside a day, left the monitor winning
abbrev pub OnceWinningSaid : Type 0
OnceWinningSaid =
    (a : Automaton) (t : List ℕ) → valid a ≡ true → Solved a t
    → (calls : List Call) (before : List Moment) (m : Moment) (after : List Moment)
    → moments a t (initial_of a) calls ≡ before ++ m ∷ after → winning_after a t m ≡ true
    → SaysWinning a t (configuration_after a t (initial_of a) calls)

-- two tables have the same bits below n at each buffer's S
abbrev pub SameBits : Automaton → List ℕ → List ℕ → Type 0
SameBits a t u =
    (w : List ℕ) → Buffer a w → (q : ℕ) → q < a.states → has (get_or t (2 * index a w) 0) q ≡ has (get_or u (2 * index a w) 0) q

-- nothing else of a table is read: bits from n on, the places of I and places from 2T on are
-- ignored, over any table
pub record SameAnswers (a : Automaton) (t u : List ℕ) (c : Configuration) : Type 0 where
  pub statuses : status a t c ≡ status a u c
  pub receives : (e : ℕ) → received a t c e ≡ received a u c e
  pub runs : (es out : List ℕ) → ran a t c es out ≡ ran a u c es out
  pub outputs : (es out : List ℕ) → ran_buffer a t c es out ≡ ran_buffer a u c es out
  pub calls : (xs : List Call) → replies a t c xs ≡ replies a u c xs

abbrev pub OthersIgnored : Type 0
OthersIgnored =
    (a : Automaton) (t u : List ℕ) → short a t ≡ short a u → SameBits a t u → (c : Configuration) → SameAnswers a t u c
