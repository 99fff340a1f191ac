-- A strategy (document 01's rival, "One event"): another monitor with the same past that goes on
-- by a rule of its own.
use Rattle.std.specs.Prelude.{ℕ, suc, ◌*◌, ◌≤◌, ◌≡◌, false, List, [], ◌∷◌, ◌++◌, length, take, drop}
use Rattle.base.specs.Each.{count}
use Rattle.automaton.specs.declared.Automaton.{Automaton}
use Rattle.automaton.specs.Automaton.{accepts, reached}
use Rattle.solver_sets.specs.Definition6.{AllUncontrollable}
use Rattle.monitor_rule.specs.Step.{remaining}

-- A rule, fixed beforehand: from all events, its own whole output so far and what it holds, how
-- many of its held events it emits then. What is emitted is clipped to what it holds.
abbrev pub Strategy : Type 0
Strategy = List ℕ → List ℕ → List ℕ → ℕ

-- Its whole output after uncontrollable events: each is passed, then a front part of the buffer is
-- emitted.
unfoldable pub play : Automaton → Strategy → List ℕ → List ℕ → List ℕ → List ℕ → List ℕ
play a rule events output buffer [] = output
play a rule events output buffer (u ∷ us) =
    let held = remaining a u buffer in
    let k = rule (events ++ u ∷ []) (output ++ u ∷ []) held in
    play a rule (events ++ u ∷ []) ((output ++ u ∷ []) ++ take k held) (drop k held) us

-- Some list of at most `bound` uncontrollable events leaves its whole output, from the state
-- `start` on, outside the accepting states.
pub record Lost (a : Automaton) (start : ℕ) (rule : Strategy) (events output buffer : List ℕ) (bound : ℕ) : Type 0 where
  pub list : List ℕ
  pub uncontrollable : AllUncontrollable a list
  pub short : length list ≤ bound
  pub outside : accepts a (reached a start (play a rule events output buffer list)) ≡ false

-- the bound with a buffer: as many events as there are accepting states, once for each held event
-- and once more
unfoldable pub lost_bound : Automaton → List ℕ → ℕ
lost_bound a buffer = suc (length buffer) * count a.states (accepts a)
