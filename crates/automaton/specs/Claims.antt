-- What is proved of the automaton's definitions, in document 01's words.
use Rattle.std.specs.Prelude.{ℕ, ◌<◌, ◌≤◌, ◌≡◌, ◌↔◌, true, length}
use Rattle.automaton.specs.Automaton.{Automaton, class, controllable, controllables, flag, accepts, step, max_class, valid}

-- the controllable symbols are those of class 1
abbrev pub ClassOne : Type 0
ClassOne = (a : Automaton) (e : ℕ) → (controllable a e ≡ true) ↔ (class a e ≡ 1)

-- the accepting states are those of flag 1
abbrev pub FlagOne : Type 0
FlagOne = (a : Automaton) (q : ℕ) → (accepts a q ≡ true) ↔ (flag a q ≡ 1)

-- row 11 in document 01's words: n, m, B and the start in their ranges (rows 3 to 6), classes and
-- flags (row 7), at most eight controllable symbols (row 8), next states (row 9), and unused
-- places 0. (Arrays have the lengths that their types give.)
pub record Valid (a : Automaton) : Type 0 where
  pub classes-length : length a.classes ≡ 16
  pub accepting-length : length a.accepting ≡ 32
  pub next-length : length a.next ≡ 512
  pub states-low : 1 ≤ a.states
  pub states-high : a.states ≤ 32
  pub symbols_low : 1 ≤ a.symbols
  pub symbols-high : a.symbols ≤ 16
  pub capacity-low : 1 ≤ a.capacity
  pub capacity-high : a.capacity ≤ 6
  pub initial-below : a.initial < a.states
  pub class-high : (e : ℕ) → class a e ≤ max_class
  pub class-unused : (e : ℕ) → a.symbols ≤ e → class a e ≡ 0
  pub controllables-high : controllables a ≤ 8
  pub flag_high : (q : ℕ) → flag a q ≤ 1
  pub flag-unused : (q : ℕ) → a.states ≤ q → flag a q ≡ 0
  pub step-below : (q e : ℕ) → q < a.states → e < a.symbols → step a q e < a.states
  pub step-no-state : (q e : ℕ) → a.states ≤ q → e < 16 → step a q e ≡ 0
  pub step_no_symbol : (q e : ℕ) → a.symbols ≤ e → e < 16 → step a q e ≡ 0

abbrev pub ValidAsWorded : Type 0
ValidAsWorded = (a : Automaton) → (valid a ≡ true) ↔ Valid a
