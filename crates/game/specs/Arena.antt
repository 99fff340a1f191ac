-- What the game's inner functions hand back and ask. They are lent arrays and not the record, and
-- the game is defined over an automaton: so they speak of the one that is made of what they are
-- lent.
use Rattle.std.specs.Prelude.{ℕ, ◌-◌, ◌≤◌, ◌<◌, ◌≡◌, List, length, get_or, take, drop}
use Rattle.automaton.specs.declared.Automaton.{Automaton}
use Rattle.automaton.specs.Automaton.{step, assembled}

-- an automaton as far as the game reads it: of its capacity and initial state it reads nothing
abbrev pub arena : ℕ → ℕ → List ℕ → List ℕ → List ℕ → Automaton
arena states symbols classes accepting next = assembled states symbols 0 0 classes accepting next

-- the held events from a place on
abbrev pub held_from : List ℕ → ℕ → ℕ → List ℕ
held_from buffer held at = take (held - at) (drop at buffer)

-- what both questions ask: the game can be played, its numbers stay in range
pub record PlayRequires (a : Automaton) (buffer : List ℕ) (held : ℕ) : Type 0 where
  pub states-high : a.states ≤ 32
  pub symbols-high : a.symbols ≤ 16
  pub held_high : held ≤ 6
  pub buffer-length : length buffer ≡ 6
  pub steps : (q e : ℕ) → q < a.states → e < a.symbols → step a q e < a.states
  pub events : (i : ℕ) → i < held → get_or buffer i 0 < a.symbols
