-- What is proved of the configuration's definitions, in the documents' words.
use Rattle.std.specs.Prelude.{ℕ, ◌+◌, ◌<◌, ◌≤◌, ◌≡◌, ◌↔◌, true, length, get_or}
use Rattle.automaton.specs.declared.Automaton.{Automaton}
use Rattle.automaton.specs.Automaton.{class, valid}
use Rattle.configuration_places.specs.Places.{input_place, input_number, output_number}
use Rattle.configuration.specs.Configuration.{Configuration, consistent}

-- the number at a place of the configuration's places in the input
abbrev pub input_at : Configuration → ℕ → ℕ
input_at c i = input_number (get_or c.places i (input_place 0))

-- row 13: a state below n, at most B held, each held event a controllable symbol, and unused
-- places 0; the held places in the input rise strictly and lie below the input count, unused ones
-- are 0; the output count plus the held events is the input count
pub record Stands (a : Automaton) (c : Configuration) : Type 0 where
  pub state-below : c.state < a.states
  pub few : c.held ≤ a.capacity
  pub events : (i : ℕ) → i < c.held → (get_or c.buffer i 0 < a.symbols) × (class a (get_or c.buffer i 0) ≡ 1)
  pub unused : (i : ℕ) → c.held ≤ i → i < 6 → get_or c.buffer i 0 ≡ 0
  pub rising : (i j : ℕ) → i < j → j < c.held → input_at c i < input_at c j
  pub below : (i : ℕ) → i < c.held → input_at c i < input_number c.received
  pub unused-places : (i : ℕ) → c.held ≤ i → i < 6 → input_at c i ≡ 0
  pub sum : output_number c.emitted + c.held ≡ input_number c.received

-- (The arrays have the lengths that their types give.)
abbrev pub ConsistentAsWorded : Type 0
ConsistentAsWorded =
    (a : Automaton) (c : Configuration) → valid a ≡ true → length c.buffer ≡ 6 → length c.places ≡ 6
    → (consistent a c ≡ true) ↔ Stands a c
