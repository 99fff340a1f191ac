-- What the functions of one event and of a list of events are lent, and what they promise: over
-- the parts of an automaton, for any automaton whose parts these are.
use Rattle.std.specs.Prelude.{ℕ, ◌+◌, ◌-◌, ◌<◌, ◌≡◌, true, false, List}
use Rattle.automaton.specs.declared.Automaton.{Automaton}
use Rattle.automaton.specs.Automaton.{valid}
use Rattle.solver_sets.specs.Table.{short}
use Rattle.configuration_places.specs.declared.InputPlace.{InputPlace}
use Rattle.configuration_places.specs.Places.{input_number, output_place}
use Rattle.configuration.specs.declared.Configuration.{Configuration}
use Rattle.configuration.specs.Configuration.{consistent}
use Rattle.automaton_symbols.specs.Symbols.{ranking_of}
use Rattle.monitor_answers.specs.declared.Ran.{Ran}
use Rattle.monitor_answers.specs.Answers.{ran_of, ran_buffer_of}
use Rattle.monitor_answers.specs.declared.Turned.{Turned}
use Rattle.monitor_answers.specs.Turns.{turned, turned_buffer}
pub use Rattle.monitor_loop.specs.declared.Limits.{Limits}

abbrev pub limits_of : Automaton → Limits
limits_of a =
    record {
      controllables = (ranking_of a.classes a.symbols).count;
      states = a.states;
      symbols = a.symbols;
      capacity = a.capacity;
    }

-- the limits, the next states and the ranks of a valid automaton, whose table is long enough
pub record Lends (a : Automaton) (l : Limits) (next ranks t : List ℕ) : Type 0 where
  pub record_valid : valid a ≡ true
  pub table-long : short a t ≡ false
  pub limits-are : l ≡ limits_of a
  pub next-are : next ≡ a.next
  pub ranks-are : ranks ≡ (ranking_of a.classes a.symbols).ranks

-- what `turn` asks: rows 11 and 12 passed, by some such automaton with its classes, and there is
-- room from the place on for one event more than what a consistent configuration holds
pub record TurnRequires (l : Limits) (classes next ranks t : List ℕ) (c : Configuration) (at size : ℕ) : Type 0 where
  pub automaton : Automaton
  pub lends : Lends automaton l next ranks t
  pub classes-are : classes ≡ automaton.classes
  pub room : consistent automaton c ≡ true → at + c.held < size

-- what `process` asks beside room: rows 11 to 13 passed
pub record ProcessRequires (l : Limits) (next ranks t : List ℕ) (c : Configuration) : Type 0 where
  pub automaton : Automaton
  pub lends : Lends automaton l next ranks t
  pub stands : consistent automaton c ≡ true

-- one event for any configuration, from a place of the lent output on
abbrev pub Turns : Limits → List ℕ → List ℕ → List ℕ → List ℕ → Configuration → ℕ → ℕ → List ℕ → Turned → List ℕ → Type 0
Turns l classes next ranks t c e at out r out' =
    (a : Automaton) → Lends a l next ranks t → classes ≡ a.classes
    → (r ≡ turned a t c e at) × (out' ≡ turned_buffer a t c e at out)

-- a configuration whose output count is worked out: what came in and is not held
abbrev pub derived : ℕ → ℕ → List ℕ → List InputPlace → InputPlace → Configuration
derived state held buffer places received =
    record {
      state = state;
      held = held;
      buffer = buffer;
      places = places;
      received = received;
      emitted = output_place (input_number received - held);
    }

-- a list of events
abbrev pub Runs : Limits → List ℕ → List ℕ → List ℕ → Configuration → List ℕ → List ℕ → Ran → List ℕ → Type 0
Runs l next ranks t c events out r out' =
    (a : Automaton) → Lends a l next ranks t → consistent a c ≡ true
    → (r ≡ ran_of a t c events) × (out' ≡ ran_buffer_of a t c events out)
