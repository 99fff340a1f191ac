-- The configuration (document 01, "One event": the carried state; document 02, Card 4): a state,
-- the buffer of held events with their places in the input, and two counts; and row 13.
use Rattle.std.specs.Prelude.{ℕ, ◌+◌, ◌-◌, Bool, cond, ◌&&◌, ◌||◌, List, [], map, length, get_or, take, eqb, leb, ltb}
use Rattle.base.specs.Each.{each}
use Rattle.base.specs.Pad.{pad}
use Rattle.automaton.specs.declared.Automaton.{Automaton}
use Rattle.automaton.specs.Arrays.{controllable_at}
use Rattle.automaton.specs.Automaton.{valid}
use Rattle.configuration_places.specs.Places.{input_place, input_number, output_place, output_number}
pub use Rattle.configuration.specs.declared.Configuration.{Configuration}

-- the held events, first in first
unfoldable pub held_events : Configuration → List ℕ
held_events c = take c.held c.buffer

-- the numbers of the places that a configuration has for its held events, all six
unfoldable pub place_numbers : Configuration → List ℕ
place_numbers c = map input_number c.places

-- a position: what a configuration says: the state; the held events and the place of each in the
-- input, first in first; how many events were accepted, and how many symbols put out
pub record Position : Type 0 where
  pub state : ℕ
  pub buffer : List ℕ
  pub places : List ℕ
  pub received : ℕ
  pub emitted : ℕ

abbrev pub position_of : Configuration → Position
position_of c =
    record {
      state = c.state;
      buffer = held_events c;
      places = take c.held (place_numbers c);
      received = input_number c.received;
      emitted = output_number c.emitted;
    }

-- a state with nothing held and nothing counted
abbrev pub empty_at : ℕ → Position
empty_at q = record { state = q; buffer = []; places = []; received = 0; emitted = 0 }

-- the configuration of a position
abbrev pub configuration : Position → Configuration
configuration p =
    record {
      state = p.state;
      held = length p.buffer;
      buffer = pad 6 p.buffer;
      places = map input_place (pad 6 p.places);
      received = input_place p.received;
      emitted = output_place p.emitted;
    }

-- e is a controllable symbol
unfoldable pub controllable_symbol : ℕ → List ℕ → ℕ → Bool
controllable_symbol symbols classes e = ltb e symbols && controllable_at classes e

-- what stands at a place of the buffer: a controllable symbol where the place is used, else 0
unfoldable pub place_stands : ℕ → List ℕ → Bool → ℕ → Bool
place_stands symbols classes used e = cond used (controllable_symbol symbols classes e) (eqb e 0)

-- the six places
unfoldable pub buffer_stands : ℕ → List ℕ → ℕ → List ℕ → Bool
buffer_stands symbols classes held buffer = each 6 (λ i. place_stands symbols classes (ltb i held) (get_or buffer i 0))

-- the place in the input of what stands there: above that of the event held before it, and below
-- the input count; 0 where the place is unused
unfoldable pub input_stands : ℕ → ℕ → List ℕ → ℕ → Bool
input_stands held received numbers i =
    let n = get_or numbers i 0 in
    cond (ltb i held) ((eqb i 0 || ltb (get_or numbers (i - 1) 0) n) && ltb n received) (eqb n 0)

unfoldable pub inputs_stand : ℕ → ℕ → List ℕ → Bool
inputs_stand held received numbers = each 6 (input_stands held received numbers)

-- A configuration that row 13 lets pass: a state of the automaton, at most its capacity held, each
-- held event controllable, the places in the input rising below the input count, unused places of
-- both 0; and the output count with the held events is the input count. (The arrays have the
-- lengths that their types give.) Of the automaton these parts are read, and nothing else.
unfoldable pub consistent_in : ℕ → ℕ → ℕ → List ℕ → Configuration → Bool
consistent_in states symbols capacity classes c =
    let received = input_number c.received in
    eqb (length c.buffer) 6 &&
    (ltb c.state states &&
    (leb c.held capacity &&
    (buffer_stands symbols classes c.held c.buffer &&
    (eqb (length c.places) 6 &&
    (inputs_stand c.held received (place_numbers c) && eqb (output_number c.emitted + c.held) received)))))

abbrev pub consistent : Automaton → Configuration → Bool
consistent a = consistent_in a.states a.symbols a.capacity a.classes

-- the initial configuration (document 01's fresh): the automaton's initial state, nothing held and
-- nothing counted
unfoldable pub initial_of : Automaton → Configuration
initial_of a = configuration (empty_at a.initial)

-- What is answered to a record: the initial configuration (refusal 0), or the refusing row with
-- zeros.
pub record FirstConfiguration : Type 0 where
  pub refusal : ℕ
  pub configuration : Configuration

abbrev pub started : Configuration → FirstConfiguration
started c = record { refusal = 0; configuration = c }

abbrev pub not_started : ℕ → FirstConfiguration
not_started row = record { refusal = row; configuration = configuration (empty_at 0) }

-- asked of a record: row 11, with zeros
unfoldable pub initial_answer : Automaton → FirstConfiguration
initial_answer a =
    cond (valid a)
    (record { refusal = 0; configuration = initial_of a })
    (record { refusal = 11; configuration = configuration (empty_at 0) })
