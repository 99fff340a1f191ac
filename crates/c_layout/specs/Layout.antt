-- How the record, the configuration and numbers lie in the bytes that a caller lends.
use Rattle.std.specs.Prelude.{ℕ, zero, suc, ◌+◌, ◌*◌, ◌/◌, ◌%◌, List, [], ◌∷◌, ◌++◌, map, Bool, true, false, cond, get_or, take, drop, eqb}
use Rattle.automaton.specs.declared.Automaton.{Automaton}
use Rattle.configuration_places.specs.Places.{input_place, input_number, output_place, output_number}
use Rattle.configuration.specs.declared.Configuration.{Configuration}
use Rattle.feed_record.specs.declared.Expected.{Expected}
use Rattle.feed_record.specs.declared.Expected.TheVariants.{Any, Serial}
use Rattle.c_layout.specs.Offsets.{max_states, max_symbols, max_next, max_capacity}
use Rattle.c_layout.specs.Offsets.{automaton_states, automaton_symbols, automaton_capacity, automaton_initial}
use Rattle.c_layout.specs.Offsets.{automaton_classes, automaton_accepting, automaton_next}
use Rattle.c_layout.specs.Offsets.{place_size, configuration_state, configuration_held, configuration_buffer}
use Rattle.c_layout.specs.Offsets.{configuration_places, configuration_received, configuration_emitted}
use Rattle.c_layout.specs.Offsets.{expected_known, expected_serial}

-- the byte at a place
abbrev pub byte_at : List ℕ → ℕ → ℕ
byte_at bytes place = get_or bytes place 0

-- `count` bytes from a place on
unfoldable pub part : ℕ → ℕ → List ℕ → List ℕ
part at count bytes = take count (drop at bytes)

-- the record (document 01's sheet): four numbers, the classes, the flags, the next states
unfoldable pub automaton_bytes : Automaton → List ℕ
automaton_bytes a =
    (a.states ∷ a.symbols ∷ a.capacity ∷ a.initial ∷ []) ++ (a.classes ++ (a.accepting ++ a.next))

unfoldable pub automaton_of : List ℕ → Automaton
automaton_of bytes =
    record {
      states = byte_at bytes automaton_states;
      symbols = byte_at bytes automaton_symbols;
      capacity = byte_at bytes automaton_capacity;
      initial = byte_at bytes automaton_initial;
      classes = part automaton_classes max_symbols bytes;
      accepting = part automaton_accepting max_states bytes;
      next = part automaton_next max_next bytes;
    }

-- a number in `width` bytes, low byte first
unfoldable pub number_bytes : ℕ → ℕ → List ℕ
number_bytes zero v = []
number_bytes (suc width) v = v % 256 ∷ number_bytes width (v / 256)

unfoldable pub number_of : List ℕ → ℕ
number_of [] = 0
number_of (b ∷ bytes) = b + 256 * number_of bytes

-- numbers of places, one after the other; and `count` of them from a place of the bytes on
unfoldable pub places_bytes : List ℕ → List ℕ
places_bytes [] = []
places_bytes (n ∷ ns) = number_bytes place_size n ++ places_bytes ns

unfoldable pub places_of : ℕ → ℕ → List ℕ → List ℕ
places_of zero at bytes = []
places_of (suc count) at bytes = number_of (part at place_size bytes) ∷ places_of count (at + place_size) bytes

-- the configuration (document 01's carried state): the state, how many are held, the places of the
-- buffer; the place in the input of each, and the input and the output count
unfoldable pub configuration_bytes : Configuration → List ℕ
configuration_bytes c =
    (c.state ∷ c.held ∷ []) ++
    (c.buffer ++
    (places_bytes (map input_number c.places) ++
    (number_bytes place_size (input_number c.received) ++ number_bytes place_size (output_number c.emitted))))

unfoldable pub configuration_of : List ℕ → Configuration
configuration_of bytes =
    record {
      state = byte_at bytes configuration_state;
      held = byte_at bytes configuration_held;
      buffer = part configuration_buffer max_capacity bytes;
      places = map input_place (places_of max_capacity configuration_places bytes);
      received = input_place (number_of (part configuration_received place_size bytes));
      emitted = output_place (number_of (part configuration_emitted place_size bytes));
    }

-- The expected serial of a feed: 0 where none is expected, whatever stands behind it; any other
-- number where one is, in two bytes, low byte first.
unfoldable pub expected_of : List ℕ → Expected
expected_of bytes =
    cond (eqb (byte_at bytes expected_known) 0) Any (Serial (number_of (part expected_serial 2 bytes)))

unfoldable pub expected_bytes : Expected → List ℕ
expected_bytes Any = 0 ∷ 0 ∷ 0 ∷ []
expected_bytes (Serial s) = 1 ∷ number_bytes 2 s

unfoldable pub same_expected : Expected → Expected → Bool
same_expected Any Any = true
same_expected Any (Serial y) = false
same_expected (Serial x) Any = false
same_expected (Serial x) (Serial y) = eqb x y

-- lent bytes that an expected serial is laid into: where they say it already, they stay as they
-- are
unfoldable pub expected_laid : Expected → List ℕ → List ℕ
expected_laid x lent = cond (same_expected (expected_of lent) x) lent (expected_bytes x)
