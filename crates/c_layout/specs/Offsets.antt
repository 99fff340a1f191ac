-- Sizes and offsets in the bytes that a caller lends. `include/jaxhophasi.h` has them under the
-- same names (all but `max_next`, `max_capacity` and `max_emitted`).
use Rattle.std.specs.Prelude.{ℕ, ◌*◌}

-- the record: how many places an array has, its size, and where each part begins
abbrev pub max_states : ℕ
max_states = 32

abbrev pub max_symbols : ℕ
max_symbols = 16

abbrev pub max_next : ℕ
max_next = max_states * max_symbols

abbrev pub automaton_size : ℕ
automaton_size = 564

abbrev pub automaton_states : ℕ
automaton_states = 0

abbrev pub automaton_symbols : ℕ
automaton_symbols = 1

abbrev pub automaton_capacity : ℕ
automaton_capacity = 2

abbrev pub automaton_initial : ℕ
automaton_initial = 3

abbrev pub automaton_classes : ℕ
automaton_classes = 4

abbrev pub automaton_accepting : ℕ
automaton_accepting = 20

abbrev pub automaton_next : ℕ
automaton_next = 52

-- a place in the input or in the output: a number of 32 bits
abbrev pub place_size : ℕ
place_size = 4

-- the configuration; its buffer has this many places
abbrev pub max_capacity : ℕ
max_capacity = 6

abbrev pub configuration_size : ℕ
configuration_size = 40

abbrev pub configuration_state : ℕ
configuration_state = 0

abbrev pub configuration_held : ℕ
configuration_held = 1

abbrev pub configuration_buffer : ℕ
configuration_buffer = 2

abbrev pub configuration_places : ℕ
configuration_places = 8

abbrev pub configuration_received : ℕ
configuration_received = 32

abbrev pub configuration_emitted : ℕ
configuration_emitted = 36

-- a number
abbrev pub number_size : ℕ
number_size = 8

-- the answer of `jaxhophasi_winning`
abbrev pub status_size : ℕ
status_size = 1

-- of `jaxhophasi_receive` and `jaxhophasi_receive_for`; what is emitted has this many places
abbrev pub max_emitted : ℕ
max_emitted = 7

abbrev pub received_size : ℕ
received_size = 37

abbrev pub received_emitted : ℕ
received_emitted = 0

abbrev pub received_count : ℕ
received_count = 7

abbrev pub received_winning : ℕ
received_winning = 8

abbrev pub received_places : ℕ
received_places = 9

-- of `jaxhophasi_run` and `jaxhophasi_run_for`
abbrev pub ran_size : ℕ
ran_size = 16

abbrev pub ran_length : ℕ
ran_length = 0

abbrev pub ran_refused : ℕ
ran_refused = 8

-- the expected serial of a feed: whether one is expected, and the serial's two bytes
abbrev pub expected_size : ℕ
expected_size = 3

abbrev pub expected_known : ℕ
expected_known = 0

abbrev pub expected_serial : ℕ
expected_serial = 1

-- of `jaxhophasi_feed`: behind the bytes of `jaxhophasi_receive_for`, two numbers
abbrev pub fed_size : ℕ
fed_size = 53

abbrev pub fed_loss : ℕ
fed_loss = 37

abbrev pub fed_place : ℕ
fed_place = 45

-- of `jaxhophasi_judge`
abbrev pub verdict_size : ℕ
verdict_size = 2

abbrev pub verdict_may_rest : ℕ
verdict_may_rest = 0

abbrev pub verdict_can_rest : ℕ
verdict_can_rest = 1
