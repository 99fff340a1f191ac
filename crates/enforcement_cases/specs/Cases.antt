-- The marked cases of document 01, and those of places and counts and of a full buffer that the
-- newcomer opens (document 02, Cards 4 and 5), as rows of one list.
use Rattle.std.specs.Prelude.{ℕ, suc, ◌≡◌, Bool, true, false, List, [], ◌∷◌, ◌++◌, map, length, replicate}
use Rattle.base.specs.All.{AllOf}
use Rattle.base.specs.Pad.{pad}
use Rattle.varint.specs.Varint.{bytes, read, value}
use Rattle.automaton.specs.declared.Automaton.{Automaton}
use Rattle.automaton.specs.Automaton.{controllables}
use Rattle.automaton_format.specs.Reading.{parse, parsed}
use Rattle.solver_sets.specs.Table.{table, rounds}
use Rattle.configuration_places.specs.Places.{input_place}
use Rattle.configuration.specs.Configuration.{Position, configuration, initial_of}
use Rattle.solver_answers.specs.Solving.{count_answer}
use Rattle.monitor_answers.specs.declared.Received.{Received}
use Rattle.monitor_answers.specs.Answers.{status, received}
use Rattle.enforcement.specs.Calls.{receive_call, receive, replies}

-- sheet V (0 Query, 1 Answer), and its record
abbrev pub bytes_v : List ℕ
bytes_v = 3 ∷ 2 ∷ 1 ∷ 0 ∷ 0 ∷ 1 ∷ 1 ∷ 0 ∷ 1 ∷ 1 ∷ 0 ∷ 1 ∷ 2 ∷ 2 ∷ 2 ∷ []

unfoldable pub automaton_v : Automaton
automaton_v =
    record {
      states = 3;
      symbols = 2;
      capacity = 1;
      initial = 0;
      classes = pad 16 (0 ∷ 1 ∷ []);
      accepting = pad 32 (1 ∷ 0 ∷ 1 ∷ []);
      next = pad 512 (pad 16 (1 ∷ 0 ∷ []) ++ pad 16 (1 ∷ 2 ∷ []) ++ pad 16 (2 ∷ 2 ∷ []));
    }

-- sheet W (0 Sign, 1 Withdraw, 2 Page, 3 Receipt), and its record
abbrev pub bytes_w : List ℕ
bytes_w =
    4 ∷ 4 ∷ 2 ∷ 0 ∷
    0 ∷ 0 ∷ 1 ∷ 1 ∷
    1 ∷ 1 ∷ 0 ∷ 0 ∷
    1 ∷ 0 ∷ 3 ∷ 0 ∷
    1 ∷ 0 ∷ 2 ∷ 1 ∷
    2 ∷ 3 ∷ 3 ∷ 1 ∷
    3 ∷ 3 ∷ 3 ∷ 3 ∷ []

unfoldable pub automaton_w : Automaton
automaton_w =
    record {
      states = 4;
      symbols = 4;
      capacity = 2;
      initial = 0;
      classes = pad 16 (0 ∷ 0 ∷ 1 ∷ 1 ∷ []);
      accepting = pad 32 (1 ∷ 1 ∷ 0 ∷ 0 ∷ []);
      next = pad 512 (pad 16 (1 ∷ 0 ∷ 3 ∷ 0 ∷ []) ++ pad 16 (1 ∷ 0 ∷ 2 ∷ 1 ∷ []) ++ pad 16 (2 ∷ 3 ∷ 3 ∷ 1 ∷ [])
          ++ pad 16 (3 ∷ 3 ∷ 3 ∷ 3 ∷ []));
    }

-- an automaton on which two events of one kind can go out together: 1 has to wait for 0
unfoldable pub automaton_pair : Automaton
automaton_pair =
    record {
      states = 3;
      symbols = 2;
      capacity = 2;
      initial = 0;
      classes = pad 16 (0 ∷ 1 ∷ []);
      accepting = pad 32 (1 ∷ 1 ∷ 0 ∷ []);
      next = pad 512 (pad 16 (1 ∷ 2 ∷ []) ++ pad 16 (1 ∷ 1 ∷ []) ++ pad 16 (2 ∷ 2 ∷ []));
    }

-- an automaton without uncontrollable symbols, on which 0 goes out only with a 1 behind it
unfoldable pub behind : ℕ → Automaton
behind b =
    record {
      states = 2;
      symbols = 2;
      capacity = b;
      initial = 0;
      classes = pad 16 (1 ∷ 1 ∷ []);
      accepting = pad 32 (1 ∷ 0 ∷ []);
      next = pad 512 (pad 16 (1 ∷ 0 ∷ []) ++ pad 16 (1 ∷ 0 ∷ []));
    }

-- an automaton of one state with an uncontrollable symbol and k controllable ones
unfoldable pub sized : ℕ → ℕ → Automaton
sized k b =
    record {
      states = 1;
      symbols = suc k;
      capacity = b;
      initial = 0;
      classes = pad 16 (0 ∷ replicate k 1);
      accepting = pad 32 (1 ∷ []);
      next = replicate 512 0;
    }

-- a position: state, held events, their places in the input, input count, output count
abbrev pub at : ℕ → List ℕ → List ℕ → ℕ → ℕ → Position
at q held places received emitted =
    record { state = q; buffer = held; places = places; received = received; emitted = emitted }

-- the whole answer to an event: refusal, symbols emitted and their places in the input, the
-- position after it, winning (document 01's guarded)
abbrev pub answer : ℕ → List ℕ → List ℕ → Position → Bool → Received
answer row emitted sources p winning =
    record {
      refusal = row;
      configuration = configuration p;
      emitted = pad 7 emitted;
      count = length emitted;
      winning = winning;
      places = map input_place (pad 7 sources);
    }

pub data Case : Type 0 where
  -- bytes of a sheet, its record
  encoded : List ℕ → Automaton → Case
  -- its table and rounds
  solved : Automaton → List ℕ → ℕ → Case
  -- whether it is initially winning
  initially : Automaton → Bool → Case
  -- events over its table, from the initial configuration on, and their answers
  events : Automaton → List ℕ → List Received → Case
  -- an event over its table at a position, and its answer
  later : Automaton → Position → ℕ → Received → Case
  -- an event over its table at a position, and the row that refuses it there
  refused : Automaton → Position → ℕ → ℕ → Case
  -- a number and its bytes
  number : ℕ → List ℕ → Case
  -- bytes that are not the fewest, and their number
  padded : List ℕ → ℕ → Case
  -- k, B and T
  buffers : ℕ → ℕ → ℕ → Case

abbrev pub Holds : Case → Type 0
Holds (encoded s a) = parse s ≡ parsed a
Holds (solved a t r) = (table a ≡ t) × (rounds a ≡ r)
Holds (initially a w) = status a (table a) (initial_of a) ≡ record { refusal = 0; winning = w }
Holds (events a es rs) = replies a (table a) (initial_of a) (map receive_call es) ≡ map receive rs
Holds (later a p e r) = received a (table a) (configuration p) e ≡ r
Holds (refused a p e row) = received a (table a) (configuration p) e ≡ answer row [] [] p false
Holds (number v s) = (bytes v ≡ s) × (read s 0 ≡ value v (length s))
Holds (padded s v) = read s 0 ≡ value v (length s)
Holds (buffers k b t) = (controllables (sized k b) ≡ k) × (count_answer (sized k b) ≡ record { refusal = 0; count = t })

abbrev pub cases : List Case
cases =
    encoded bytes_v automaton_v ∷
    encoded bytes_w automaton_w ∷
    solved automaton_v (4 ∷ 0 ∷ 5 ∷ 6 ∷ []) 1 ∷
    solved automaton_w (3 ∷ 0 ∷ 3 ∷ 0 ∷ 3 ∷ 7 ∷ 3 ∷ 0 ∷ 3 ∷ 2 ∷ 3 ∷ 7 ∷ 3 ∷ 7 ∷ []) 0 ∷
    initially automaton_v false ∷
    -- Answer, Query
    events automaton_v (1 ∷ 0 ∷ [])
    (answer 0 [] [] (at 0 (1 ∷ []) (0 ∷ []) 1 0) true ∷
    answer 0 (0 ∷ 1 ∷ []) (1 ∷ 0 ∷ []) (at 2 [] [] 2 2) true ∷ []) ∷
    -- Query, Answer
    events automaton_v (0 ∷ 1 ∷ [])
    (answer 0 (0 ∷ []) (0 ∷ []) (at 1 [] [] 1 1) false ∷
    answer 0 (1 ∷ []) (1 ∷ []) (at 2 [] [] 2 2) true ∷ []) ∷
    -- Page, Receipt, Sign
    events automaton_w (2 ∷ 3 ∷ 0 ∷ [])
    (answer 0 [] [] (at 0 (2 ∷ []) (0 ∷ []) 1 0) true ∷
    answer 0 [] [] (at 0 (2 ∷ 3 ∷ []) (0 ∷ 1 ∷ []) 2 0) true ∷
    answer 0 (0 ∷ 2 ∷ 3 ∷ []) (2 ∷ 0 ∷ 1 ∷ []) (at 1 [] [] 3 3) true ∷ []) ∷
    -- Sign, Page, Withdraw
    events automaton_w (0 ∷ 2 ∷ 1 ∷ [])
    (answer 0 (0 ∷ []) (0 ∷ []) (at 1 [] [] 1 1) true ∷
    answer 0 [] [] (at 1 (2 ∷ []) (1 ∷ []) 2 1) true ∷
    answer 0 (1 ∷ []) (2 ∷ []) (at 0 (2 ∷ []) (1 ∷ []) 3 2) true ∷ []) ∷
    -- Page three times
    events automaton_w (2 ∷ 2 ∷ 2 ∷ [])
    (answer 0 [] [] (at 0 (2 ∷ []) (0 ∷ []) 1 0) true ∷
    answer 0 [] [] (at 0 (2 ∷ 2 ∷ []) (0 ∷ 1 ∷ []) 2 0) true ∷
    answer 15 [] [] (at 0 (2 ∷ 2 ∷ []) (0 ∷ 1 ∷ []) 2 0) false ∷ []) ∷
    -- Sign, Receipt
    events automaton_w (0 ∷ 3 ∷ [])
    (answer 0 (0 ∷ []) (0 ∷ []) (at 1 [] [] 1 1) true ∷
    answer 0 (3 ∷ []) (1 ∷ []) (at 1 [] [] 2 2) true ∷ []) ∷
    -- two of one kind, in the order of their places
    events automaton_pair (1 ∷ 1 ∷ 0 ∷ [])
    (answer 0 [] [] (at 0 (1 ∷ []) (0 ∷ []) 1 0) true ∷
    answer 0 [] [] (at 0 (1 ∷ 1 ∷ []) (0 ∷ 1 ∷ []) 2 0) true ∷
    answer 0 (0 ∷ 1 ∷ 1 ∷ []) (2 ∷ 0 ∷ 1 ∷ []) (at 1 [] [] 3 3) true ∷ []) ∷
    -- Answer twice: the second comes at a full buffer and opens it for the first
    events automaton_v (1 ∷ 1 ∷ [])
    (answer 0 [] [] (at 0 (1 ∷ []) (0 ∷ []) 1 0) true ∷
    answer 0 (1 ∷ []) (0 ∷ []) (at 0 (1 ∷ []) (1 ∷ []) 2 1) true ∷ []) ∷
    -- 0 does not open the full buffer, though nothing of it need go out; 1 opens it, for both
    events (behind 1) (0 ∷ 0 ∷ 1 ∷ [])
    (answer 0 [] [] (at 0 (0 ∷ []) (0 ∷ []) 1 0) true ∷
    answer 15 [] [] (at 0 (0 ∷ []) (0 ∷ []) 1 0) false ∷
    answer 0 (0 ∷ 1 ∷ []) (0 ∷ 1 ∷ []) (at 0 [] [] 2 2) true ∷ []) ∷
    -- six held: 1 puts out all seven, and 0 is refused
    later (behind 6) (at 0 (replicate 6 0) (0 ∷ 1 ∷ 2 ∷ 3 ∷ 4 ∷ 5 ∷ []) 6 0) 1
    (answer 0 (replicate 6 0 ++ 1 ∷ []) (0 ∷ 1 ∷ 2 ∷ 3 ∷ 4 ∷ 5 ∷ 6 ∷ []) (at 0 [] [] 7 7) true) ∷
    refused (behind 6) (at 0 (replicate 6 0) (0 ∷ 1 ∷ 2 ∷ 3 ∷ 4 ∷ 5 ∷ []) 6 0) 0 15 ∷
    -- the last event that can be accepted: Sign; then the input count is at its end
    later automaton_w (at 0 [] [] 4294967294 4294967294) 0
    (answer 0 (0 ∷ []) (4294967294 ∷ []) (at 1 [] [] 4294967295 4294967295) true) ∷
    -- there Sign, and Page with room, are refused by row 23, and so is Answer at a full buffer
    -- that it opens; Page at one that it does not by row 15, and what is no symbol by row 14
    refused automaton_w (at 1 [] [] 4294967295 4294967295) 0 23 ∷
    refused automaton_w (at 0 (2 ∷ []) (7 ∷ []) 4294967295 4294967294) 2 23 ∷
    refused automaton_v (at 0 (1 ∷ []) (7 ∷ []) 4294967295 4294967294) 1 23 ∷
    refused automaton_w (at 0 (2 ∷ 2 ∷ []) (7 ∷ 8 ∷ []) 4294967295 4294967293) 2 15 ∷
    refused automaton_w (at 1 [] [] 4294967295 4294967295) 4 14 ∷
    -- row 13: a place at the count, equal places, an unused place that is not 0, counts that do
    -- not fit what is held, also where they would in 32 bits
    refused automaton_w (at 0 (2 ∷ []) (1 ∷ []) 1 0) 0 13 ∷
    refused automaton_w (at 0 (2 ∷ 2 ∷ []) (1 ∷ 1 ∷ []) 4 2) 0 13 ∷
    refused automaton_w (at 0 [] (1 ∷ []) 2 2) 0 13 ∷
    refused automaton_w (at 0 (2 ∷ []) (0 ∷ []) 2 0) 0 13 ∷
    refused automaton_w (at 0 (2 ∷ []) (0 ∷ []) 0 4294967295) 0 13 ∷
    number 127 (127 ∷ []) ∷
    number 128 (128 ∷ 1 ∷ []) ∷
    number 2097151 (255 ∷ 255 ∷ 127 ∷ []) ∷
    padded (128 ∷ 0 ∷ []) 0 ∷
    buffers 2 2 7 ∷
    buffers 0 6 1 ∷
    buffers 8 6 299593 ∷ []

-- all of them hold
abbrev pub MarkedCases : Type 0
MarkedCases = AllOf Holds cases
