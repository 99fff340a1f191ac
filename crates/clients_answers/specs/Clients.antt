-- A list of clients (document 02's growers) over one automaton and one table: one event for a
-- client, and a whole day of all of them. Each client's configuration lies in the lent list.
use Rattle.std.specs.Prelude.{ℕ, ◌+◌, ◌/◌, ◌%◌, Bool, false, cond, not, ◌&&◌, List, [], ◌∷◌, ◌++◌, map, length, get_or, drop, replicate, eqb, leb, ltb}
use Rattle.base.specs.Rows.{first}
use Rattle.base.specs.Pad.{pad}
use Rattle.automaton.specs.declared.Automaton.{Automaton}
use Rattle.configuration_places.specs.Places.{input_place}
use Rattle.configuration.specs.declared.Configuration.{Configuration}
use Rattle.configuration.specs.Configuration.{empty_at, configuration, consistent, initial_of}
use Rattle.monitor_answers.specs.declared.Received.{Received}
use Rattle.monitor_answers.specs.Answers.{table_rows, is_winning, too_short}
use Rattle.monitor_answers.specs.Turns.{turn_rows, turn_refusal, turn_emitted, turn_sources, turn_next}
use Rattle.clients_answers.specs.Listed.{Stepping, outcomes, changed_by}
pub use Rattle.clients_answers.specs.declared.ReceivedFor.{ReceivedFor}
pub use Rattle.clients_answers.specs.declared.RanFor.{RanFor}

-- the most clients of a list
abbrev pub max_clients : ℕ
max_clients = 500

-- what stands past the end of a list of configurations
abbrev pub none : Configuration
none = configuration (empty_at 0)

-- every client in the initial configuration
unfoldable pub initial_clients : Automaton → ℕ → List Configuration
initial_clients a count = replicate count (initial_of a)

-- a day's event number is client * 65,536 + symbol
unfoldable pub client_of : ℕ → ℕ
client_of v = v / 65536

unfoldable pub symbol_of : ℕ → ℕ
symbol_of v = v % 65536

-- a day's events, each with its client's number first
unfoldable pub named : List ℕ → List (ℕ × ℕ)
named [] = []
named (v ∷ vs) = (client_of v, symbol_of v) ∷ named vs

-- a list of none or of too many is refused by 20
abbrev pub right_count : ℕ → Bool
right_count count = ltb 0 count && leb count max_clients

-- rows 11, 12 and 20: they refuse the call, whatever it brings
unfoldable pub list_rows : Automaton → List ℕ → ℕ → List (ℕ × Bool)
list_rows a t count = table_rows a t ++ (20, not (right_count count)) ∷ []

unfoldable pub list_refusal : Automaton → List ℕ → ℕ → ℕ
list_refusal a t count = first (list_rows a t count)

-- the rows of an event for a client: 19, no such client; then 13 to 15 and 23, of its own
-- configuration alone
unfoldable pub client_rows : Automaton → List ℕ → List Configuration → ℕ → ℕ → List (ℕ × Bool)
client_rows a t cs i e = (19, not (ltb i (length cs))) ∷ turn_rows a t (get_or cs i none) e

-- what an event brings its client: the row that refuses it (0: none), what is emitted, and the
-- places in the input of that
pub record Outcome : Type 0 where
  pub refusal : ℕ
  pub emitted : List ℕ
  pub sources : List ℕ

-- the step of a client: one event for its configuration; an event for a client that is not there
-- is refused by 19 and emits nothing
abbrev pub monitored : Automaton → List ℕ → Stepping Configuration Outcome
monitored a t =
    record {
      says = λ c e. record { refusal = turn_refusal a t c e; emitted = turn_emitted a t c e; sources = turn_sources a t c e };
      next = turn_next a t;
      absent = record { refusal = 19; emitted = []; sources = [] };
      none = none;
    }

-- all that is emitted, in the order of the events, and how many events are refused
unfoldable pub emitted_of : List Outcome → List ℕ
emitted_of [] = []
emitted_of (x ∷ xs) = x.emitted ++ emitted_of xs

unfoldable pub refused_in : List Outcome → ℕ
refused_in [] = 0
refused_in (x ∷ xs) = cond (eqb x.refusal 0) 0 1 + refused_in xs

-- one event: rows 11, 12, 20, 19, 13, 14, 15, 23
unfoldable pub receive_for_refusal : Automaton → List ℕ → List Configuration → ℕ → ℕ → ℕ
receive_for_refusal a t cs i e = first (list_rows a t (length cs) ++ client_rows a t cs i e)

-- a refused one
abbrev pub refused_for : ℕ → ReceivedFor
refused_for row =
    record { refusal = row; emitted = replicate 7 0; count = 0; winning = false; places = replicate 7 (input_place 0) }

unfoldable pub received_for : Automaton → List ℕ → List Configuration → ℕ → ℕ → ReceivedFor
received_for a t cs i e =
    let c = get_or cs i none in
    let emitted = turn_emitted a t c e in
    cond (eqb (receive_for_refusal a t cs i e) 0)
    (record {
      refusal = 0;
      emitted = pad 7 emitted;
      count = length emitted;
      winning = is_winning a t (turn_next a t c e);
      places = map input_place (pad 7 (turn_sources a t c e));
    })
    (refused_for (receive_for_refusal a t cs i e))

-- the answer of a call on a client's configuration alone as one over the list, where that lies
abbrev pub answer_of : Received → ReceivedFor
answer_of r =
    record { refusal = r.refusal; emitted = r.emitted; count = r.count; winning = r.winning; places = r.places }

-- the lent list afterwards
unfoldable pub received_clients : Automaton → List ℕ → List Configuration → ℕ → ℕ → List Configuration
received_clients a t cs i e = cond (eqb (list_refusal a t (length cs)) 0) (changed_by (monitored a t) cs ((i, e) ∷ [])) cs

-- how many events a configuration holds for row 16: none where row 13 refuses it
unfoldable pub held_in : Automaton → Configuration → ℕ
held_in a c = cond (consistent a c) c.held 0

-- all of a list together
unfoldable pub held_in_all : Automaton → List Configuration → ℕ
held_in_all a [] = 0
held_in_all a (c ∷ cs) = held_in a c + held_in_all a cs

-- row 16 of a day
abbrev pub room_rows : Automaton → List Configuration → List ℕ → List ℕ → List (ℕ × Bool)
room_rows a cs vs out = (16, too_short (length out) vs (held_in_all a cs)) ∷ []

-- a whole day: rows 11, 12, 20, 16
unfoldable pub run_for_refusal : Automaton → List ℕ → List Configuration → List ℕ → List ℕ → ℕ
run_for_refusal a t cs vs out = first (list_rows a t (length cs) ++ room_rows a cs vs out)

-- what each event of a day brings: a day that is refused brings none
unfoldable pub day_outcomes : Automaton → List ℕ → List Configuration → List ℕ → List ℕ → List Outcome
day_outcomes a t cs vs out = cond (eqb (run_for_refusal a t cs vs out) 0) (outcomes (monitored a t) cs (named vs)) []

-- a refused one
abbrev pub refused_run_for : ℕ → RanFor
refused_run_for row = record { refusal = row; length = 0; refused = 0 }

unfoldable pub ran_for : Automaton → List ℕ → List Configuration → List ℕ → List ℕ → RanFor
ran_for a t cs vs out =
    let xs = day_outcomes a t cs vs out in
    record { refusal = run_for_refusal a t cs vs out; length = length (emitted_of xs); refused = refused_in xs }

-- the lent list and the lent output afterwards
unfoldable pub ran_clients : Automaton → List ℕ → List Configuration → List ℕ → List ℕ → List Configuration
ran_clients a t cs vs out = cond (eqb (run_for_refusal a t cs vs out) 0) (changed_by (monitored a t) cs (named vs)) cs

unfoldable pub ran_for_buffer : Automaton → List ℕ → List Configuration → List ℕ → List ℕ → List ℕ
ran_for_buffer a t cs vs out =
    let bytes = emitted_of (day_outcomes a t cs vs out) in
    bytes ++ drop (length bytes) out
