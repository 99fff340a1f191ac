-- What the monitor's calls answer, for any record, table and configuration, and what a run leaves
-- in its lent output (document 01, "One event" and "Numbers of refusal").
use Rattle.std.specs.Prelude.{ℕ, ◌+◌, Bool, false, cond, not, List, [], ◌∷◌, ◌++◌, map, length, drop, replicate, eqb, ltb}
use Rattle.base.specs.Rows.{first}
use Rattle.base.specs.Pad.{pad}
use Rattle.automaton.specs.declared.Automaton.{Automaton}
use Rattle.automaton.specs.Automaton.{valid}
use Rattle.solver_sets.specs.Table.{short}
use Rattle.configuration_places.specs.Places.{input_place}
use Rattle.configuration.specs.declared.Configuration.{Configuration}
use Rattle.configuration.specs.Configuration.{position_of, configuration, held_events, consistent}
use Rattle.monitor_rule.specs.Step.{by_table, effect_from, sources, advance, event_rows, run_of}
pub use Rattle.monitor_answers.specs.declared.Status.{Status}
pub use Rattle.monitor_answers.specs.declared.Received.{Received}
pub use Rattle.monitor_answers.specs.declared.Ran.{Ran}

-- the rows of a record and a table, and those of a configuration
unfoldable pub table_rows : Automaton → List ℕ → List (ℕ × Bool)
table_rows a t = (11, not (valid a)) ∷ (12, short a t) ∷ []

unfoldable pub table_refusal : Automaton → List ℕ → ℕ
table_refusal a t = first (table_rows a t)

unfoldable pub configuration_rows : Automaton → Configuration → List (ℕ × Bool)
configuration_rows a c = (13, not (consistent a c)) ∷ []

-- the rows that every call on a record, a table and a configuration checks first
unfoldable pub call_rows : Automaton → List ℕ → Configuration → List (ℕ × Bool)
call_rows a t c = table_rows a t ++ configuration_rows a c

-- the monitor may rest where it is: a winning configuration (document 01's guarded)
unfoldable pub is_winning : Automaton → List ℕ → Configuration → Bool
is_winning a t c = by_table a t (held_events c) c.state

unfoldable pub call_refusal : Automaton → List ℕ → Configuration → ℕ
call_refusal a t c = first (call_rows a t c)

unfoldable pub status : Automaton → List ℕ → Configuration → Status
status a t c =
    cond (eqb (call_refusal a t c) 0)
    (record { refusal = 0; winning = is_winning a t c })
    (record { refusal = call_refusal a t c; winning = false })

-- one event
unfoldable pub receive_refusal : Automaton → List ℕ → Configuration → ℕ → ℕ
receive_refusal a t c e = first (call_rows a t c ++ event_rows (by_table a t) a (position_of c) e)

-- a refused event
abbrev pub refused_event : ℕ → Configuration → Received
refused_event row c =
    record {
      refusal = row;
      configuration = c;
      emitted = replicate 7 0;
      count = 0;
      winning = false;
      places = replicate 7 (input_place 0);
    }

unfoldable pub received : Automaton → List ℕ → Configuration → ℕ → Received
received a t c e =
    let emitted = (effect_from (by_table a t) a (position_of c) e).emitted in
    let next = advance (by_table a t) a (position_of c) e in
    cond (eqb (receive_refusal a t c e) 0)
    (record {
      refusal = 0;
      configuration = configuration next;
      emitted = pad 7 emitted;
      count = length emitted;
      winning = by_table a t next.buffer next.state;
      places = map input_place (pad 7 (sources (by_table a t) a (position_of c) e));
    })
    (refused_event (receive_refusal a t c e) c)

-- the room that a list of events needs, with so many held
unfoldable pub room : List ℕ → ℕ → ℕ
room events held = length events + held

-- row 16: a lent output of this size is shorter
abbrev pub too_short : ℕ → List ℕ → ℕ → Bool
too_short size events held = ltb size (room events held)

-- a whole day
unfoldable pub run_refusal : Automaton → List ℕ → Configuration → List ℕ → List ℕ → ℕ
run_refusal a t c events out = first (call_rows a t c ++ (16, too_short (length out) events c.held) ∷ [])

-- one that is not refused, and the lent output after it
abbrev pub ran_of : Automaton → List ℕ → Configuration → List ℕ → Ran
ran_of a t c events =
    let r = run_of (by_table a t) a (position_of c) events in
    record { refusal = 0; configuration = configuration r.last; length = length r.emitted; refused = r.refused }

abbrev pub ran_buffer_of : Automaton → List ℕ → Configuration → List ℕ → List ℕ → List ℕ
ran_buffer_of a t c events out =
    let r = run_of (by_table a t) a (position_of c) events in
    r.emitted ++ drop (length r.emitted) out

-- one that is refused
abbrev pub refused_run : ℕ → Configuration → Ran
refused_run row c = record { refusal = row; configuration = c; length = 0; refused = 0 }

unfoldable pub ran : Automaton → List ℕ → Configuration → List ℕ → List ℕ → Ran
ran a t c events out =
    cond (eqb (run_refusal a t c events out) 0) (ran_of a t c events) (refused_run (run_refusal a t c events out) c)

-- the lent output afterwards
unfoldable pub ran_buffer : Automaton → List ℕ → Configuration → List ℕ → List ℕ → List ℕ
ran_buffer a t c events out =
    cond (eqb (run_refusal a t c events out) 0) (ran_buffer_of a t c events out) out
