-- What the day program prints on an input: every line in order, as bytes (document 01, "The day
-- program").
use Rattle.std.specs.Prelude.{ℕ, zero, suc, ◌+◌, ◌*◌, Bool, cond, List, [], ◌++◌, length, take, eqb, ltb}
use Rattle.varint.specs.Varint.{read}
use Rattle.automaton.specs.declared.Automaton.{Automaton}
use Rattle.automaton_format.specs.Opening.{opening}
use Rattle.solver_sets.specs.Table.{buffers_count, table}
use Rattle.configuration.specs.Configuration.{initial_of}
use Rattle.monitor_answers.specs.declared.Received.{Received}
use Rattle.monitor_answers.specs.Answers.{status, received}
use Rattle.text_lines.specs.Lines.{refused_event_line, end_line, fault_line, refusal_line, max_input}
use Rattle.day_lines.specs.StatusLines.{automaton_line, event_line}
pub use Rattle.day_transcript.specs.declared.Session.{Session}

-- a session before its first event, which begins at a place
unfoldable pub session_from : Automaton → ℕ → Session
session_from a at = record { automaton = a; configuration = initial_of a; place = at; accepted = 0; refused = 0 }

-- the first line
unfoldable pub first_line : List ℕ → Session → List ℕ
first_line t u =
    let a = u.automaton in
    automaton_line a.states a.symbols a.capacity a.initial (status a t u.configuration).winning

-- the line of an event that was answered
unfoldable pub answer_line : ℕ → Received → List ℕ
answer_line e r =
    cond (eqb r.refusal 0)
    (event_line e (take r.count r.emitted) r.configuration.state r.configuration.held r.winning)
    (refused_event_line e r.refusal)

-- the session after it, with the place of the next event
unfoldable pub after : Session → ℕ → Received → Session
after u next r =
    record {
      automaton = u.automaton;
      configuration = r.configuration;
      place = next;
      accepted = u.accepted + cond (eqb r.refusal 0) 1 0;
      refused = u.refused + cond (eqb r.refusal 0) 0 1;
    }

-- The lines of the events from the session's place to the input's end, and the last line; a fault
-- in an event's number ends them. (An event has a byte at least, so as many steps as there are
-- bytes and one are enough.)
unfoldable pub event_lines : ℕ → List ℕ → List ℕ → Session → List ℕ
event_lines zero t s u = []
event_lines (suc k) t s u =
    let n = read s u.place in
    let r = received u.automaton t u.configuration n.value in
    cond (ltb u.place (length s))
    (cond (eqb n.refusal 0)
    (answer_line n.value r ++ event_lines k t s (after u n.place r))
    (fault_line n.refusal n.place))
    (end_line u.accepted u.refused)

-- a session's lines over a table
unfoldable pub session_lines : List ℕ → List ℕ → Session → List ℕ
session_lines t s u = first_line t u ++ event_lines (suc (length s)) t s u

-- row 18
unfoldable pub too_long : List ℕ → Bool
too_long s = ltb max_input (length s)

-- row 12: 2T is over the number of places that the program has
unfoldable pub over_places : Automaton → Bool
over_places a = ltb 16384 (2 * buffers_count a)

unfoldable pub transcript : List ℕ → List ℕ
transcript s =
    let p = opening s in
    cond (too_long s)
    (refusal_line 18)
    (cond (eqb p.refusal 0)
    (cond (over_places p.automaton)
    (refusal_line 12)
    (session_lines (table p.automaton) s (session_from p.automaton p.place)))
    (fault_line p.refusal p.place))
