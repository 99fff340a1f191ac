-- The transcript piece by piece: what is still to come of it, and what one piece is.
use Rattle.std.specs.Prelude.{ℕ, suc, ◌+◌, ◌≡◌, Bool, cond, ◌&&◌, List, [], ◌++◌, length, eqb, leb}
use Rattle.automaton.specs.declared.Automaton.{Automaton}
use Rattle.automaton.specs.Automaton.{blank}
use Rattle.automaton_format.specs.Opening.{opening}
use Rattle.solver_answers.specs.Solving.{solved_table}
use Rattle.text.specs.Decimal.{Appended}
use Rattle.text_lines.specs.Lines.{fault_line, refusal_line}
use Rattle.day_transcript.specs.Transcript.{Session, event_lines, session_lines, too_long, over_places, session_from}
pub use Rattle.day_transcript.specs.declared.Progress.{Progress}
pub use Rattle.day_transcript.specs.declared.Phase.{Phase}
use Rattle.day_transcript.specs.declared.Phase.TheVariants.{Ended, Refused, Faulted, Opening, Receiving}
pub use Rattle.day_transcript.specs.declared.Piece.{Piece}

-- a session on an input of n bytes: its place is in it, and each event that was counted took a
-- byte before that place
unfoldable pub belongs : ℕ → Session → Bool
belongs n u = leb (u.accepted + u.refused) u.place && leb u.place n

-- what is still to come in a phase of a session, over a lent table; nothing of one that is not on
-- this input
unfoldable pub in_phase : List ℕ → List ℕ → Session → Phase → List ℕ
in_phase t s u Ended = []
in_phase t s u (Refused row) = refusal_line row
in_phase t s u (Faulted row at) = fault_line row at
in_phase t s u Opening = cond (belongs (length s) u) (session_lines t s u) []
in_phase t s u Receiving = cond (belongs (length s) u) (event_lines (suc (length s)) t s u) []

unfoldable pub to_come : List ℕ → List ℕ → Progress → List ℕ
to_come t s p = in_phase t s p.session p.phase

-- the lent table after the beginning: solved, where a sheet was read and the table is long enough
unfoldable pub table_after : List ℕ → List ℕ → List ℕ
table_after s t = cond (too_long s) t (cond (eqb (opening s).refusal 0) (solved_table (opening s).automaton t) t)

-- a phase of a session
abbrev pub at : Phase → Session → Progress
at phase u = record { phase = phase; session = u }

-- a phase in which no session is looked at
unfoldable pub without : Phase → Progress
without phase = at phase (session_from blank 0)

-- what comes after a sheet whose events begin at a place
unfoldable pub opened : Automaton → ℕ → Progress
opened a place = cond (over_places a) (without (Refused 12)) (at Opening (session_from a place))

-- what was written in a lent buffer from a place on, followed by what is still to come, is what
-- was to come before
pub record Continued (t s : List ℕ) (before : Progress) (out : List ℕ) (from : ℕ)
    (out' : List ℕ) (after : Progress) (next : ℕ) : Type 0 where
  pub written : List ℕ
  pub stored : Appended out from written out' next
  pub whole : written ++ to_come t s after ≡ to_come t s before

-- one line; nothing is written only where nothing is to come
pub record Line (t s : List ℕ) (before : Progress) (out : List ℕ) (from : ℕ)
    (out' : List ℕ) (after : Progress) (next : ℕ) : Type 0 where
  pub continued : Continued t s before out from out' after next
  pub ended : next ≡ from → to_come t s before ≡ []
