-- The published function (Definition 3.10 of source document 001) in document 01's words: what it
-- is after an event or a day, from what it was before. Nothing of the monitor's step is used,
-- neither its release nor its tests of the rows.
use Rattle.std.specs.Prelude.{ℕ, suc, ◌+◌, ◌<◌, ◌≤◌, ◌≡◌, ◌⊎◌, List, [], ◌∷◌, ◌++◌, length, take, drop}
use Rattle.automaton.specs.declared.Automaton.{Automaton}
use Rattle.automaton.specs.Automaton.{class, reached}
use Rattle.solver_sets.specs.Claims.{Winning}
use Rattle.monitor_rule.specs.Claims.{Unknown, Full, Shut, CountEnded, Admitted, RowsOfEvent, Longest, Opened}
use Rattle.monitor_answers.specs.Claims.{RowOfRun}
use Rattle.enforcement.specs.Store.{Store, store, store_all, event, events, feed, refused_of}
use Rattle.enforcement.specs.Calls.{receive_call, run_call, refusal_in, expected}

-- From an output and a buffer, with the places of both, the function goes on to z: of the buffer's
-- front parts that lead the state, which is where the output leads, into S of what is left, the
-- longest moves to the output's end; if there is none, nothing moves. As many places move with it.
pub record Releases (a : Automaton) (output sources buffer places : List ℕ) (z : Store) : Type 0 where
  pub front : List ℕ
  pub put-out : z.output ≡ output ++ front
  pub longest : Longest (Winning a) a (reached a a.initial output) buffer front z.buffer
  pub moved : z.sources ≡ sources ++ take (length front) places
  pub left : z.places ≡ drop (length front) places

-- An event that row 15 refuses, one that row 23 does, and one that none does, by where the output
-- leads, what is held and how many were accepted before; whether the newcomer opens a full buffer
-- is by the sets S.
abbrev pub ShutAt : Automaton → Store → ℕ → Type 0
ShutAt a s e = Shut (Winning a) a (reached a a.initial s.output) s.buffer e

abbrev pub EndedAt : Automaton → Store → ℕ → Type 0
EndedAt a s e = CountEnded (Winning a) a (reached a a.initial s.output) s.buffer s.accepted e

abbrev pub AdmittedAt : Automaton → Store → ℕ → Type 0
AdmittedAt a s e = Admitted (Winning a) a (reached a a.initial s.output) s.buffer s.accepted e

-- an event that a row refuses
abbrev pub Refused : Automaton → Store → ℕ → Type 0
Refused a s e = Unknown a e ⊎ ShutAt a s e ⊎ EndedAt a s e

-- From s the function goes on to z by an event that a full buffer accepts (document 02, Card 5):
-- a front part of the buffer with the newcomer moves to the output's end that is not empty, and
-- the longest that leads the state into S of what is left; where the output leads then lies in S
-- of what is held then.
pub record OpensBuffer (a : Automaton) (s : Store) (e : ℕ) (z : Store) : Type 0 where
  pub front : List ℕ
  pub put-out : z.output ≡ s.output ++ front
  pub opened : Opened (Winning a) a (reached a a.initial s.output) s.buffer e front z.buffer
      (reached a a.initial z.output)

pub record AsPublished (a : Automaton) (s : Store) : Type 0 where
  -- an accepted event goes to the output's end if it is not controllable, else to the buffer's,
  -- and so does its place, which is how many were accepted before it
  pub passes : (e : ℕ) → (class a e ≡ 1 → ⊥) → AdmittedAt a s e
      → Releases a (s.output ++ e ∷ []) (s.sources ++ s.accepted ∷ []) s.buffer s.places (store a s e)
  pub holds : (e : ℕ) → class a e ≡ 1 → AdmittedAt a s e
      → Releases a s.output s.sources (s.buffer ++ e ∷ []) (s.places ++ s.accepted ∷ []) (store a s e)
  pub counts : (e : ℕ) → AdmittedAt a s e → (store a s e).accepted ≡ suc s.accepted
  -- at a full buffer it opens the buffer
  pub opens : (e : ℕ) → Full a s.buffer e → AdmittedAt a s e → OpensBuffer a s e (store a s e)
  -- one that a row refuses changes nothing
  pub refuses : (e : ℕ) → Refused a s e → store a s e ≡ s
  -- an event is fed as it is; of a list, one after the other
  pub event-fed : (e : ℕ) → feed a s (event e) ≡ store a s e
  pub none-fed : store_all a s [] ≡ s
  pub first-fed : (e : ℕ) (es : List ℕ) → store_all a s (e ∷ es) ≡ store_all a (store a s e) es
  -- a day that row 16 refuses, by this buffer, brings no event; any other brings all, in order
  pub run_short : (es : List ℕ) (size : ℕ) → size < length es + length s.buffer → feed a s (events es size) ≡ s
  pub run-fed : (es : List ℕ) (size : ℕ) → length es + length s.buffer ≤ size → feed a s (events es size) ≡ store_all a s es
  -- of a day's events those are counted that a row refuses
  pub none-counted : refused_of a s [] ≡ 0
  pub counted : (e : ℕ) (es : List ℕ) → Refused a s e → refused_of a s (e ∷ es) ≡ suc (refused_of a s es)
  pub not-counted : (e : ℕ) (es : List ℕ) → AdmittedAt a s e → refused_of a s (e ∷ es) ≡ refused_of a (store a s e) es
  -- its replies give the number of the row that refuses, and else 0
  pub event-row : (e : ℕ)
      → RowsOfEvent (Winning a) a (reached a a.initial s.output) s.buffer s.accepted e
      (refusal_in (expected a s (receive_call e)))
  pub run_row : (es out : List ℕ) → RowOfRun (length out) es (length s.buffer) (refusal_in (expected a s (run_call es out)))

-- so it is of every automaton and whatever was put out and is held
abbrev pub FollowsPublished : Type 0
FollowsPublished = (a : Automaton) (s : Store) → AsPublished a s
