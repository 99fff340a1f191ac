-- The published enforcement function (source document 001, Definition 3.10; document 01's
-- whole-day function). It knows the automaton, is fed events and the room of a day's output, and
-- keeps an output and a buffer; the sets are by striking, from no table. With each symbol and each
-- held event it keeps its place among the accepted events (document 02, Card 4), which it counts.
use Rattle.std.specs.Prelude.{ℕ, ◌+◌, Bool, cond, List, [], ◌∷◌, ◌++◌, length, take, drop, eqb}
use Rattle.automaton.specs.declared.Automaton.{Automaton}
use Rattle.automaton.specs.Automaton.{controllable, reached}
use Rattle.configuration.specs.Configuration.{Position}
use Rattle.monitor_rule.specs.Step.{by_sets, release, remaining, event_refusal}
use Rattle.monitor_answers.specs.Answers.{too_short}

pub record Store : Type 0 where
  pub output : List ℕ
  pub sources : List ℕ
  pub buffer : List ℕ
  pub places : List ℕ
  pub accepted : ℕ

-- nothing at first
abbrev pub empty : Store
empty = record { output = []; sources = []; buffer = []; places = []; accepted = 0 }

-- its state is where its output leads
unfoldable pub state_of : Automaton → Store → ℕ
state_of a s = reached a a.initial s.output

-- its position
abbrev pub position_at : Automaton → Store → Position
position_at a s =
    record {
      state = state_of a s;
      buffer = s.buffer;
      places = s.places;
      received = s.accepted;
      emitted = length s.output;
    }

-- an accepted event goes to the output's end, or to the buffer's, with its place
unfoldable pub added : Automaton → Store → ℕ → Store
added a s e =
    cond (controllable a e)
    (record {
      output = s.output;
      sources = s.sources;
      buffer = s.buffer ++ e ∷ [];
      places = s.places ++ s.accepted ∷ [];
      accepted = s.accepted + 1;
    })
    (record {
      output = s.output ++ e ∷ [];
      sources = s.sources ++ s.accepted ∷ [];
      buffer = remaining a e s.buffer;
      places = remaining a e s.places;
      accepted = s.accepted + 1;
    })

-- then the longest front part of the buffer that leads the state into S of what is left moves to
-- the output's end, and as many places with it
unfoldable pub released : Automaton → Store → Store
released a s =
    let k = release (by_sets a) a (state_of a s) s.buffer in
    record {
      output = s.output ++ take k s.buffer;
      sources = s.sources ++ take k s.places;
      buffer = drop k s.buffer;
      places = drop k s.places;
      accepted = s.accepted;
    }

-- the row that refuses an event, by its state, this buffer, the sets and its own count
abbrev pub refusal_at : Automaton → Store → ℕ → ℕ
refusal_at a s e = event_refusal (by_sets a) a (position_at a s) e

-- an event that a row refuses changes nothing
unfoldable pub store : Automaton → Store → ℕ → Store
store a s e = cond (eqb (refusal_at a s e) 0) (released a (added a s e)) s

unfoldable pub store_all : Automaton → Store → List ℕ → Store
store_all a s [] = s
store_all a s (e ∷ es) = store_all a (store a s e) es

-- what a call feeds it: an event, or a day's events with its output's length
pub data Feed : Type 0 where
  event : ℕ → Feed
  events : List ℕ → ℕ → Feed

-- row 16, by this buffer
unfoldable pub lacks_room : Store → List ℕ → ℕ → Bool
lacks_room s es size = too_short size es (length s.buffer)

unfoldable pub feed : Automaton → Store → Feed → Store
feed a s (event e) = store a s e
feed a s (events es size) = cond (lacks_room s es size) s (store_all a s es)

unfoldable pub feed_all : Automaton → Store → List Feed → Store
feed_all a s [] = s
feed_all a s (x ∷ xs) = feed_all a (feed a s x) xs

-- how many of a day's events it refuses
unfoldable pub refused_of : Automaton → Store → List ℕ → ℕ
refused_of a s [] = 0
refused_of a s (e ∷ es) = cond (eqb (refusal_at a s e) 0) 0 1 + refused_of a (store a s e) es

-- the events that it accepts, of a day and of what calls feed it
unfoldable pub accepted_of : Automaton → Store → List ℕ → List ℕ
accepted_of a s [] = []
accepted_of a s (e ∷ es) = cond (eqb (refusal_at a s e) 0) (e ∷ []) [] ++ accepted_of a (store a s e) es

unfoldable pub accepted_by : Automaton → Store → Feed → List ℕ
accepted_by a s (event e) = accepted_of a s (e ∷ [])
accepted_by a s (events es size) = cond (lacks_room s es size) [] (accepted_of a s es)

unfoldable pub accepted_all : Automaton → Store → List Feed → List ℕ
accepted_all a s [] = []
accepted_all a s (x ∷ xs) = accepted_by a s x ++ accepted_all a (feed a s x) xs
