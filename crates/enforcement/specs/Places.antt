-- What the places mean (document 02, Card 4): the place of an event is where it stands among the
-- accepted events, from 0. Comparing the monitor with the published function does not say so,
-- since both keep places; this does.
use Rattle.std.specs.Prelude.{ℕ, ◌+◌, ◌<◌, ◌≤◌, ◌≡◌, cond, List, [], ◌∷◌, ◌++◌, map, length, get_or, take, eqb}
use Rattle.automaton.specs.declared.Automaton.{Automaton}
use Rattle.configuration_places.specs.Places.{input_number, output_number}
use Rattle.configuration.specs.declared.Configuration.{Configuration}
use Rattle.configuration.specs.Configuration.{held_events, place_numbers, initial_of}
use Rattle.monitor_answers.specs.Answers.{received}
use Rattle.enforcement.specs.Store.{Store, empty, store, Feed, feed_all, accepted_all}
use Rattle.enforcement.specs.Calls.{Call, replies, emitted_all, fed_by}
use Rattle.enforcement.specs.Moments.{moments, sources_at}

-- the event at a place of the accepted ones
unfoldable pub event_at : List ℕ → ℕ → ℕ
event_at accepted n = get_or accepted n 0

-- how often a number stands in a list
unfoldable pub times : ℕ → List ℕ → ℕ
times n [] = 0
times n (x ∷ xs) = cond (eqb x n) 1 0 + times n xs

-- Of a store that has accepted these events: each symbol of the output, and each held event, is
-- the accepted event at its place; each place below their count stands exactly once among the two,
-- and no other does; and they are counted, up to the end.
pub record Traced (accepted : List ℕ) (s : Store) : Type 0 where
  pub put-out : map (event_at accepted) s.sources ≡ s.output
  pub held : map (event_at accepted) s.places ≡ s.buffer
  pub once : (n : ℕ) → n < length accepted → times n (s.sources ++ s.places) ≡ 1
  pub no_other : (n : ℕ) → length accepted ≤ n → times n (s.sources ++ s.places) ≡ 0
  pub counted : s.accepted ≡ length accepted
  pub bounded : length accepted ≤ 4294967295

-- so it is of the published function, of any automaton and whatever it is fed
abbrev pub FunctionTraced : Type 0
FunctionTraced = (a : Automaton) (xs : List Feed) → Traced (accepted_all a empty xs) (feed_all a empty xs)

-- What an accepted event's answer says, the event being the last of those accepted and the
-- function going from s to z: each symbol is the accepted event at its place; and the symbols, and
-- their places, are what the function puts out then, and from where, in its order.
pub record Answered (accepted : List ℕ) (s z : Store) (count : ℕ) (emitted places : List ℕ) : Type 0 where
  pub found : map (event_at accepted) (take count places) ≡ take count emitted
  pub output : z.output ≡ s.output ++ take count emitted
  pub sources : z.sources ≡ s.sources ++ take count places

-- The accepted events of a list of calls, and the configuration after it: what it says of what is
-- held and of both counts; and what an event's answer says then.
pub record PlacesTold (a : Automaton) (t : List ℕ) (calls : List Call) (accepted : List ℕ) (c : Configuration) : Type 0 where
  pub function : Traced accepted (feed_all a empty (map fed_by calls))
  pub put-out : map (event_at accepted) (sources_at a t (moments a t (initial_of a) calls))
      ≡ emitted_all (replies a t (initial_of a) calls)
  pub held : map (event_at accepted) (take c.held (place_numbers c)) ≡ held_events c
  pub received-count : input_number c.received ≡ length accepted
  pub emitted-count : output_number c.emitted ≡ length (emitted_all (replies a t (initial_of a) calls))
  pub answered : (e : ℕ) → let s = feed_all a empty (map fed_by calls) in let r = received a t c e in r.refusal ≡ 0
      → Answered (accepted ++ e ∷ []) s (store a s e) r.count r.emitted (map input_number r.places)
