-- What is proved of the rows of one event, of the release and of the places in the input, in the
-- documents' words (01, "One event" and "Numbers of refusal"; 02, Cards 4 and 5), and of the
-- search for the release in source document 001's.
use Rattle.std.specs.Prelude.{ℕ, ◌+◌, ◌*◌, ◌<◌, ◌≤◌, ◌≡◌, ◌⊎◌, ◌↔◌, true, List, [], ◌∷◌, ◌++◌, length, get_or, take, drop}
use Rattle.base.specs.Masks.{has}
use Rattle.base.specs.Pad.{pad, UsedTo}
use Rattle.automaton.specs.declared.Automaton.{Automaton}
use Rattle.automaton.specs.Automaton.{class, reached, valid}
use Rattle.automaton_symbols.specs.Symbols.{ranking_of}
use Rattle.solver_sets.specs.Table.{index, Buffer, Solved}
use Rattle.solver_sets.specs.Claims.{Winning}
use Rattle.configuration.specs.Configuration.{Position}
use Rattle.monitor_rule.specs.Step.{Rest, qualifying, release, effect_from, sources, advance, event_refusal}
use Rattle.monitor_rule.specs.Fronts.{rest_in, over, found_in}

-- row 14: the event is no symbol of the automaton
abbrev pub Unknown : Automaton → ℕ → Type 0
Unknown a e = a.symbols ≤ e

-- it is a controllable one, and the capacity is already held
abbrev pub Full : Automaton → List ℕ → ℕ → Type 0
Full a w e = (e < a.symbols) × (class a e ≡ 1) × (a.capacity ≤ length w)

-- The newcomer opens the buffer (document 02, Card 5; P says with what is left, and in which
-- state, one may rest): the buffer with the newcomer behind has a front part that is not empty,
-- and whose release leads to where one may rest with what is left.
pub record Opens (P : List ℕ → ℕ → Type 0) (a : Automaton) (q : ℕ) (w : List ℕ) (e : ℕ) : Type 0 where
  pub front : List ℕ
  pub left : List ℕ
  pub parts : front ++ left ≡ w ++ e ∷ []
  pub some : 1 ≤ length front
  pub leads : P left (reached a q front)

-- row 15: the buffer is full, and the newcomer does not open it
abbrev pub Shut : (List ℕ → ℕ → Type 0) → Automaton → ℕ → List ℕ → ℕ → Type 0
Shut P a q w e = Full a w e × (Opens P a q w e → ⊥)

-- neither: not controllable, or room, or the newcomer opens the buffer
abbrev pub Fits : (List ℕ → ℕ → Type 0) → Automaton → ℕ → List ℕ → ℕ → Type 0
Fits P a q w e = (e < a.symbols) × ((class a e ≡ 1 → ⊥) ⊎ (length w < a.capacity) ⊎ Opens P a q w e)

-- row 23: otherwise accepted, and so many were accepted before it that the input count is at its
-- end
abbrev pub CountEnded : (List ℕ → ℕ → Type 0) → Automaton → ℕ → List ℕ → ℕ → ℕ → Type 0
CountEnded P a q w received e = Fits P a q w e × (received ≡ 4294967295)

-- none of the three
abbrev pub Admitted : (List ℕ → ℕ → Type 0) → Automaton → ℕ → List ℕ → ℕ → ℕ → Type 0
Admitted P a q w received e = Fits P a q w e × (received ≡ 4294967295 → ⊥)

-- n is the number of refusal of an event in a state, with a buffer and so many accepted before it:
-- a row's number exactly when it holds
pub record RowsOfEvent (P : List ℕ → ℕ → Type 0) (a : Automaton) (q : ℕ) (w : List ℕ) (received e n : ℕ) : Type 0 where
  pub row-14 : (n ≡ 14) ↔ Unknown a e
  pub row-15 : (n ≡ 15) ↔ Shut P a q w e
  pub row-23 : (n ≡ 23) ↔ CountEnded P a q w received e
  pub accepted : (n ≡ 0) ↔ Admitted P a q w received e

abbrev pub EventRowsAsWorded : Type 0
EventRowsAsWorded =
    (rest : Rest) (a : Automaton) (p : Position) (e : ℕ)
    → RowsOfEvent (λ w q. rest w q ≡ true) a p.state p.buffer p.received e (event_refusal rest a p e)

-- What is said of more events than the capacity changes nothing: two rest tests that agree on
-- every buffer up to it refuse the same events, and an event has the same effect by both.
abbrev pub WiderIgnored : Type 0
WiderIgnored =
    (rest other : Rest) (a : Automaton) → valid a ≡ true
    → ((w : List ℕ) (q : ℕ) → q < a.states → Buffer a w → rest w q ≡ other w q)
    → (p : Position) (e : ℕ) → p.state < a.states → Buffer a p.buffer
    → (event_refusal rest a p e ≡ event_refusal other a p e)
    × (e < a.symbols → effect_from rest a p e ≡ effect_from other a p e)

-- by the bits of a table
abbrev pub Tabled : Automaton → List ℕ → List ℕ → ℕ → Type 0
Tabled a t w q = has (get_or t (2 * index a w) 0) q ≡ true

-- What an event at a full buffer puts out where it is accepted: v, and r is held then. It is the
-- longest front part with which the newcomer opens the buffer; so one may rest then.
pub record Opened (P : List ℕ → ℕ → Type 0) (a : Automaton) (q : ℕ) (w : List ℕ) (e : ℕ) (v r : List ℕ) (p : ℕ) : Type 0 where
  pub parts : v ++ r ≡ w ++ e ∷ []
  pub some : 1 ≤ length v
  pub led : p ≡ reached a q v
  pub rests : P r p
  pub longest : (x y : List ℕ) → x ++ y ≡ w ++ e ∷ [] → P y (reached a q x) → length x ≤ length v

abbrev pub OpensAsWorded : Type 0
OpensAsWorded =
    (rest : Rest) (a : Automaton) (p : Position) (e : ℕ) → event_refusal rest a p e ≡ 0 → Full a p.buffer e
    → let f = effect_from rest a p e in
    Opened (λ w q. rest w q ≡ true) a p.state p.buffer e f.emitted f.buffer f.state

-- The places in the input go with their events: what is put out and what is held then are the
-- events at hand in turn, and so are their places, one for each. A newcomer's place is the input
-- count before it; it goes before the held events where it passes, and behind them where it is
-- held. The input count grows by one, the output count by what is put out.
pub record PlacesKept (rest : Rest) (a : Automaton) (p : Position) (e : ℕ) : Type 0 where
  pub passing : (class a e ≡ 1 → ⊥)
      → ((effect_from rest a p e).emitted ++ (advance rest a p e).buffer ≡ e ∷ p.buffer)
      × (sources rest a p e ++ (advance rest a p e).places ≡ p.received ∷ p.places)
  pub holding : class a e ≡ 1
      → ((effect_from rest a p e).emitted ++ (advance rest a p e).buffer ≡ p.buffer ++ e ∷ [])
      × (sources rest a p e ++ (advance rest a p e).places ≡ p.places ++ p.received ∷ [])
  pub emitted-have : length (sources rest a p e) ≡ length (effect_from rest a p e).emitted
  pub held-have : length (advance rest a p e).places ≡ length (advance rest a p e).buffer
  pub received-grows : (advance rest a p e).received ≡ p.received + 1
  pub emitted-grows : (advance rest a p e).emitted ≡ p.emitted + length (effect_from rest a p e).emitted

abbrev pub PlacesAsWorded : Type 0
PlacesAsWorded =
    (rest : Rest) (a : Automaton) (p : Position) (e : ℕ) → length p.places ≡ length p.buffer → PlacesKept rest a p e

-- The search, beside κ in Definition 3.10 of source document 001. P says with what is left, and in
-- which state, one may rest; k is the length of a front part of w after which one may. (By S these
-- are G(q, w), as Definition 7 of source document 000 words it.)
pub record Qualifies (P : List ℕ → ℕ → Type 0) (a : Automaton) (q : ℕ) (w : List ℕ) (k : ℕ) : Type 0 where
  pub front : List ℕ
  pub left : List ℕ
  pub parts : front ++ left ≡ w
  pub long : length front ≡ k
  pub leads : P left (reached a q front)

-- k stands among the first `count` places of an array
pub record Among (lengths : List ℕ) (count k : ℕ) : Type 0 where
  pub place : ℕ
  pub below : place < count
  pub holds : get_or lengths place 0 ≡ k

-- an array of seven places and a count have all front parts that qualify, in turn
pub record ListsQualifying (P : List ℕ → ℕ → Type 0) (a : Automaton) (q : ℕ) (w lengths : List ℕ) (count : ℕ) : Type 0 where
  -- a length is in the list exactly when its front part qualifies
  pub exactly : (k : ℕ) → Among lengths count k ↔ Qualifies P a q w k
  pub rising : (i j : ℕ) → i < j → j < count → get_or lengths i 0 < get_or lengths j 0
  -- seven places are enough, and hold 0 past the count
  pub enough : count ≤ 7
  pub used : UsedTo 7 count lengths

-- what the search finds is that, over any rest test ..
abbrev pub SearchAsWorded : Type 0
SearchAsWorded =
    (rest : Rest) (a : Automaton) (q : ℕ) (w : List ℕ) → length w ≤ 6
    → ListsQualifying (λ r p. rest r p ≡ true) a q w (pad 7 (qualifying rest a q w)) (found_in rest a q w).listed

-- .. and over what the code is lent, with an automaton's solved table, it is so by S
abbrev pub SearchOfSolved : Type 0
SearchOfSolved =
    (a : Automaton) (t : List ℕ) → valid a ≡ true → Solved a t → (q : ℕ) (w : List ℕ) → q < a.states → Buffer a w
    → let own = ranking_of a.classes a.symbols in
    let rest = rest_in t own.ranks own.count in
    let lent = over own.ranks a.next in
    ListsQualifying (Winning a) a q w (pad 7 (qualifying rest lent q w)) (found_in rest lent q w).listed

-- The longest release, where P says with what is left, and in which state, one may rest: the
-- buffer w falls into v, which is released, and r, which is left.
pub record Longest (P : List ℕ → ℕ → Type 0) (a : Automaton) (q : ℕ) (w v r : List ℕ) : Type 0 where
  pub parts : v ++ r ≡ w
  -- v leads q to where one may rest with r; or v is empty, and no front part leads so
  pub leads : P r (reached a q v) ⊎ ((v ≡ []) × ((x y : List ℕ) → x ++ y ≡ w → P y (reached a q x) → ⊥))
  -- no front part that leads so is longer
  pub longest : (x y : List ℕ) → x ++ y ≡ w → P y (reached a q x) → length x ≤ length v

-- what is released is that, over any rest test ..
abbrev pub ReleasesLongest : Type 0
ReleasesLongest =
    (rest : Rest) (a : Automaton) (q : ℕ) (w : List ℕ)
    → let k = release rest a q w in Longest (λ r p. rest r p ≡ true) a q w (take k w) (drop k w)

-- .. and nothing else is
abbrev pub OnlyLongest : Type 1
OnlyLongest =
    (P : List ℕ → ℕ → Type 0) (a : Automaton) (q : ℕ) (w v r x y : List ℕ)
    → Longest P a q w v r → Longest P a q w x y → (v ≡ x) × (r ≡ y)
