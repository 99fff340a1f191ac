-- One event (document 01, "One event"), over any test of where the monitor may rest.
use Rattle.std.specs.Prelude.{ℕ, suc, ◌+◌, ◌*◌, Bool, cond, not, ◌&&◌, List, [], ◌∷◌, ◌++◌, length, get_or, take, drop, eqb, leb, ltb}
use Rattle.base.specs.Each.{each, those, last_or}
use Rattle.base.specs.Rows.{first}
use Rattle.base.specs.Masks.{has}
use Rattle.automaton.specs.declared.Automaton.{Automaton}
use Rattle.automaton.specs.Automaton.{controllable, step, reached}
use Rattle.solver_sets.specs.Sets.{sets_for}
use Rattle.solver_sets.specs.Table.{index}
use Rattle.configuration_places.specs.Places.{count_end}
use Rattle.configuration.specs.Configuration.{Position}

-- may the monitor rest in a state with a buffer?
abbrev pub Rest : Type 0
Rest = List ℕ → ℕ → Bool

-- by the sets, and by the bits of a lent table
unfoldable pub by_sets : Automaton → Rest
by_sets a w q = has (sets_for a w).winning q

unfoldable pub by_table : Automaton → List ℕ → Rest
by_table a t w q = has (get_or t (2 * index a w) 0) q

-- the front part of k events qualifies: it brings the state to where the monitor may rest with
-- what is left
unfoldable pub qualifies : Rest → Automaton → ℕ → List ℕ → ℕ → Bool
qualifies rest a q w k = rest (drop k w) (reached a q (take k w))

-- the lengths of all front parts that qualify, from the empty one on
unfoldable pub qualifying : Rest → Automaton → ℕ → List ℕ → List ℕ
qualifying rest a q w = those (suc (length w)) (qualifies rest a q w)

-- the longest of them; nothing where there is none
unfoldable pub release : Rest → Automaton → ℕ → List ℕ → ℕ
release rest a q w = last_or 0 (qualifying rest a q w)

-- what is emitted, and the state and buffer after it
pub record Effect : Type 0 where
  pub emitted : List ℕ
  pub state : ℕ
  pub buffer : List ℕ

-- what the buffer is after an uncontrollable event passed
unfoldable pub remaining : Automaton → ℕ → List ℕ → List ℕ
remaining a e w = w

-- an event has come and nothing is released yet: a controllable one is held at the end, any other
-- is emitted and moves the state
unfoldable pub arrival : Automaton → ℕ → List ℕ → ℕ → Effect
arrival a q w e =
    cond (controllable a e)
    (record { emitted = []; state = q; buffer = w ++ e ∷ [] })
    (record { emitted = e ∷ []; state = step a q e; buffer = remaining a e w })

-- an accepted event: its arrival, then the release
unfoldable pub effect : Rest → Automaton → ℕ → List ℕ → ℕ → Effect
effect rest a q w e =
    let x = arrival a q w e in
    let k = release rest a x.state x.buffer in
    record {
      emitted = x.emitted ++ take k x.buffer;
      state = reached a x.state (take k x.buffer);
      buffer = drop k x.buffer;
    }

-- the effect at a position
abbrev pub effect_from : Rest → Automaton → Position → ℕ → Effect
effect_from rest a p e = effect rest a p.state p.buffer e

-- the places in the input of the events at hand, in the order in which they go out: a newcomer's,
-- which is the input count before it, is first where it passes and last where it is held
unfoldable pub in_line : Automaton → Position → ℕ → List ℕ
in_line a p e = cond (controllable a e) (p.places ++ p.received ∷ []) (p.received ∷ remaining a e p.places)

-- those of what is emitted
unfoldable pub sources : Rest → Automaton → Position → ℕ → List ℕ
sources rest a p e = take (length (effect_from rest a p e).emitted) (in_line a p e)

-- the position after it
abbrev pub advance : Rest → Automaton → Position → ℕ → Position
advance rest a p e =
    let f = effect_from rest a p e in
    record {
      state = f.state;
      buffer = f.buffer;
      places = drop (length f.emitted) (in_line a p e);
      received = p.received + 1;
      emitted = p.emitted + length f.emitted;
    }

-- a buffer is shut in a state where no front part of it qualifies but perhaps the empty one, which
-- is not asked
unfoldable pub is_shut : Rest → Automaton → ℕ → List ℕ → Bool
is_shut rest a q w = each (length w) (λ k. not (qualifies rest a q w (suc k)))

-- the rows of one event: 14, no symbol of the automaton; 15, controllable with the buffer full,
-- which is shut with the newcomer at its end (document 02, Card 5); 23, the input count at its end
abbrev pub event_rows_in : Rest → Automaton → ℕ → List ℕ → ℕ → ℕ → List (ℕ × Bool)
event_rows_in rest a q w received e =
    let full = controllable a e && leb a.capacity (length w) in
    (14, not (ltb e a.symbols)) ∷ (15, full && is_shut rest a q (w ++ e ∷ [])) ∷ (23, eqb received count_end) ∷ []

-- at a position
unfoldable pub event_rows : Rest → Automaton → Position → ℕ → List (ℕ × Bool)
event_rows rest a p e = event_rows_in rest a p.state p.buffer p.received e

unfoldable pub event_refusal : Rest → Automaton → Position → ℕ → ℕ
event_refusal rest a p e = first (event_rows rest a p e)

-- a list of events (document 01's whole day): what is emitted end to end, how many events were
-- refused and passed over, and the position after it
pub record Run : Type 0 where
  pub emitted : List ℕ
  pub refused : ℕ
  pub last : Position

unfoldable pub run_of : Rest → Automaton → Position → List ℕ → Run
run_of rest a p [] = record { emitted = []; refused = 0; last = p }
run_of rest a p (e ∷ es) =
    let went = run_of rest a (advance rest a p e) es in
    let passed = run_of rest a p es in
    cond (eqb (event_refusal rest a p e) 0)
    (record { emitted = (effect_from rest a p e).emitted ++ went.emitted; refused = went.refused; last = went.last })
    (record { emitted = passed.emitted; refused = passed.refused + 1; last = passed.last })
