-- What the functions of one event hand back. They are lent arrays of the automaton instead of the
-- whole of it.
use Rattle.std.specs.Prelude.{ℕ, ◌+◌, ◌*◌, ◌<◌, ◌≤◌, ◌≡◌, true, cond, not, ◌&&◌, List, [], ◌∷◌, ◌++◌, length, get_or, take, drop, eqb, leb, ltb}
use Rattle.base.specs.Rows.{first}
use Rattle.base.specs.Pad.{pad}
use Rattle.automaton.specs.declared.Automaton.{Automaton}
use Rattle.automaton.specs.Automaton.{controllable}
use Rattle.configuration_places.specs.Places.{count_end}
use Rattle.monitor_rule.specs.Step.{Rest, release, is_shut, Effect, arrival, effect}
use Rattle.monitor_rule.specs.Fronts.{over, ReleaseRequires}
pub use Rattle.monitor_step.specs.declared.Stepped.{Stepped}

-- the row of an event before any search, by ranks, with so many held and so many accepted before
-- it: 14, no symbol; 15, controllable with the buffer full, which it may yet open; 23, the input
-- count at its end; else 0
unfoldable pub early_row : List ℕ → ℕ → ℕ → ℕ → ℕ → ℕ → ℕ
early_row ranks symbols capacity held received e =
    let full = not (eqb (get_or ranks e 0) 0) && leb capacity held in
    first ((14, not (ltb e symbols)) ∷ (15, full) ∷ (23, eqb received count_end) ∷ [])

-- how many of the events in hand an accepted event releases
unfoldable pub released : Rest → Automaton → ℕ → List ℕ → ℕ → ℕ
released rest a q w e = let x = arrival a q w e in release rest a x.state x.buffer

-- what an accepted event leaves, where what it emits is written from a place on
unfoldable pub stepped : Rest → Automaton → ℕ → List ℕ → ℕ → ℕ → Stepped
stepped rest a q w e at =
    let f = effect rest a q w e in
    record {
      row = 0;
      state = f.state;
      held = length f.buffer;
      buffer = pad 6 f.buffer;
      released = released rest a q w e;
      written = at + length f.emitted;
    }

-- the row of a controllable event at a full buffer: 15, the buffer with it at its end is shut; 23;
-- else 0
unfoldable pub overflow_row : Rest → Automaton → ℕ → List ℕ → ℕ → ℕ → ℕ
overflow_row rest a q w received e =
    first ((15, is_shut rest a q (w ++ e ∷ [])) ∷ (23, eqb received count_end) ∷ [])

-- all as it was
abbrev pub unmoved : ℕ → ℕ → List ℕ → ℕ → Stepped
unmoved row q w at = record { row = row; state = q; held = length w; buffer = pad 6 w; released = 0; written = at }

-- what it leaves, and what it emits
unfoldable pub overflowed : Rest → Automaton → ℕ → List ℕ → ℕ → ℕ → ℕ → Stepped
overflowed rest a q w received e at =
    let row = overflow_row rest a q w received e in
    cond (eqb row 0) (stepped rest a q w e at) (unmoved row q w at)

unfoldable pub overflow_emitted : Rest → Automaton → ℕ → List ℕ → ℕ → ℕ → List ℕ
overflow_emitted rest a q w received e =
    cond (eqb (overflow_row rest a q w received e) 0) (effect rest a q w e).emitted []

-- what a step asks of its arguments
pub record StepRequires (next ranks : List ℕ) (k : ℕ) (t : List ℕ) (q : ℕ) (buffer : List ℕ) (held e size at : ℕ) : Type 0 where
  pub symbol_low : e < 16
  pub state_low : q < 32
  pub few : held ≤ 6
  pub padded : buffer ≡ pad 6 (take held buffer)
  pub space : controllable (over ranks next) e ≡ true → held < 6
  pub room : at + held < size
  pub indexed : size < 18446744073709551616
  pub lent : (x : Effect) → x ≡ arrival (over ranks next) q (take held buffer) e
      → ReleaseRequires next ranks k t x.state (pad 6 x.buffer) (length x.buffer)

-- what an event at a full buffer asks: some are held, and the search is made for what comes behind
-- the first of them
pub record OverflowRequires (next ranks : List ℕ) (k : ℕ) (t : List ℕ) (q : ℕ) (buffer : List ℕ) (held e size at : ℕ)
    : Type 0 where
  pub symbol_low : e < 16
  pub state_low : q < 32
  pub first-low : get_or buffer 0 0 < 16
  pub some : 1 ≤ held
  pub few : held ≤ 6
  pub padded : buffer ≡ pad 6 (take held buffer)
  pub holds : controllable (over ranks next) e ≡ true
  pub room : at + held < size
  pub indexed : size < 18446744073709551616
  pub lent : ReleaseRequires next ranks k t (get_or next (q * 16 + get_or buffer 0 0) 0)
      (pad 6 (drop 1 (take held buffer) ++ e ∷ []))
      (length (drop 1 (take held buffer) ++ e ∷ []))
