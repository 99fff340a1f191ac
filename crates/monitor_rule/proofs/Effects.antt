-- Laws of one event, over any rest test.
use Prim.Native.Nat.{ℕ, zero, suc, ◌+◌, ◌<◌, ◌≤◌}
use mathlib.Core.Path.{◌≡◌, refl, ◌∙◌, ap}
use mathlib.Core.Logic.{◌⊎◌, inl, inr}
use mathlib.Core.Bool.{true, false}
use mathlib.Core.List.{List, [], ◌∷◌, ◌++◌}
use native.Mathlib.Omega.{arith}
use lib.ListN.{length, take, drop, length-append, length-drop, take-append-drop}
use lib.Seq.{length-take-le}
use lib.Dec.{ltb}
use borrow.Author.Tests.{ltb-true}
use Rattle.base.specs.Rows.{first}
use Rattle.base.proofs.Bools.{by, either, refuted}
use Rattle.automaton.specs.declared.Automaton.{Automaton}
use Rattle.automaton.specs.Automaton.{class, controllable, step, reached, valid}
use Rattle.automaton.proofs.Facts.{valid_facts}
use Rattle.automaton.proofs.Classes.{class-one}
use Rattle.automaton.proofs.Reached.{reached-append}
use Rattle.solver_sets.specs.Table.{Controllable, Buffer}
use Rattle.solver_sets.proofs.Total.{Total, total, reached-below}
use Rattle.solver_sets.proofs.Buffers.{controllable-drop, controllable_end}
use Rattle.configuration.specs.declared.Configuration.{Configuration}
use Rattle.configuration.specs.Configuration.{Position, position_of, empty_at}
use Rattle.configuration.proofs.Facts.{Consistent, held-buffer}
use Rattle.configuration.proofs.Rising.{Rising, rising-more, rising-drop, rising_end, Placed, empty-placed}
use Rattle.monitor_rule.specs.Step.{Rest, qualifies, release, Effect, remaining, arrival, effect, effect_from, in_line, sources, advance, event_rows, event_refusal}
use Rattle.monitor_rule.specs.Claims.{WiderIgnored, PlacesAsWorded}
use Rattle.monitor_rule.proofs.Longest.{release_le, release-same, shut-same, release-behind}
use Rattle.monitor_rule.proofs.Rows.{opens-releases, event-rows_as_worded}

-- a state and a buffer that can occur
pub record Occurs (a : Automaton) (q : ℕ) (w : List ℕ) : Type 0 where
  pub state-below : q < a.states
  pub buffer : Buffer a w

-- a position that can occur: its places and counts fit together too
pub record OccursAt (a : Automaton) (p : Position) : Type 0 where
  pub occurs : Occurs a p.state p.buffer
  pub placed : Placed p

pub initial_occurs : (a : Automaton) → valid a ≡ true → OccursAt a (empty_at a.initial)
initial_occurs a v =
    record {
      occurs = record { state-below = (valid_facts a v).initial-below; buffer = (tt, omega arith) };
      placed = empty-placed a.initial;
    }

pub consistent_occurs : (a : Automaton) (c : Configuration) → Consistent a c → OccursAt a (position_of c)
consistent_occurs a c k =
    record { occurs = record { state-below = k.state-below; buffer = held-buffer a c k }; placed = k.placed }

-- two rest tests that answer alike wherever they may be asked
abbrev pub Agree : Automaton → Rest → Rest → Type 0
Agree a rest other = (w : List ℕ) (q : ℕ) → Occurs a q w → rest w q ≡ other w q

-- an accepted event: a symbol; and where it is controllable there is room for it, or something is
-- released
pub record Accepts (rest : Rest) (a : Automaton) (q : ℕ) (w : List ℕ) (e : ℕ) : Type 0 where
  pub symbol : e < a.symbols
  pub space : controllable a e ≡ true → (length w < a.capacity) ⊎ (1 ≤ release rest a q (w ++ e ∷ []))

pub accepted_facts : (rest : Rest) (a : Automaton) (p : Position) (e : ℕ) → event_refusal rest a p e ≡ 0
    → Accepts rest a p.state p.buffer e
accepted_facts rest a p e h =
    let f = ((event-rows_as_worded rest a p e).accepted.0 h).0 in
    record {
      symbol = f.0;
      space = λ c.
          either f.1 (λ no. absurd (no ((class-one a e).0 c)))
          (λ g. either g inl (λ o. inr (opens-releases rest a p.state p.buffer e o)));
    }

-- the buffer after an uncontrollable event
remaining-buffer : (a : Automaton) (e : ℕ) (w : List ℕ) → Buffer a w → Buffer a (remaining a e w)
unfolding remaining
remaining-buffer a e w b = b

remaining-length : (a : Automaton) (e : ℕ) (w : List ℕ) → length (remaining a e w) ≡ length w
unfolding remaining
remaining-length a e w = refl

-- before the release one more than the capacity may be in hand
pub record Arrives (a : Automaton) (q : ℕ) (w : List ℕ) : Type 0 where
  pub state-below : q < a.states
  pub symbols : Controllable a w
  pub few : length w ≤ suc a.capacity

-- after a front part of it that is not empty, or of what fits
module _ (a : Automaton) (t : Total a) (q : ℕ) (w : List ℕ) (o : Arrives a q w) where
  pub left_occurs : (k : ℕ) → (length w ≤ a.capacity) ⊎ (1 ≤ k) → Occurs a (reached a q (take k w)) (drop k w)
  left_occurs k l = record {
    state-below = reached-below a t q (take k w) o.state-below;
    buffer = (
      controllable-drop a k w o.symbols,
      either l (λ fits. omega (arith, length-drop k w, fits)) (λ some. omega (arith, length-drop k w, o.few, some)),
    );
  }

  pub released_occurs : (k : ℕ) → 1 ≤ k → Occurs a (reached a q (take k w)) (drop k w)
  released_occurs k l = left_occurs k (inr l)

-- the buffer with a newcomer at its end
pub newcomer_arrives : (a : Automaton) (q : ℕ) (w : List ℕ) (e : ℕ) → e < a.symbols → controllable a e ≡ true → Occurs a q w → Arrives a q (w ++ e ∷ [])
newcomer_arrives a q w e l c o = record {
  state-below = o.state-below;
  symbols = controllable_end a w e o.buffer.0 l c;
  few = omega (arith, length-append w (e ∷ []), o.buffer.1);
}

module _ (a : Automaton) (q : ℕ) (w : List ℕ) (e : ℕ) where
  pub arrival_arrives : e < a.symbols → Total a → Occurs a q w → Arrives a (arrival a q w e).state (arrival a q w e).buffer
  unfolding arrival
  arrival_arrives l t o =
      by (controllable a e)
      (λ c. rw c (newcomer_arrives a q w e l c o))
      (λ c. let b = remaining-buffer a e w o.buffer in rw c (record { state-below = t q e; symbols = b.0; few = omega (arith, b.1) }))

  -- what is emitted leads from the state before to the one after
  pub arrival-leads : reached a q (arrival a q w e).emitted ≡ (arrival a q w e).state
  unfolding arrival reached
  arrival-leads = by (controllable a e) (λ c. rw c) (λ c. rw c)

  -- what came in is emitted or held
  arrival-length : length (arrival a q w e).emitted + length (arrival a q w e).buffer ≡ suc (length w)
  unfolding arrival
  arrival-length =
      by (controllable a e)
      (λ c. rw c (omega (arith, length-append w (e ∷ []))))
      (λ c. rw c (omega (arith, remaining-length a e w)))

-- two rest tests that agree answer alike after any nonempty front part
asked_alike : (a : Automaton) (rest other : Rest) → Agree a rest other → Total a → (q : ℕ) (w : List ℕ) → Arrives a q w
    → (k : ℕ) → 1 ≤ k → k ≤ length w → qualifies rest a q w k ≡ qualifies other a q w k
unfolding qualifies
asked_alike a rest other agree t q w n k l _ = agree (drop k w) (reached a q (take k w)) (released_occurs a t q w n k l)

-- so they release alike
release-agrees : (a : Automaton) (rest other : Rest) → Agree a rest other → Total a → (q : ℕ) (w : List ℕ) → Arrives a q w
    → release rest a q w ≡ release other a q w
release-agrees a rest other agree t q w n = release-same rest a other a q w (asked_alike a rest other agree t q w n)

-- .. and refuse alike
pub refusal-same : (rest other : Rest) (a : Automaton) (p : Position) (e : ℕ) → Agree a rest other → Total a → Occurs a p.state p.buffer
    → event_refusal rest a p e ≡ event_refusal other a p e
unfolding event_refusal event_rows first
refusal-same rest other a p e agree t o =
    by (ltb e a.symbols)
    (λ s. by (controllable a e)
    (λ c.
    let n = newcomer_arrives a p.state p.buffer e (ltb-true e a.symbols s) c o in
    rw (shut-same rest a other a p.state (p.buffer ++ e ∷ []) (asked_alike a rest other agree t p.state (p.buffer ++ e ∷ []) n)))
    (λ c. rw (s, c)))
    (λ s. rw s)

-- after the release
module _ (rest : Rest) (a : Automaton) (q : ℕ) (w : List ℕ) (e : ℕ) where
  abbrev x : Effect
  x = arrival a q w e

  abbrev k : ℕ
  k = release rest a x.state x.buffer

  -- there is room for what came, or something is released
  arrival-room : Occurs a q w → Accepts rest a q w e → (length x.buffer ≤ a.capacity) ⊎ (1 ≤ k)
  unfolding arrival
  arrival-room o h =
      by (controllable a e)
      (λ c. rw c (either (h.space c) (λ l. inl (omega (arith, length-append w (e ∷ [])))) inr))
      (λ c. rw c (inl (remaining-buffer a e w o.buffer).1))

  pub effect_occurs : Total a → Occurs a q w → Accepts rest a q w e → Occurs a (effect rest a q w e).state (effect rest a q w e).buffer
  unfolding effect
  effect_occurs t o h =
      left_occurs a t x.state x.buffer (arrival_arrives a q w e h.symbol t o) k (arrival-room o h)

  pub effect-leads : reached a q (effect rest a q w e).emitted ≡ (effect rest a q w e).state
  unfolding effect
  effect-leads = reached-append a q x.emitted (take k x.buffer) ∙ ap (λ p. reached a p (take k x.buffer)) (arrival-leads a q w e)

  pub effect-length : length (effect rest a q w e).emitted + length (effect rest a q w e).buffer ≡ suc (length w)
  unfolding effect
  effect-length =
      let few = release_le rest a x.state x.buffer in
      omega (arith, length-append x.emitted (take k x.buffer), length-take-le k x.buffer few, length-drop k x.buffer, arrival-length a q w e)

  -- an uncontrollable event that releases nothing is emitted and moves the state
  pub effect-alone : controllable a e ≡ false → release rest a (step a q e) w ≡ 0
      → effect rest a q w e ≡ record { emitted = e ∷ []; state = step a q e; buffer = w }
  unfolding effect arrival remaining reached
  effect-alone c none = rw (c, none)

  pub effect-same : (other : Rest) → Agree a rest other → Total a → Occurs a q w → e < a.symbols → effect rest a q w e ≡ effect other a q w e
  unfolding effect
  effect-same other agree t o l = rw (release-agrees a rest other agree t x.state x.buffer (arrival_arrives a q w e l t o))

  -- where some of it has to go, a controllable event emits the first held event, and then what it
  -- does behind it
  pub effect-behind : (d : ℕ) → controllable a e ≡ true
      → qualifies rest a (step a q d) (w ++ e ∷ []) (release rest a (step a q d) (w ++ e ∷ [])) ≡ true
      → let g = effect rest a (step a q d) w e in
      effect rest a q (d ∷ w) e ≡ record { emitted = d ∷ g.emitted; state = g.state; buffer = g.buffer }
  unfolding effect arrival reached
  effect-behind d c h = rw (c, release-behind rest a q d (w ++ e ∷ []) h)

  -- what is emitted and what is held then are what was held, and the event at its place
  abbrev f : Effect
  f = effect rest a q w e

  pub effect-passes : controllable a e ≡ false → f.emitted ++ f.buffer ≡ e ∷ w
  unfolding effect arrival remaining
  effect-passes c = rw c (ap (λ l. e ∷ l) (take-append-drop (release rest a (step a q e) w) w))

  pub effect-holds : controllable a e ≡ true → f.emitted ++ f.buffer ≡ w ++ e ∷ []
  unfolding effect arrival
  effect-holds c = rw c (take-append-drop (release rest a q (w ++ e ∷ [])) (w ++ e ∷ []))

-- the places in the input of the events at hand
module _ (a : Automaton) (p : Position) (e : ℕ) where
  line_rises : Rising p.received p.places → (m : ℕ) → (controllable a e ≡ false → 0 < m)
      → Rising (p.received + 1) (drop m (in_line a p e))
  unfolding in_line remaining
  line_rises r m some =
      by (controllable a e)
      (λ c. rw c (rising-drop m (p.received + 1) (p.places ++ p.received ∷ []) (rising_end p.received p.places r)))
      (λ c. rw c (behind m (some c)))
    where
      behind : (m : ℕ) → 0 < m → Rising (p.received + 1) (drop m (p.received ∷ p.places))
      behind zero l = absurd (omega arith)
      behind (suc m) l = rising-drop m (p.received + 1) p.places (rising-more p.received p.places r)

  line-length : length p.places ≡ length p.buffer → length (in_line a p e) ≡ suc (length p.buffer)
  unfolding in_line remaining
  line-length h =
      by (controllable a e)
      (λ c. rw c (omega (arith, length-append p.places (p.received ∷ []))))
      (λ c. rw c (omega arith))

-- the same at a position
module _ (rest : Rest) (a : Automaton) (p : Position) (e : ℕ) where
  abbrev m : ℕ
  m = length (effect_from rest a p e).emitted

  -- an event that passes is emitted
  some-passes : controllable a e ≡ false → 0 < m
  unfolding effect arrival
  some-passes c = rw c (omega arith)

  all-in_line : length p.places ≡ length p.buffer → m ≤ length (in_line a p e)
  all-in_line h = omega (arith, line-length a p e h, effect-length rest a p.state p.buffer e)

  advance-placed : Placed p → Placed (advance rest a p e)
  advance-placed k =
      let long = effect-length rest a p.state p.buffer e in
      record {
        each-has = length-drop m (in_line a p e) ∙ omega (arith, line-length a p e k.each-has, long);
        rising = line_rises a p e k.rising m some-passes;
        sum = omega (arith, long, k.sum);
      }

  pub advance_occurs : Total a → OccursAt a p → event_refusal rest a p e ≡ 0 → OccursAt a (advance rest a p e)
  advance_occurs t o h =
      record {
        occurs = effect_occurs rest a p.state p.buffer e t o.occurs (accepted_facts rest a p e h);
        placed = advance-placed o.placed;
      }

  pub effect-agrees : (other : Rest) → Agree a rest other → Total a → OccursAt a p → event_refusal rest a p e ≡ 0
      → effect_from rest a p e ≡ effect_from other a p e
  effect-agrees other agree t o h = effect-same rest a p.state p.buffer e other agree t o.occurs (accepted_facts rest a p e h).symbol

  -- what it leaves, and the places of what it emits, by its effect
  pub sources_agree : (other : Rest) → effect_from rest a p e ≡ effect_from other a p e → sources rest a p e ≡ sources other a p e
  unfolding sources
  sources_agree other same = ap (λ (f : Effect). take (length f.emitted) (in_line a p e)) same

  pub advance-agrees : (other : Rest) → effect_from rest a p e ≡ effect_from other a p e → advance rest a p e ≡ advance other a p e
  advance-agrees other same =
      ap (λ (f : Effect). record {
        state = f.state;
        buffer = f.buffer;
        places = drop (length f.emitted) (in_line a p e);
        received = p.received + 1;
        emitted = p.emitted + length f.emitted;
      }) same

pub places_as_worded : PlacesAsWorded
unfolding in_line sources remaining
places_as_worded rest a p e h =
    let line = take-append-drop (m rest a p e) (in_line a p e) in
    let no : (class a e ≡ 1 → ⊥) → controllable a e ≡ false = λ c. refuted (controllable a e) (λ y. c ((class-one a e).0 y)) in
    let yes : class a e ≡ 1 → controllable a e ≡ true = (class-one a e).1 in
    record {
      passing = λ c. (effect-passes rest a p.state p.buffer e (no c), line ∙ rw (no c));
      holding = λ c. (effect-holds rest a p.state p.buffer e (yes c), line ∙ rw (yes c));
      emitted-have = length-take-le (m rest a p e) (in_line a p e) (all-in_line rest a p e h);
      held-have =
          length-drop (m rest a p e) (in_line a p e) ∙
          omega (arith, line-length a p e h, effect-length rest a p.state p.buffer e);
      received-grows = refl;
      emitted-grows = refl;
    }

pub wider_ignored : WiderIgnored
wider_ignored rest other a v agree p e l b =
    let same : Agree a rest other = λ w q o. agree w q o.state-below o.buffer in
    let at : Occurs a p.state p.buffer = record { state-below = l; buffer = b } in
    (refusal-same rest other a p e same (total a v) at, effect-same rest a p.state p.buffer e other same (total a v) at)
