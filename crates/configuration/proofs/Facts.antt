-- What a consistent configuration is, as plain facts, and that `consistent` decides it.
use Prim.Native.Nat.{ℕ, zero, suc, ◌+◌, ◌-◌, ◌<◌, ◌≤◌}
use mathlib.Core.Path.{◌≡◌, refl, sym, ◌∙◌, ap}
use mathlib.Core.Bool.{Bool, true, false, cond, ◌||◌}
use mathlib.Core.List.{List, [], ◌∷◌, map}
use native.Mathlib.Omega.{arith}
use lib.ListN.{length, get_or, take, length-map, get_or-map}
use lib.Seq.{get_or-take, length-take-le}
use lib.Dec.{eqb, leb, ltb}
use borrow.Author.Tests.{ltb-true, ltb-false, leb-true, eqb-true, lt-ltb, le-ltb, le-leb, eq-eqb, ne_eqb}
use Rattle.base.specs.Pad.{pad}
use Rattle.base.proofs.Bools.{by, and-pair, and_both}
use Rattle.base.proofs.Ranges.{each_at, each_all}
use Rattle.base.proofs.Padding.{pad-length, pad-outside, pad-take, take-pad}
use Rattle.base.proofs.Every.{Every}
use Rattle.automaton.specs.declared.Automaton.{Automaton}
use Rattle.automaton.specs.Automaton.{controllable}
use Rattle.automaton.proofs.Facts.{Valid, valid_facts}
use Rattle.automaton.proofs.Classes.{class-one}
use Rattle.solver_sets.specs.Table.{Controllable, Buffer}
use Rattle.configuration_places.specs.Places.{input_place, input_number, output_number}
use Rattle.configuration_places.proofs.Facts.{numbers-places, places-numbers}
use Rattle.configuration.specs.Claims.{ConsistentAsWorded, input_at}
use Rattle.configuration.specs.Configuration.{Configuration, Position, held_events, place_numbers, position_of, configuration, controllable_symbol, place_stands, buffer_stands, input_stands, inputs_stand, consistent_in, consistent}
use Rattle.configuration.proofs.Rising.{Placed, rising-between}

-- a controllable symbol
abbrev pub ControllableSymbol : Automaton → ℕ → Type 0
ControllableSymbol a e = (e < a.symbols) × (controllable a e ≡ true)

pub record Consistent (a : Automaton) (c : Configuration) : Type 0 where
  pub state-below : c.state < a.states
  pub held_high : c.held ≤ a.capacity
  pub held_small : c.held ≤ 6
  pub buffer-length : length c.buffer ≡ 6
  pub held-length : length (held_events c) ≡ c.held
  pub events : Controllable a (held_events c)
  pub places-length : length c.places ≡ 6
  pub placed : Placed (position_of c)
  pub whole : c ≡ configuration (position_of c)

module _ (a : Automaton) where
  -- a list of controllable symbols, by its places
  pub every_controllable : (w : List ℕ) → Every (ControllableSymbol a) w → Controllable a w
  every_controllable [] f = tt
  every_controllable (e ∷ w) f = (f 0 (omega arith), every_controllable w (λ i l. f (suc i) (omega arith)))

  pub controllable_every : (w : List ℕ) → Controllable a w → Every (ControllableSymbol a) w
  controllable_every [] c i l = absurd (omega arith)
  controllable_every (e ∷ w) c zero l = c.0
  controllable_every (e ∷ w) c (suc i) l = controllable_every w c.1 i (omega arith)

  controllable-symbol_facts : (e : ℕ) → controllable_symbol a.symbols a.classes e ≡ true → ControllableSymbol a e
  unfolding controllable_symbol controllable
  controllable-symbol_facts e h = let p = and-pair (ltb e a.symbols) (controllable a e) h in (ltb-true e a.symbols p.0, p.1)

  facts_controllable-symbol : (e : ℕ) → ControllableSymbol a e → controllable_symbol a.symbols a.classes e ≡ true
  unfolding controllable_symbol controllable
  facts_controllable-symbol e h = and_both (lt-ltb e a.symbols h.0) h.1

module _ (a : Automaton) (c : Configuration) where
  -- the test of one place
  abbrev place : ℕ → Bool
  place i = cond (ltb i c.held) (controllable_symbol a.symbols a.classes (get_or c.buffer i 0)) (eqb (get_or c.buffer i 0) 0)

  place-used : (i : ℕ) → i < c.held → place i ≡ true → ControllableSymbol a (get_or c.buffer i 0)
  place-used i l h = controllable-symbol_facts a (get_or c.buffer i 0) (rw (lt-ltb i c.held l) at h)

  place-unused : (i : ℕ) → c.held ≤ i → place i ≡ true → get_or c.buffer i 0 ≡ 0
  place-unused i l h = eqb-true (get_or c.buffer i 0) 0 (rw (le-ltb i c.held l) at h)

  place_when : (i : ℕ) → (i < c.held → ControllableSymbol a (get_or c.buffer i 0)) → (c.held ≤ i → get_or c.buffer i 0 ≡ 0) → place i ≡ true
  place_when i f g =
      by (ltb i c.held)
      (λ u. rw u (facts_controllable-symbol a (get_or c.buffer i 0) (f (ltb-true i c.held u))))
      (λ u. rw u (eq-eqb (get_or c.buffer i 0) 0 (g (ltb-false i c.held u))))

  -- the held events, by their places
  pub held-event : Consistent a c → (i : ℕ) → i < c.held → ControllableSymbol a (get_or c.buffer i 0)
  unfolding held_events
  held-event k i l =
      rw (get_or-take c.held c.buffer i 0 l) at (controllable_every a (held_events c) k.events i (omega (arith, k.held-length)))

  pub unused-place : Consistent a c → (i : ℕ) → c.held ≤ i → get_or c.buffer i 0 ≡ 0
  unused-place k i l =
      ap (λ d. get_or d.buffer i 0) k.whole ∙ pad-outside 6 (held_events c) i (omega (arith, k.held-length))

  -- the places in the input, by their numbers
  abbrev at : ℕ → ℕ
  at i = get_or (place_numbers c) i 0

  abbrev count : ℕ
  count = input_number c.received

  input : ℕ → Bool
  input i = input_stands c.held count (place_numbers c) i

  input_below : (i : ℕ) → i < c.held → input i ≡ true → at i < count
  unfolding input input_stands
  input_below i l h =
      ltb-true _ _ (and-pair (eqb i 0 || ltb (at (i - 1)) (at i)) _ (rw (lt-ltb i c.held l) at h)).1

  input_rises : (i : ℕ) → suc i < c.held → input (suc i) ≡ true → at i < at (suc i)
  unfolding input input_stands
  input_rises i l h =
      let e : suc i - 1 ≡ i = omega arith in
      let z : eqb (suc i) 0 ≡ false = ne_eqb (suc i) 0 (λ y. omega arith) in
      let p = (and-pair (eqb (suc i) 0 || ltb (at (suc i - 1)) (at (suc i))) _ (rw (lt-ltb (suc i) c.held l) at h)).0 in
      ltb-true _ _ (rw (z, e) at p)

  input_unused : (i : ℕ) → c.held ≤ i → input i ≡ true → at i ≡ 0
  unfolding input input_stands
  input_unused i l h = eqb-true (at i) 0 (rw (le-ltb i c.held l) at h)

  -- above the one before it
  above : (i : ℕ) → (0 < i → at (i - 1) < at i) → (eqb i 0 || ltb (at (i - 1)) (at i)) ≡ true
  above zero f = refl
  above (suc i) f = rw (ne_eqb (suc i) 0 (λ y. omega arith)) (lt-ltb (at (suc i - 1)) (at (suc i)) (f (omega arith)))

  input_when : (i : ℕ) → (i < c.held → 0 < i → at (i - 1) < at i) → (i < c.held → at i < count) → (c.held ≤ i → at i ≡ 0) → input i ≡ true
  unfolding input input_stands
  input_when i f g z =
      by (ltb i c.held)
      (λ u.
      let b = ltb-true i c.held u in
      rw u (and_both (above i (f b)) (lt-ltb (at i) count (g b))))
      (λ u. rw u (eq-eqb (at i) 0 (z (ltb-false i c.held u))))

  inputs_when : ((i : ℕ) → suc i < c.held → at i < at (suc i)) → ((i : ℕ) → i < c.held → at i < count)
      → ((i : ℕ) → c.held ≤ i → i < 6 → at i ≡ 0) → inputs_stand c.held count (place_numbers c) ≡ true
  unfolding inputs_stand input
  inputs_when f g z =
      each_all 6 input (λ i b.
      input_when i
      (λ l p.
      let e : suc (i - 1) ≡ i = omega arith in
      let r = f (i - 1) (omega arith) in
      rw e at r)
      (g i)
      (λ l. z i l b))

  numbers-six : length c.places ≡ 6 → length (place_numbers c) ≡ 6
  unfolding place_numbers
  numbers-six h = length-map c.places input_number ∙ h

  places_same : length (place_numbers c) ≡ 6 → c.held ≤ 6 → ((i : ℕ) → c.held ≤ i → i < 6 → at i ≡ 0)
      → map input_place (pad 6 (take c.held (place_numbers c))) ≡ c.places
  unfolding place_numbers
  places_same six small zeros =
      ap (map input_place) (pad-take 6 c.held (place_numbers c) six small zeros) ∙ places-numbers c.places

  -- an unused place
  unused-number : Consistent a c → (i : ℕ) → c.held ≤ i → at i ≡ 0
  unfolding place_numbers
  unused-number k i l =
      ap (λ d. get_or (place_numbers d) i 0) k.whole ∙
      ap (λ ns. get_or ns i 0) (numbers-places (pad 6 (take c.held (place_numbers c)))) ∙
      pad-outside 6 (take c.held (place_numbers c)) i (omega (arith, k.placed.each-has, k.held-length))

  -- the used ones, out of the position
  used-number : Consistent a c → (i : ℕ) → i < c.held → at i < count
  used-number k i l =
      let r = k.placed.rising.below i (omega (arith, k.placed.each-has, k.held-length)) in
      rw (get_or-take c.held (place_numbers c) i 0 l) at r

  used_rise : Consistent a c → (i : ℕ) → suc i < c.held → at i < at (suc i)
  used_rise k i l =
      let b : i < c.held = omega arith in
      let r = k.placed.rising.rises i (omega (arith, k.placed.each-has, k.held-length)) in
      rw (get_or-take c.held (place_numbers c) i 0 b, get_or-take c.held (place_numbers c) (suc i) 0 l) at r

  pub consistent_facts : Valid a → consistent a c ≡ true → Consistent a c
  unfolding consistent_in buffer_stands place_stands held_events inputs_stand input
  consistent_facts v h =
      let p1 = and-pair (eqb (length c.buffer) 6) _ h in
      let p2 = and-pair (ltb c.state a.states) _ p1.1 in
      let p3 = and-pair (leb c.held a.capacity) _ p2.1 in
      let p4 = and-pair (buffer_stands a.symbols a.classes c.held c.buffer) _ p3.1 in
      let p5 = and-pair (eqb (length c.places) 6) _ p4.1 in
      let p6 = and-pair (inputs_stand c.held count (place_numbers c)) _ p5.1 in
      let long : length c.buffer ≡ 6 = eqb-true _ 6 p1.0 in
      let most : c.held ≤ a.capacity = leb-true _ _ p3.0 in
      let small : c.held ≤ 6 = omega (arith, v.capacity-high) in
      let held : length (take c.held c.buffer) ≡ c.held = length-take-le c.held c.buffer (omega arith) in
      let same : pad 6 (take c.held c.buffer) ≡ c.buffer =
      pad-take 6 c.held c.buffer long small (λ i l b. place-unused i l (each_at 6 place p4.0 i b)) in
      let six : length (place_numbers c) ≡ 6 = numbers-six (eqb-true _ 6 p5.0) in
      let many : length (take c.held (place_numbers c)) ≡ c.held = length-take-le c.held (place_numbers c) (omega arith) in
      let stand : (i : ℕ) → i < 6 → input i ≡ true = each_at 6 input p6.0 in
      record {
        state-below = ltb-true _ _ p2.0;
        held_high = most;
        held_small = small;
        buffer-length = long;
        held-length = held;
        events = every_controllable a (take c.held c.buffer) (λ i l.
            let b : i < c.held = omega arith in
            rw (get_or-take c.held c.buffer i 0 b) (place-used i b (each_at 6 place p4.0 i (omega arith))));
        places-length = eqb-true _ 6 p5.0;
        placed = record {
          each-has = many ∙ sym held;
          rising = record {
            below = λ i l.
                let b : i < c.held = omega arith in
                rw (get_or-take c.held (place_numbers c) i 0 b) (input_below i b (stand i (omega arith)));
            rises = λ i l.
                let b : suc i < c.held = omega arith in
                let b' : i < c.held = omega arith in
                rw (get_or-take c.held (place_numbers c) i 0 b', get_or-take c.held (place_numbers c) (suc i) 0 b)
                (input_rises i b (stand (suc i) (omega arith)));
          };
          sum = rw held (eqb-true _ _ p6.1);
        };
        whole = λ j. record {
          state = c.state;
          held = sym held j;
          buffer = sym same j;
          places = sym (places_same six small (λ i l b. input_unused i l (stand i b))) j;
          received = c.received;
          emitted = c.emitted;
        };
      }

  sum-held : Consistent a c → output_number c.emitted + c.held ≡ count
  sum-held k = rw k.held-length at k.placed.sum

  pub consistent_of : Consistent a c → consistent a c ≡ true
  unfolding consistent_in buffer_stands place_stands
  consistent_of k =
      and_both (eq-eqb _ 6 k.buffer-length)
      (and_both (lt-ltb _ _ k.state-below)
      (and_both (le-leb _ _ k.held_high)
      (and_both (each_all 6 place (λ i _. place_when i (held-event k i) (unused-place k i)))
      (and_both (eq-eqb _ 6 k.places-length)
      (and_both (inputs_when (used_rise k) (used-number k) (λ i l _. unused-number k i l)) (eq-eqb _ _ (sum-held k)))))))

  pub held-buffer : Consistent a c → Buffer a (held_events c)
  held-buffer k = (k.events, omega (arith, k.held-length, k.held_high))

  -- a place in the input, by its number
  number_at : (i : ℕ) → at i ≡ input_at c i
  unfolding place_numbers
  number_at i = get_or-map input_number c.places i (input_place 0)

-- row 13 in the documents' words
pub consistent_as_worded : ConsistentAsWorded
unfolding consistent_in buffer_stands place_stands
consistent_as_worded a c v long six = (
  λ h.
      let k = consistent_facts a c (valid_facts a v) h in
      let at = number_at a c in
      let many : length (take c.held (place_numbers c)) ≡ c.held = k.placed.each-has ∙ k.held-length in
      record {
        state-below = k.state-below;
        few = k.held_high;
        events = λ i l. let e = held-event a c k i l in (e.0, (class-one a (get_or c.buffer i 0)).0 e.1);
        unused = λ i l _. unused-place a c k i l;
        rising = λ i j l b.
            let b' : i < c.held = omega arith in
            let r = rising-between _ _ k.placed.rising i j l (omega arith) in
            rw (get_or-take c.held (place_numbers c) i 0 b', get_or-take c.held (place_numbers c) j 0 b, at i, at j) at r;
        below = λ i l. rw (at i) at (used-number a c k i l);
        unused-places = λ i l _. sym (at i) ∙ unused-number a c k i l;
        sum = sum-held a c k;
      },
  λ w.
      let at = number_at a c in
      and_both (eq-eqb _ 6 long)
      (and_both (lt-ltb _ _ w.state-below)
      (and_both (le-leb _ _ w.few)
      (and_both
      (each_all 6 (place a c) (λ i b.
      place_when a c i
      (λ l. let e = w.events i l in (e.0, (class-one a (get_or c.buffer i 0)).1 e.1))
      (λ l. w.unused i l b)))
      (and_both (eq-eqb _ 6 six)
      (and_both
      (inputs_when a c
      (λ i l. rw (at i, at (suc i)) (w.rising i (suc i) (omega arith) l))
      (λ i l. rw (at i) (w.below i l))
      (λ i l b. at i ∙ w.unused-places i l b))
      (eq-eqb _ _ w.sum)))))),
)

-- the position comes back from the configuration that is made of it
pub position-made : (p : Position) → length p.places ≡ length p.buffer → position_of (configuration p) ≡ p
unfolding held_events place_numbers
position-made p h =
    let e : take (length p.buffer) (map input_number (map input_place (pad 6 p.places))) ≡ p.places =
    ap (take (length p.buffer)) (numbers-places (pad 6 p.places)) ∙
    ap (λ n. take n (pad 6 p.places)) (sym h) ∙ take-pad 6 p.places
    in
    λ i. record { state = p.state; buffer = take-pad 6 p.buffer i; places = e i; received = p.received; emitted = p.emitted }

-- a configuration that is made of a position
pub configuration-consistent : (a : Automaton) → Valid a → (p : Position) → p.state < a.states → Buffer a p.buffer → Placed p
    → Consistent a (configuration p)
unfolding held_events
configuration-consistent a v p l b k =
    let w = p.buffer in
    let e : take (length w) (pad 6 w) ≡ w = take-pad 6 w in
    let short : length w ≤ 6 = omega (arith, v.capacity-high, b.1) in
    let few : length p.places ≤ 6 = omega (arith, k.each-has) in
    let same = position-made p k.each-has in
    record {
      state-below = l;
      held_high = b.1;
      held_small = short;
      buffer-length = pad-length 6 w short;
      held-length = ap length e;
      events = rw e b.0;
      places-length = length-map (pad 6 p.places) input_place ∙ pad-length 6 p.places few;
      placed = rw same k;
      whole = ap configuration (sym same);
    }
