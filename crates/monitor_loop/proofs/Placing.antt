-- The places of what is held after an accepted event, as the code finds them.
use Prim.Native.Nat.{ℕ, ◌+◌, ◌-◌, ◌≤◌}
use mathlib.Core.Path.{◌≡◌, sym, ◌∙◌, ap}
use mathlib.Core.List.{List}
use native.Mathlib.Omega.{arith}
use lib.ListN.{length, drop}
use Rattle.base.specs.Pad.{pad}
use Rattle.base.proofs.Bools.{by}
use Rattle.automaton.specs.declared.Automaton.{Automaton}
use Rattle.automaton.specs.Automaton.{controllable}
use Rattle.configuration_places.specs.declared.InputPlace.{InputPlace}
use Rattle.configuration_places.specs.Places.{input_place, input_number}
use Rattle.configuration.specs.declared.Configuration.{Configuration}
use Rattle.configuration.specs.Configuration.{Position, held_events, position_of, configuration}
use Rattle.configuration.proofs.Facts.{Consistent}
use Rattle.monitor_rule.specs.Step.{Rest, remaining, Effect, effect_from, in_line, advance}
use Rattle.monitor_rule.proofs.Effects.{effect-length}
use Rattle.monitor_places.specs.Lines.{places_after, AfterRequires}
use Rattle.monitor_places.proofs.Laws.{places, left-passing, left-waiting}
use Rattle.monitor_step.specs.Stepping.{released}
use Rattle.monitor_step.proofs.Emitting.{emitted_many, released-few}
use Rattle.monitor_loop.specs.Lending.{derived}

module _ (a : Automaton) (c : Configuration) (k : Consistent a c) (rest : Rest) (e : ℕ) where
  abbrev p : Position
  p = position_of c

  abbrev f : Effect
  f = effect_from rest a p e

  -- what is held then
  abbrev many : ℕ
  many = length f.buffer

  abbrev gone : ℕ
  gone = released rest a c.state (held_events c) e

  -- the places of what is held then, in the array
  abbrev target : List InputPlace
  target = places 6 (drop (length f.emitted) (in_line a p e))

  lie : c.places ≡ places 6 p.places
  lie = ap (λ (d : Configuration). d.places) k.whole

  have : length p.places ≡ c.held
  have = k.placed.each-has ∙ k.held-length

  sum : length f.emitted + many ≡ c.held + 1
  sum = omega (arith, effect-length rest a c.state (held_events c) e, k.held-length)

  -- the places that the code finds are theirs
  pub places_theirs : (left : List InputPlace) → left ≡ places_after c.places c.held c.received gone many → left ≡ target
  unfolding in_line remaining
  places_theirs left el =
      let m : c.held + 1 - many ≡ length f.emitted = omega (arith, sum) in
      let found : left ≡ places_after (places 6 p.places) (length p.places) c.received gone many =
      el ∙ ap (λ ps. places_after ps c.held c.received gone many) lie ∙
      ap (λ i. places_after (places 6 p.places) i c.received gone many) (sym have)
      in
      let same : length p.places + 1 - many ≡ length f.emitted = ap (λ i. i + 1 - many) have ∙ m in
      let few : many ≤ length p.places + 1 = omega (arith, sum, have) in
      by (controllable a e)
      (λ y.
      let n : gone + many ≡ length p.places → ⊥ = λ z. omega (arith, z, sum, have, rw y at (emitted_many rest a c.state (held_events c) e)) in
      found ∙ left-waiting p.places p.received gone many few n ∙ rw (same, y))
      (λ y.
      let n : gone + many ≡ length p.places = omega (arith, sum, have, rw y at (emitted_many rest a c.state (held_events c) e)) in
      found ∙ left-passing p.places p.received gone many few n ∙ rw (same, y))

  -- what `places_after` asks is there
  pub places_ask : many ≤ 6 → AfterRequires c.places c.held gone many
  places_ask high =
      record {
        numbers = p.places;
        each-has = have;
        laid = lie;
        before-few = k.held_small;
        held-few = high;
        released-few = omega (arith, released-few rest a c.state (held_events c) e, k.held-length, k.held_small);
        one_more = omega (arith, sum);
        none-lost = omega (arith, sum, emitted-at_most);
      }
    where
      emitted-at_most : length f.emitted ≤ gone + 1
      emitted-at_most =
          by (controllable a e)
          (λ y. omega (arith, rw y at (emitted_many rest a c.state (held_events c) e)))
          (λ y. omega (arith, rw y at (emitted_many rest a c.state (held_events c) e)))

  -- the whole configuration then
  pub next-is : (state held : ℕ) (buffer : List ℕ) (ps : List InputPlace) → state ≡ f.state → held ≡ many → buffer ≡ pad 6 f.buffer → ps ≡ target
      → derived state held buffer ps (input_place (input_number c.received + 1)) ≡ configuration (advance rest a p e)
  next-is state held buffer ps es eh eb ep =
      let out : input_number c.received + 1 - held ≡ p.emitted + length f.emitted = omega (arith, eh, sum, k.placed.sum, k.held-length) in
      λ i. record {
        state = es i;
        held = eh i;
        buffer = eb i;
        places = ep i;
        received = input_place (input_number c.received + 1);
        emitted = record { 0 = out i };
      }

-- a consistent configuration's own output count is the derived one
pub derived-is : (a : Automaton) (c : Configuration) → Consistent a c
    → derived c.state c.held c.buffer c.places c.received ≡ c
derived-is a c k =
    let e : input_number c.received - c.held ≡ c.emitted.0 = omega (arith, k.placed.sum, k.held-length) in
    λ i. record {
      state = c.state;
      held = c.held;
      buffer = c.buffer;
      places = c.places;
      received = c.received;
      emitted = record { 0 = e i };
    }
