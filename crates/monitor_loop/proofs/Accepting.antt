-- An accepted event for a consistent configuration: what its step left, with the places as the
-- code finds them, is the configuration that the rule says.
use Prim.Native.Nat.{ℕ, ◌+◌, ◌<◌, ◌≤◌}
use mathlib.Core.Path.{◌≡◌, sym, ◌∙◌, ap}
use mathlib.Core.Bool.{true}
use mathlib.Core.List.{List}
use native.Mathlib.Omega.{arith}
use lib.ListN.{length}
use Rattle.base.specs.Pad.{pad}
use Rattle.automaton.specs.declared.Automaton.{Automaton}
use Rattle.configuration_places.specs.declared.InputPlace.{InputPlace}
use Rattle.configuration_places.specs.Places.{input_place, input_number}
use Rattle.configuration.specs.declared.Configuration.{Configuration}
use Rattle.configuration.specs.Configuration.{held_events, position_of, consistent}
use Rattle.monitor_rule.specs.Step.{by_table, advance}
use Rattle.monitor_rule.proofs.Rows.{event-rows_as_worded}
use Rattle.monitor_rule.proofs.Effects.{effect-length}
use Rattle.monitor_places.specs.Lines.{places_after, AfterRequires}
use Rattle.monitor_places.proofs.Laws.{places}
use Rattle.monitor_step.specs.declared.Stepped.{Stepped}
use Rattle.monitor_step.specs.Stepping.{released}
use Rattle.monitor_answers.specs.Turns.{turn_refusal, turn_emitted, turn_next}
use Rattle.monitor_answers.proofs.Turns.{turn-consistent, turn_moves, turn_keeps}
use Rattle.monitor_loop.specs.Lending.{Limits, Lends, ProcessRequires, derived}
use Rattle.monitor_loop.proofs.Taking.{processed, Takes, opens, facts, place}
use Rattle.monitor_loop.proofs.Placing.{places_theirs, places_ask, next-is}

module _ {l : Limits} {next ranks t : List ℕ} {c : Configuration} (g : ProcessRequires l next ranks t c) (e at : ℕ) (out : List ℕ) (r : Stepped)
    (out' : List ℕ) (s : Takes l next ranks t c e at out r out') (z : r.row ≡ 0) where
  -- what its step left
  module _ (a : Automaton) (o : Lends a l next ranks t) (k : consistent a c ≡ true) where
    passes : turn_refusal a t c e ≡ 0
    unfolding processed
    passes = sym (ap (λ (y : Stepped). y.row) (s a o k).0) ∙ z

    left : Stepped
    left = record {
      row = 0;
      state = (advance (by_table a t) a (position_of c) e).state;
      held = length (advance (by_table a t) a (position_of c) e).buffer;
      buffer = pad 6 (advance (by_table a t) a (position_of c) e).buffer;
      released = released (by_table a t) a c.state (held_events c) e;
      written = at + length (turn_emitted a t c e);
    }

    left_is : r ≡ left
    unfolding processed left
    left_is = (s a o k).0 ∙ rw (turn_moves a t c e passes, passes)

  abbrev own : Automaton
  own = g.automaton

  pub accepted-few : r.held ≤ 6
  unfolding left
  accepted-few =
      omega (
        arith,
        ap (λ (y : Stepped). y.held) (left_is own g.lends g.stands),
        (place g.lends (turn_next own t c e) (turn_keeps own t c e (opens g.lends) g.stands)).held_small,
        ap (λ (y : Configuration). y.held) (turn_moves own t c e (passes own g.lends g.stands)),
      )

  pub accepted-state : r.state < 32
  unfolding left
  accepted-state =
      omega (
        arith,
        ap (λ (y : Stepped). y.state) (left_is own g.lends g.stands),
        (place g.lends (turn_next own t c e) (turn_keeps own t c e (opens g.lends) g.stands)).state-below,
        ap (λ (y : Configuration). y.state) (turn_moves own t c e (passes own g.lends g.stands)),
        (facts g.lends).states-high,
      )

  -- the input count is not at its end
  pub accepted-counts : input_number c.received ≡ 4294967295 → ⊥
  accepted-counts =
      let row = sym (turn-consistent own t c e g.stands) ∙ passes own g.lends g.stands in
      ((event-rows_as_worded (by_table own t) own (position_of c) e).accepted.0 row).1

  -- the places of what is held then can be found
  pub accepted_asks : AfterRequires c.places c.held r.released r.held
  unfolding left
  accepted_asks =
      let y = left_is own g.lends g.stands in
      let many = ap (λ (x : Stepped). x.held) y in
      rw (many, ap (λ (x : Stepped). x.released) y)
      (places_ask own c (place g.lends c g.stands) (by_table own t) e (omega (arith, many, accepted-few)))

  -- what is held then came in
  pub accepted_derives : r.held ≤ input_number c.received + 1
  unfolding left
  accepted_derives =
      let k = place g.lends c g.stands in
      omega (
        arith,
        ap (λ (y : Stepped). y.held) (left_is own g.lends g.stands),
        effect-length (by_table own t) own c.state (held_events c) e,
        k.held-length,
        k.placed.sum,
      )

  module _ (ps : List InputPlace) (w : ps ≡ places_after c.places c.held c.received r.released r.held)
      (a : Automaton) (o : Lends a l next ranks t) (k : consistent a c ≡ true) where
    y : r ≡ left a o k
    y = left_is a o k

    places-found : ps ≡ places 6 (advance (by_table a t) a (position_of c) e).places
    unfolding left
    places-found =
        places_theirs a c (place o c k) (by_table a t) e ps
        (w ∙ ap (λ (x : Stepped). places_after c.places c.held c.received x.released x.held) y)

    -- the configuration then, and what was written
    pub accepted-found : (derived r.state r.held r.buffer ps (input_place (input_number c.received + 1)) ≡ turn_next a t c e)
        × (r.written ≡ at + length (turn_emitted a t c e))
    unfolding left
    accepted-found = (
      next-is a c (place o c k) (by_table a t) e r.state r.held r.buffer ps
          (ap (λ (x : Stepped). x.state) y) (ap (λ (x : Stepped). x.held) y) (ap (λ (x : Stepped). x.buffer) y) places-found ∙
          sym (turn_moves a t c e (passes a o k)),
      ap (λ (x : Stepped). x.written) y,
    )
