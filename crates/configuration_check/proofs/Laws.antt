-- Tests of a place in the input and of the counts.
use Prim.Native.Nat.{ℕ, ◌+◌, ◌-◌, ◌<◌, ◌≤◌}
use mathlib.Core.Path.{◌≡◌, ◌∙◌, sym}
use mathlib.Core.Bool.{Bool, true, false, cond, ◌&&◌, ◌||◌}
use mathlib.Core.List.{List, map}
use native.Mathlib.Omega.{arith}
use lib.Dec.{eqb, leb, ltb}
use lib.ListN.{length, get_or, get_or-map}
use borrow.Author.Tests.{eqb-true, eqb-false, ltb-true, leb-true, eq-eqb, ne_eqb, lt-ltb, le-leb}
use Rattle.std.specs.Ordering.{is_lt, nat_cmp}
use Rattle.std.proofs.Common.{rules, tests}
use Rattle.base.proofs.Bools.{by, and-pair}
use Rattle.configuration_places.specs.declared.InputPlace.{InputPlace}
use Rattle.configuration_places.specs.Places.{input_place, input_number, output_number}
use Rattle.configuration.specs.declared.Configuration.{Configuration}
use Rattle.configuration.specs.Configuration.{buffer_stands, place_numbers, input_stands, inputs_stand, consistent_in}

-- the order of two places is that of their numbers
pub before-ltb : (m n : ℕ) → is_lt (nat_cmp m n) ≡ ltb m n
before-ltb m n = search (rules, tests)

-- a difference instead of a sum
pub less_held : (emitted held received : ℕ) → held ≤ received → eqb (received - held) emitted ≡ eqb (emitted + held) received
less_held emitted held received l =
    by (eqb (received - held) emitted)
    (λ u. u ∙ sym (eq-eqb (emitted + held) received (omega (arith, eqb-true (received - held) emitted u))))
    (λ u. u ∙ sym (ne_eqb (emitted + held) received (λ y. eqb-false (received - held) emitted u (omega arith))))

-- the number at a place
pub number_at : (ps : List InputPlace) (i : ℕ) → get_or (map input_number ps) i 0 ≡ input_number (get_or ps i (input_place 0))
number_at ps i = get_or-map input_number ps i (input_place 0)

-- the test of one place, as the code finds it
pub input_found : (held received : ℕ) (ps : List InputPlace) (i : ℕ) (fine rises : Bool)
    → rises ≡ (eqb i 0 || ltb (get_or (map input_number ps) (i - 1) 0) (get_or (map input_number ps) i 0))
    → fine ≡ cond (ltb i held) (rises && ltb (input_number (get_or ps i (input_place 0))) received) (eqb (input_number (get_or ps i (input_place 0))) 0)
    → input_stands held received (map input_number ps) i ≡ fine
unfolding input_stands
input_found held received ps i fine rises er ef = sym (ef ∙ rw (er, ← number_at ps i))

-- the parts of row 13, one by one
module _ (states symbols capacity : ℕ) (classes : List ℕ) (c : Configuration) where
  abbrev stands : Bool
  stands = consistent_in states symbols capacity classes c

  pub record Parts : Type 0 where
    pub state_low : c.state < states
    pub few : c.held ≤ capacity
    pub inputs : inputs_stand c.held (input_number c.received) (map input_number c.places) ≡ true
    pub counts : eqb (output_number c.emitted + c.held) (input_number c.received) ≡ true

  parts : stands ≡ true → Parts
  unfolding consistent_in place_numbers
  parts h =
      let p1 = and-pair (eqb (length c.buffer) 6) _ h in
      let p2 = and-pair (ltb c.state states) _ p1.1 in
      let p3 = and-pair (leb c.held capacity) _ p2.1 in
      let p4 = and-pair (buffer_stands symbols classes c.held c.buffer) _ p3.1 in
      let p5 = and-pair (eqb (length c.places) 6) _ p4.1 in
      let p6 = and-pair (inputs_stand c.held (input_number c.received) (place_numbers c)) _ p5.1 in
      record {
        state_low = ltb-true _ _ p2.0;
        few = leb-true _ _ p3.0;
        inputs = p6.0;
        counts = p6.1;
      }

  -- where one fails
  pub fails : (Parts → ⊥) → false ≡ stands
  fails z = by stands (λ h. absurd (z (parts h))) sym

  -- where all hold, it is the buffer that decides
  pub decides : length c.buffer ≡ 6 → length c.places ≡ 6 → Parts → buffer_stands symbols classes c.held c.buffer ≡ stands
  unfolding consistent_in place_numbers
  decides long six p =
      rw (eq-eqb (length c.buffer) 6 long, lt-ltb c.state states p.state_low, le-leb c.held capacity p.few, eq-eqb (length c.places) 6 six, p.inputs, p.counts)
      (by (buffer_stands symbols classes c.held c.buffer) (λ h. rw h) (λ h. rw h))
