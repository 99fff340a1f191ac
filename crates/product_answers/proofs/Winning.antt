-- Where the monitor of a product is winning, those of its parts are.
use Prim.Native.Nat.{ℕ, ◌/◌, ◌%◌, ◌*◌, ◌<◌, ◌≤◌}
use mathlib.Core.Path.{◌≡◌, refl, sym, ◌∙◌, subst}
use mathlib.Core.Bool.{true, false}
use mathlib.Core.List.{List, [], ◌∷◌}
use native.Mathlib.Omega.{arith}
use lib.ListN.{length}
use lib.Seq.{ext_get_or}
use lib.Dec.{eqb, ltb, leb}
use borrow.Author.Tests.{eqb-true, leb-true, lt-ltb, le-leb, le-ltb}
use Rattle.base.proofs.Bools.{by, clash, and-pair, and_both}
use Rattle.automaton.specs.declared.Automaton.{Automaton}
use Rattle.automaton.specs.Automaton.{valid}
use Rattle.automaton.proofs.Facts.{valid_facts}
use Rattle.solver_sets.specs.Table.{short, Controllable, Solved}
use Rattle.solver_sets.specs.Claims.{Winning}
use Rattle.configuration.specs.declared.Configuration.{Configuration}
use Rattle.configuration.specs.Configuration.{held_events, place_numbers, consistent_in, consistent}
use Rattle.monitor_rule.specs.Step.{by_sets}
use Rattle.monitor_rule.proofs.Solved.{solved_agree}
use Rattle.monitor_answers.specs.Answers.{is_winning, call_refusal, status}
use Rattle.monitor_answers.proofs.Refusals.{Clear, clear, status_clear}
use Rattle.monitor_answers.proofs.Accepted.{clear_occurs}
use Rattle.product_rule.specs.Product.{product_of, product_refusal}
use Rattle.product_rule.specs.Claims.{Matching, Merges, Symbols}
use Rattle.product_rule.proofs.Pairs.{first_below, second_below, pair_parts}
use Rattle.product_rule.proofs.Rows.{matching}
use Rattle.product_rule.proofs.Merged.{product_merges}
use Rattle.product_rule.proofs.Rests.{parts_rest}
use Rattle.product_answers.specs.Claims.{in_state, PartsWin}

-- a solved table is long enough
long-enough : (a : Automaton) (t : List ℕ) → Solved a t → short a t ≡ false
unfolding short
long-enough a t s = le-ltb _ _ s.long

-- winning is told where no row refuses, and there by the table
module _ (a : Automaton) (t : List ℕ) (c : Configuration) where
  told : (status a t c).winning ≡ true → (call_refusal a t c ≡ 0) × (is_winning a t c ≡ true)
  unfolding status
  told h =
      by (eqb (call_refusal a t c) 0)
      (λ z. (eqb-true (call_refusal a t c) 0 z, rw z at h))
      (λ z. absurd (clash (rw z at h) refl))

  telling : call_refusal a t c ≡ 0 → is_winning a t c ≡ true → (status a t c).winning ≡ true
  unfolding status
  telling z h = rw (z, h)

  -- over a solved table by the sets
  module _ (s : Solved a t) (k : Clear a t c) where
    by-sets : is_winning a t c ≡ by_sets a (held_events c) c.state
    unfolding is_winning
    by-sets = solved_agree a t s (held_events c) c.state (clear_occurs a t c k).occurs

-- what row 13 reads of the automaton: where another has the same symbols, no fewer places for held
-- events, and the state is one of its own, it lets the configuration pass in that state
module _ (c a : Automaton) (x : Configuration) (q : ℕ) where
  moved : c.symbols ≡ a.symbols → c.classes ≡ a.classes → c.capacity ≤ a.capacity → q < a.states
      → consistent c x ≡ true → consistent a (in_state x q) ≡ true
  unfolding consistent_in place_numbers
  moved symbols classes capacity below h =
      let p1 = and-pair (eqb (length x.buffer) 6) _ h in
      let p2 = and-pair (ltb x.state c.states) _ p1.1 in
      let p3 = and-pair (leb x.held c.capacity) _ p2.1 in
      let few : x.held ≤ c.capacity = leb-true x.held c.capacity p3.0 in
      and_both p1.0
      (and_both (lt-ltb q a.states below)
      (and_both (le-leb x.held a.capacity (omega arith))
      (rw (symbols, classes) at p3.1)))

module _ (a b : Automaton) (z : product_refusal a b ≡ 0) where
  abbrev c : Automaton
  c = product_of a b

  abbrev n : ℕ
  n = b.states

  abbrev k : Matching a b
  k = matching a b z

  abbrev m : Merges a b c
  m = product_merges a b z

  -- the classes of both, place by place
  second-classes : c.classes ≡ b.classes
  second-classes =
      let long = (valid_facts c m.passes).classes-length in
      ext_get_or 0 c.classes b.classes (long ∙ sym (valid_facts b k.second-valid).classes-length) (λ e _. (m.classes e).1)

  first-classes : c.classes ≡ a.classes
  first-classes =
      let long = (valid_facts c m.passes).classes-length in
      ext_get_or 0 c.classes a.classes (long ∙ sym (valid_facts a k.first-valid).classes-length) (λ e _. (m.classes e).0)

  symbols_of : (w : List ℕ) → Controllable c w → Symbols a w
  symbols_of [] h = tt
  symbols_of (e ∷ w) h = (omega (arith, h.0.0, m.symbols.0), symbols_of w h.1)

  -- a winning configuration of the product, over a solved table
  module _ (t : List ℕ) (s : Solved c t) (x : Configuration) (h : (status c t x).winning ≡ true) where
    stands : Clear c t x
    stands = clear c t x (told c t x h).0

    below : x.state < a.states * n
    below = omega (arith, m.states, (clear_occurs c t x stands).occurs.state-below)

    rests : Winning c (held_events x) x.state
    unfolding by_sets
    rests = sym (by-sets c t x s stands) ∙ (told c t x h).1

    parts : Winning a (held_events x) (x.state / n) × Winning b (held_events x) (x.state % n)
    parts =
        (parts_rest a b z (held_events x) (symbols_of (held_events x) (clear_occurs c t x stands).occurs.buffer.0) (x.state / n) (x.state % n)
        (first_below a.states n x.state below) (second_below a.states n x.state below)).0
        (subst (Winning c (held_events x)) (sym (pair_parts a.states n x.state below)) rests)

    -- a part in a state of its own where it may rest with what is held
    module _ (p : Automaton) (v : valid p ≡ true) (u : List ℕ) (r : Solved p u) (q : ℕ) (lq : q < p.states)
        (symbols : c.symbols ≡ p.symbols) (classes : c.classes ≡ p.classes) (capacity : c.capacity ≤ p.capacity) where
      part-stands : Clear p u (in_state x q)
      part-stands =
          record {
            record_valid = v;
            table-long = long-enough p u r;
            configuration-consistent = moved c p x q symbols classes capacity lq stands.configuration-consistent;
          }

      part-wins : Winning p (held_events x) q → (status p u (in_state x q)).winning ≡ true
      unfolding by_sets held_events
      part-wins w =
          let g = part-stands in
          telling p u (in_state x q) (status_clear p u (in_state x q) g.record_valid g.table-long g.configuration-consistent)
          (by-sets p u (in_state x q) r g ∙ w)

pub parts_win : PartsWin
parts_win a b z t ta tb s sa sb x h =
    let k = matching a b z in
    let m = product_merges a b z in
    let l = below a b z t s x h in
    let g = parts a b z t s x h in (
      part-wins a b z t s x h a k.first-valid ta sa (x.state / b.states) (first_below a.states b.states x.state l)
          m.symbols.0 (first-classes a b z) m.capacity_most.0 g.0,
      part-wins a b z t s x h b k.second-valid tb sb (x.state % b.states) (second_below a.states b.states x.state l)
          m.symbols.1 (second-classes a b z) m.capacity_most.1 g.1,
    )
