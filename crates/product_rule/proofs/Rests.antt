-- Where the product may rest, each part may: each is an image of it.
use Prim.Native.Nat.{ℕ, ◌/◌, ◌%◌, ◌<◌}
use mathlib.Core.Path.{◌≡◌, sym, ◌∙◌, ap, subst}
use mathlib.Core.List.{List}
use native.Mathlib.Omega.{arith}
use Rattle.base.specs.All.{AllOf}
use Rattle.automaton.specs.declared.Automaton.{Automaton}
use Rattle.automaton.specs.Automaton.{step}
use Rattle.solver_sets.specs.Definition6.{Union, Final}
use Rattle.solver_sets.specs.Claims.{Winning, Intermediate, Projects}
use Rattle.solver_sets.proofs.Total.{total}
use Rattle.solver_sets.proofs.Projection.{same-free, images_rest}
use Rattle.product_rule.specs.Pairs.{pair}
use Rattle.product_rule.specs.Product.{product_of}
use Rattle.product_rule.specs.Claims.{Matching, Merges, Symbols, PartsRest}
use Rattle.product_rule.proofs.Pairs.{pair-first, pair-second, pair-below, of_pairs}
use Rattle.product_rule.proofs.Rows.{matching}
use Rattle.product_rule.proofs.Merged.{product_merges}

-- any record that is the two merged
module _ (a b c : Automaton) (k : Matching a b) (m : Merges a b c) where
  abbrev n : ℕ
  n = b.states

  -- what holds of each pair holds of each state of the merged record
  of_states : (P : ℕ → Type 0) → ((p q : ℕ) → p < a.states → q < n → P (pair n p q)) → (r : ℕ) → r < c.states → P r
  of_states P f r l = of_pairs a.states n r (omega (arith, m.states)) P f

  -- where a symbol leads from a pair: to the pair of where it leads from both
  module _ (p q e : ℕ) (lp : p < a.states) (lq : q < n) (le : e < c.symbols) where
    pair-next : step c (pair n p q) e ≡ pair n (step a p e) (step b q e)
    pair-next = m.next p q e lp lq (omega (arith, m.symbols.0))

    second-next : step b q e < n
    second-next = total b k.second-valid q e

    first-steps : step c (pair n p q) e / n ≡ step a (pair n p q / n) e
    first-steps =
        ap (λ r. r / n) pair-next ∙ pair-first n (step a p e) (step b q e) second-next ∙ ap (λ r. step a r e) (sym (pair-first n p q lq))

    second-steps : step c (pair n p q) e % n ≡ step b (pair n p q % n) e
    second-steps =
        ap (λ r. r % n) pair-next ∙ pair-second n (step a p e) (step b q e) second-next ∙ ap (λ r. step b r e) (sym (pair-second n p q lq))

  first-projects : Projects c a (λ r. r / n)
  first-projects =
      record {
        below = of_states (λ r. r / n < a.states) (λ p q lp lq. rw (pair-first n p q lq) lp);
        steps = λ r e l le. of_states (λ r. step c r e / n ≡ step a (r / n) e) (λ p q lp lq. first-steps p q e lp lq le) r l;
        final = of_states (λ r. Final c r → Final a (r / n)) (λ p q lp lq h. rw (pair-first n p q lq) ((m.accepting p q lp lq).0 h).0);
        free = same-free c a m.symbols.0 (λ e. (m.classes e).0);
      }

  second-projects : Projects c b (λ r. r % n)
  second-projects =
      record {
        below = of_states (λ r. r % n < n) (λ p q lp lq. rw (pair-second n p q lq) lq);
        steps = λ r e l le. of_states (λ r. step c r e % n ≡ step b (r % n) e) (λ p q lp lq. second-steps p q e lp lq le) r l;
        final = of_states (λ r. Final c r → Final b (r % n)) (λ p q lp lq h. rw (pair-second n p q lq) ((m.accepting p q lp lq).0 h).1);
        free = same-free c b m.symbols.1 (λ e. (m.classes e).1);
      }

  -- both images, at one pair
  module _ (w : List ℕ) (s : Symbols a w) (p q : ℕ) (lp : p < a.states) (lq : q < n) where
    abbrev r : ℕ
    r = pair n p q

    below : r < c.states
    below = omega (arith, m.states, pair-below n p q lq a.states lp)

    -- the list is of its symbols too
    held : AllOf (λ e. e < c.symbols) w
    held = subst (λ i. AllOf (λ e. e < i) w) (sym m.symbols.0) s

    -- where the product may rest, can come to rest and must release, a part does so in a state
    abbrev Follows : Automaton → ℕ → Type 0
    Follows x u =
        (Winning c w r → Winning x w u) × (Union (Winning c w) (Intermediate c w) r → Union (Winning x w) (Intermediate x w) u)
        × (Intermediate c w r → Intermediate x w u)

    first_follows : Follows a p
    first_follows =
        rw (pair-first n p q lq) at (images_rest c a m.passes k.first-valid (λ r. r / n) first-projects w held r below)

    second_follows : Follows b q
    second_follows =
        rw (pair-second n p q lq) at (images_rest c b m.passes k.second-valid (λ r. r % n) second-projects w held r below)

pub parts_rest : PartsRest
parts_rest a b z w s p q lp lq =
    let c = product_of a b in
    let k = matching a b z in
    let m = product_merges a b z in
    let f = first_follows a b c k m w s p q lp lq in
    let g = second_follows a b c k m w s p q lp lq in
    (λ h. (f.0 h, g.0 h), λ h. (f.1 h, g.1 h), λ h. (f.2 h, g.2 h))
