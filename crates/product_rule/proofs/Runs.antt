-- Where a list leads in the product.
use Prim.Native.Nat.{ℕ, ◌<◌}
use mathlib.Core.Path.{◌≡◌, refl, ◌∙◌, ap}
use mathlib.Core.Logic.{◌↔◌}
use mathlib.Core.List.{List, [], ◌∷◌}
use Rattle.automaton.specs.declared.Automaton.{Automaton}
use Rattle.automaton.specs.Automaton.{step, reached}
use Rattle.automaton.proofs.Facts.{valid_facts}
use Rattle.solver_sets.proofs.Total.{Total, total, reached-below}
use Rattle.product_rule.specs.Pairs.{pair}
use Rattle.product_rule.specs.Product.{product_of}
use Rattle.product_rule.specs.Claims.{Matching, Merges, Symbols, EndsAccepting, LeadsToPair, EndsAsBoth}
use Rattle.product_rule.proofs.Rows.{matching}
use Rattle.product_rule.proofs.Merged.{product_merges}

-- any record that is the two merged
module _ (a b c : Automaton) (k : Matching a b) (m : Merges a b c) where
  abbrev n : ℕ
  n = b.states

  -- every next state is a state
  abbrev ta : Total a
  ta = total a k.first-valid

  abbrev tb : Total b
  tb = total b k.second-valid

  leads : (es : List ℕ) → Symbols a es → (p q : ℕ) → p < a.states → q < n
      → reached c (pair n p q) es ≡ pair n (reached a p es) (reached b q es)
  unfolding reached
  leads [] s p q lp lq = refl
  leads (e ∷ es) s p q lp lq =
      ap (λ r. reached c r es) (m.next p q e lp lq s.0) ∙
      leads es s.1 (step a p e) (step b q e) (ta p e) (tb q e)

  ends : (es : List ℕ) → Symbols a es → EndsAccepting c es ↔ (EndsAccepting a es × EndsAccepting b es)
  ends es s =
      let la = (valid_facts a k.first-valid).initial-below in
      let lb = (valid_facts b k.second-valid).initial-below in
      let at : reached c c.initial es ≡ pair n (reached a a.initial es) (reached b b.initial es) =
      ap (λ r. reached c r es) m.initial ∙ leads es s a.initial b.initial la lb in
      rw at
      (m.accepting (reached a a.initial es) (reached b b.initial es) (reached-below a ta a.initial es la) (reached-below b tb b.initial es lb))

pub leads_to_pair : LeadsToPair
leads_to_pair a b z = leads a b (product_of a b) (matching a b z) (product_merges a b z)

pub ends_as_both : EndsAsBoth
ends_as_both a b z = ends a b (product_of a b) (matching a b z) (product_merges a b z)
