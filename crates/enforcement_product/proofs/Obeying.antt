-- The monitor of a product obeys both its parts.
use Prim.Native.Nat.{ℕ, ◌<◌}
use mathlib.Core.Path.{◌≡◌, sym, ◌∙◌, ap, subst}
use mathlib.Core.List.{List, [], ◌∷◌, ◌++◌}
use Rattle.base.specs.All.{AllOf}
use Rattle.automaton.specs.declared.Automaton.{Automaton}
use Rattle.automaton.specs.Automaton.{reached}
use Rattle.automaton.proofs.Facts.{valid_facts}
use Rattle.product_rule.specs.Product.{product_of, product_refusal}
use Rattle.product_rule.specs.Claims.{Matching, Merges, Symbols}
use Rattle.product_rule.proofs.Rows.{matching}
use Rattle.product_rule.proofs.Merged.{product_merges}
use Rattle.product_rule.proofs.Runs.{leads_to_pair, ends_as_both}
use Rattle.enforcement.specs.Calls.{Call}
use Rattle.enforcement.specs.Moments.{Moment, position_after}
use Rattle.enforcement.specs.Claims.{output_after, Stays, OnceWinning}
use Rattle.enforcement.proofs.Moments.{output-leads, moments-all}
use Rattle.enforcement.proofs.Demand3.{demand3}
use Rattle.enforcement_product.specs.Claims.{merged_moments, Obeyed, ObeysBoth, PairAfter, StateIsPair}
use Rattle.enforcement_product.proofs.Emitted.{all_back, emitted_are_symbols}

-- two facts of each event give a third
both_give : (P Q R : Moment → Type 0) → ((m : Moment) → P m → Q m → R m) → (ms : List Moment) → AllOf P ms → AllOf Q ms → AllOf R ms
both_give P Q R g [] f h = tt
both_give P Q R g (m ∷ ms) f h = (g m f.0 h.0, both_give P Q R g ms f.1 h.1)

module _ (a b : Automaton) (z : product_refusal a b ≡ 0) (t : List ℕ) where
  abbrev c : Automaton
  c = product_of a b

  abbrev k : Matching a b
  k = matching a b z

  abbrev merges : Merges a b c
  merges = product_merges a b z

  -- all that was put out, up to and with an event, are symbols
  abbrev Clean : Moment → Type 0
  Clean m = Symbols a (output_after c t m)

  clean : (calls : List Call) → AllOf Clean (merged_moments a b t calls)
  clean calls =
      subst (λ n. AllOf (λ m. AllOf (λ e. e < n) (output_after c t m)) (merged_moments a b t calls)) merges.symbols.0
      (emitted_are_symbols c t calls)

  -- where the product ends in an accepting state, so do both parts
  obeyed : (ms : List Moment) → AllOf Clean ms → Stays c t ms → Obeyed a b t ms
  obeyed = both_give Clean _ _ (λ m s h. (ends_as_both a b z (output_after c t m) s).0 h.1)

  -- from an event of the calls on
  clean_from : (calls : List Call) (before : List Moment) (m : Moment) (after : List Moment) → merged_moments a b t calls ≡ before ++ m ∷ after
      → AllOf Clean (m ∷ after)
  clean_from calls before m after e = all_back Clean before (m ∷ after) (subst (AllOf Clean) e (clean calls))

  -- where symbols lead from the start
  pair-led : (es : List ℕ) → Symbols a es → PairAfter a b es (reached c c.initial es)
  pair-led es s =
      ap (λ r. reached c r es) merges.initial ∙
      leads_to_pair a b z es s a.initial b.initial (valid_facts a k.first-valid).initial-below (valid_facts b k.second-valid).initial-below

  led : (m : Moment) → Clean m → reached c c.initial (output_after c t m) ≡ (position_after c t m).state
      → PairAfter a b (output_after c t m) (position_after c t m).state
  led m s h = sym h ∙ pair-led (output_after c t m) s

  -- the state is where the output leads
  all_lead : (calls : List Call)
      → AllOf (λ m. reached c c.initial (output_after c t m) ≡ (position_after c t m).state) (merged_moments a b t calls)
  all_lead calls = moments-all c t merges.passes _ (output-leads c t) calls

pub obeys_both : ObeysBoth
obeys_both a b z t s calls =
    let won : OnceWinning (product_of a b) t calls = (demand3 (product_of a b) t (product_merges a b z).passes s calls).once-winning in
    record {
      initially = λ h. obeyed a b z t (merged_moments a b t calls) (clean a b z t calls) (won.initially h);
      later = λ before m after e h. obeyed a b z t (m ∷ after) (clean_from a b z t calls before m after e) (won.later before m after e h);
      opened = λ before m after e h. obeyed a b z t (m ∷ after) (clean_from a b z t calls before m after e) (won.opened before m after e h);
    }

pub state-is-pair : StateIsPair
state-is-pair a b z t calls = both_give _ _ _ (led a b z t) (merged_moments a b t calls) (clean a b z t calls) (all_lead a b z t calls)
