-- All that is put out are symbols.
use Prim.Native.Nat.{ℕ, ◌<◌}
use mathlib.Core.Path.{sym, subst}
use mathlib.Core.List.{List, [], ◌∷◌, ◌++◌}
use lib.Dec.{eqb}
use borrow.Author.Tests.{eqb-true}
use Rattle.base.specs.All.{AllOf}
use Rattle.base.specs.Pad.{pad}
use Rattle.base.proofs.Bools.{by}
use Rattle.automaton.specs.declared.Automaton.{Automaton}
use Rattle.automaton.specs.Automaton.{controllable}
use Rattle.product_rule.specs.Claims.{Symbols}
use Rattle.configuration.specs.Configuration.{Position, held_events, initial_of}
use Rattle.monitor_rule.specs.Step.{Rest, by_table, effect, event_refusal}
use Rattle.monitor_rule.proofs.Effects.{accepted_facts, effect-passes, effect-holds}
use Rattle.enforcement.specs.Moments.{effect_at, within, moments}
use Rattle.enforcement.specs.Claims.{output_after}
use Rattle.enforcement_product.specs.Claims.{EmittedAreSymbols}

module _ {A : Type 0} (P : A → Type 0) where
  -- a fact of each of two lists, end to end
  all_append : (xs ys : List A) → AllOf P xs → AllOf P ys → AllOf P (xs ++ ys)
  all_append [] ys f g = g
  all_append (x ∷ xs) ys f g = (f.0, all_append xs ys f.1 g)

  all-front : (xs ys : List A) → AllOf P (xs ++ ys) → AllOf P xs
  all-front [] ys f = tt
  all-front (x ∷ xs) ys f = (f.0, all-front xs ys f.1)

  pub all_back : (xs ys : List A) → AllOf P (xs ++ ys) → AllOf P ys
  all_back [] ys f = f
  all_back (x ∷ xs) ys f = all_back xs ys f.1

-- what an event puts out and what is held after it are the event and what was held
effect-symbols : (rest : Rest) (a : Automaton) (q : ℕ) (w : List ℕ) (e : ℕ) → e < a.symbols → Symbols a w
    → let f = effect rest a q w e in Symbols a (f.emitted ++ f.buffer)
effect-symbols rest a q w e l s =
    by (controllable a e)
    (λ c. subst (Symbols a) (sym (effect-holds rest a q w e c)) (all_append (λ d. d < a.symbols) w (e ∷ []) s (l, tt)))
    (λ c. subst (Symbols a) (sym (effect-passes rest a q w e c)) (l, s))

-- where all put out and all held are symbols, so it is after each accepted event
module _ (a : Automaton) (t : List ℕ) where
  within-symbols : (es past out : List ℕ) (p : Position) → Symbols a out → Symbols a p.buffer
      → AllOf (λ m. Symbols a (output_after a t m)) (within a t past out p es)
  unfolding within output_after effect_at
  within-symbols [] past out p o s = tt
  within-symbols (e ∷ es) past out p o s =
      by (eqb (event_refusal (by_table a t) a p e) 0)
      (λ h.
      let accepted = accepted_facts (by_table a t) a p e (eqb-true (event_refusal (by_table a t) a p e) 0 h) in
      let g = effect (by_table a t) a p.state p.buffer e in
      let all = effect-symbols (by_table a t) a p.state p.buffer e accepted.symbol s in
      let put = all_append (λ d. d < a.symbols) out g.emitted o (all-front (λ d. d < a.symbols) g.emitted g.buffer all) in
      let held = all_back (λ d. d < a.symbols) g.emitted g.buffer all in
      rw h (put, within-symbols es _ _ _ put held))
      (λ h. rw h (within-symbols es past out p o s))

pub emitted_are_symbols : EmittedAreSymbols
unfolding moments initial_of held_events pad
emitted_are_symbols a t calls = within-symbols a t _ [] [] _ tt tt
