-- What each accepted event has before it.
use Prim.Native.Nat.{ℕ}
use mathlib.Core.Path.{◌≡◌, refl, sym, ◌∙◌}
use mathlib.Core.List.{List, [], ◌∷◌, ◌++◌, map, append_assoc, append-nil}
use lib.Dec.{eqb}
use Rattle.base.proofs.Bools.{by}
use Rattle.automaton.specs.declared.Automaton.{Automaton}
use Rattle.configuration.specs.Configuration.{Position}
use Rattle.monitor_rule.specs.Step.{by_table, event_refusal}
use Rattle.enforcement.specs.Moments.{Moment, effect_at, emitted_at, within}

module _ (a : Automaton) (t : List ℕ) where
  -- the past and the output of each, from some past and output on
  abbrev Traced : List ℕ → List ℕ → List Moment → Type 0
  Traced past output [] = Unit {0}
  Traced past output (m ∷ ms) =
      (m.past ≡ past) × (m.output ≡ output) × Traced (past ++ m.event ∷ []) (output ++ (effect_at a t m).emitted) ms

  pub within-traced : (es past output : List ℕ) (p : Position) → Traced past output (within a t past output p es)
  unfolding within
  within-traced [] past output p = tt
  within-traced (e ∷ es) past output p =
      by (eqb (event_refusal (by_table a t) a p e) 0)
      (λ h. rw h (refl, refl, within-traced es _ _ _))
      (λ h. rw h (within-traced es past output p))

  pub traced-at : (before : List Moment) (m : Moment) (after : List Moment) (past output : List ℕ) → Traced past output (before ++ m ∷ after)
      → (m.past ≡ past ++ map (λ (x : Moment). x.event) before) × (m.output ≡ output ++ emitted_at a t before)
  unfolding emitted_at
  traced-at [] m after past output h = (h.0 ∙ sym (append-nil past), h.1 ∙ sym (append-nil output))
  traced-at (b ∷ before) m after past output h =
      let k = traced-at before m after (past ++ b.event ∷ []) (output ++ (effect_at a t b).emitted) h.2 in (
        k.0 ∙ append_assoc past (b.event ∷ []) (map (λ (x : Moment). x.event) before),
        k.1 ∙ append_assoc output (effect_at a t b).emitted (emitted_at a t before),
      )
