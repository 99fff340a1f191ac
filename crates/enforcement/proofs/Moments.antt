-- The accepted events of a list of calls, one by one.
use Prim.Native.Nat.{ℕ}
use mathlib.Core.Path.{◌≡◌, refl, ◌∙◌, ap}
use mathlib.Core.Bool.{true}
use mathlib.Core.List.{List, [], ◌∷◌, ◌++◌}
use lib.Dec.{eqb}
use borrow.Author.Tests.{eqb-true}
use Rattle.base.specs.All.{AllOf}
use Rattle.base.specs.Pad.{pad}
use Rattle.base.proofs.Bools.{by}
use Rattle.automaton.specs.declared.Automaton.{Automaton}
use Rattle.automaton.specs.Automaton.{reached, valid}
use Rattle.automaton.proofs.Reached.{reached-append}
use Rattle.solver_sets.proofs.Total.{Total, total}
use Rattle.configuration.specs.Configuration.{Position, empty_at, held_events, place_numbers, initial_of}
use Rattle.monitor_rule.specs.Step.{by_table, event_refusal}
use Rattle.monitor_rule.proofs.Effects.{OccursAt, initial_occurs, effect-leads, advance_occurs}
use Rattle.enforcement.specs.Calls.{Call}
use Rattle.enforcement.specs.Moments.{Moment, effect_at, position_after, within, moments}
use Rattle.enforcement.specs.Claims.{output_after}

-- a fact of each of them with those after it
abbrev pub Suffixes : (Moment → List Moment → Type 0) → List Moment → Type 0
Suffixes Q [] = Unit {0}
Suffixes Q (m ∷ ms) = Q m ms × Suffixes Q ms

pub suffix_at : (Q : Moment → List Moment → Type 0) (before : List Moment) (m : Moment) (after : List Moment) → Suffixes Q (before ++ m ∷ after) → Q m after
suffix_at Q [] m after h = h.0
suffix_at Q (b ∷ before) m after h = suffix_at Q before m after h.1

pub all_of : (P : Moment → Type 0) (ms : List Moment) → Suffixes (λ m _. P m) ms → AllOf P ms
all_of P [] h = tt
all_of P (m ∷ ms) h = (h.0, all_of P ms h.1)

module _ (a : Automaton) (t : List ℕ) where
  -- what holds of an accepted event
  pub record Met (m : Moment) : Type 0 where
    pub occurs : OccursAt a m.position
    pub leads : reached a a.initial m.output ≡ m.position.state
    pub accepted : event_refusal (by_table a t) a m.position m.event ≡ 0

  -- those that come after it
  abbrev pub following : Moment → List ℕ → List Moment
  following m es = within a t (m.past ++ m.event ∷ []) (output_after a t m) (position_after a t m) es

  -- where the output leads then
  pub output-leads : (m : Moment) → Met m → reached a a.initial (output_after a t m) ≡ (position_after a t m).state
  unfolding output_after effect_at
  output-leads m k =
      reached-append a a.initial m.output (effect_at a t m).emitted ∙
      ap (λ q. reached a q (effect_at a t m).emitted) k.leads ∙
      effect-leads (by_table a t) a m.position.state m.position.buffer m.event

  pub position-met : Total a → (m : Moment) → Met m → OccursAt a (position_after a t m)
  position-met total m k = advance_occurs (by_table a t) a m.position m.event total k.occurs k.accepted

  -- what is kept by each accepted event gives a fact of each
  module _ (total : Total a) (I : Position → Type 0) (Q : Moment → List Moment → Type 0)
      (keep : (m : Moment) → Met m → I m.position → I (position_after a t m))
      (fact : (m : Moment) (es : List ℕ) → Met m → I m.position → Q m (following m es)) where
    pub within-each : (es past out : List ℕ) (p : Position) → OccursAt a p → reached a a.initial out ≡ p.state → I p
        → Suffixes Q (within a t past out p es)
    unfolding within output_after
    within-each [] past out p o l i = tt
    within-each (e ∷ es) past out p o l i =
        by (eqb (event_refusal (by_table a t) a p e) 0)
        (λ h.
        let m : Moment = record { past = past; output = out; position = p; event = e } in
        let k : Met m = record { occurs = o; leads = l; accepted = eqb-true (event_refusal (by_table a t) a p e) 0 h } in
        rw h (
          fact m es k i,
          within-each es (past ++ e ∷ []) (out ++ (effect_at a t m).emitted) (position_after a t m) (position-met total m k) (output-leads m k) (keep m k i),
        ))
        (λ h. rw h (within-each es past out p o l i))

    pub moments-each : (calls : List Call) → OccursAt a (empty_at a.initial) → I (empty_at a.initial) → Suffixes Q (moments a t (initial_of a) calls)
    unfolding moments initial_of held_events place_numbers pad reached
    moments-each calls o i = within-each _ [] [] (empty_at a.initial) o refl i

pub moments-all : (a : Automaton) (t : List ℕ) → valid a ≡ true → (P : Moment → Type 0) → ((m : Moment) → Met a t m → P m) → (calls : List Call)
    → AllOf P (moments a t (initial_of a) calls)
moments-all a t v P h calls =
    all_of P (moments a t (initial_of a) calls)
    (moments-each a t (total a v) (λ _. Unit {0}) (λ m _. P m) (λ m k i. tt) (λ m es k i. h m k) calls (initial_occurs a v) tt)
