use mathlib.Core.Path.{◌≡◌, refl, ◌∙◌, sym}
use Rattle.base.specs.Each.{each}
use Rattle.automaton.proofs.Checks.{states_fall, states_keep}
use Rattle.automaton.specs.Arrays.{states_below}
use native.Mathlib.Omega.{arith}
use Rattle.automaton_check.proofs.states_below.Goals as goal
use Rattle.automaton_check.proofs.states_below.Goals.{else-not-state_below, then-not-state_below}

pub loop-q-init : goal.loop-q-init
unfolding states_below each
loop-q-init c = refl

pub loop-q-preserved : goal.loop-q-preserved
loop-q-preserved c =
    let g = c.loop-q.invariant in
    (elim c.if-not-state_below.branch [ then-not-state_below w ↦ w.fine-is ∙ states_fall _ _ _ _ g (sym c.state_below.ensures ∙ w.if-not-state_below.true) | else-not-state_below w ↦ w.fine-is ∙ states_keep _ _ _ _ g (sym c.state_below.ensures ∙ w.if-not-state_below.false) ])

pub returns : goal.returns
returns c = let e : c.loop-q.q ≡ c.args.count = omega arith in rw e at c.loop-q.invariant
