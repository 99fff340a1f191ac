use mathlib.Core.Path.{◌≡◌, refl, ◌∙◌}
use Rattle.base.specs.Each.{each}
use Rattle.automaton.proofs.Checks.{state_below_to, state_falls, state_keeps}
use Rattle.automaton.specs.Arrays.{state_below}
use native.Mathlib.Omega.{arith}
use Rattle.automaton_check.proofs.state_below.Goals as goal
use Rattle.automaton_check.proofs.state_below.Goals.{else-limits-e, then-limits-e}

pub loop-e-init : goal.loop-e-init
unfolding state_below_to each
loop-e-init c = refl

pub loop-e-preserved : goal.loop-e-preserved
loop-e-preserved c = (elim c.if-limits-e.branch [ then-limits-e w ↦ w.fine-is ∙ state_falls _ _ _ _ _ c.loop-e.invariant w.if-limits-e.true | else-limits-e w ↦ w.fine-is ∙ state_keeps _ _ _ _ _ c.loop-e.invariant w.if-limits-e.false ])

pub returns : goal.returns
unfolding state_below state_below_to
returns c = let e : c.loop-e.e ≡ 16 = omega arith in rw e at c.loop-e.invariant
