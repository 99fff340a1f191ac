use Rattle.solver_sets.proofs.Rounds.{refine-none, refine_smaller, refine-more, refine-done}
use Rattle.solver_rounds.specs.Rounds.{settled_on}
use Rattle.solver_rounds.proofs.Scanning.{left_le, left_lt}
use native.Mathlib.Omega.{arith}
use Rattle.solver_rounds.proofs.settle.Goals as goal

pub loop-set-init : goal.loop-set-init
loop-set-init c = (c.requires.1, refine-none _ _)

pub refine-left-requires : goal.refine-left-requires
refine-left-requires c = (c.requires.0, c.loop-set.invariant.0)

pub overflow_add-rounds : goal.overflow_add-rounds
overflow_add-rounds c = omega (arith, c.loop-set.invariant.1.few, refine_smaller _ (left_le _ _ _ _ _) _ _ _ _ c.loop-set.invariant.1 c.refine-left.ensures c.if-left-set.false)

pub loop-set-smaller : goal.loop-set-smaller
loop-set-smaller c = refine_smaller _ (left_le _ _ _ _ _) _ _ _ _ c.loop-set.invariant.1 c.refine-left.ensures c.if-left-set.false

pub loop-set-preserved : goal.loop-set-preserved
loop-set-preserved c = (rw c.refine-left.ensures (left_lt _ _ _ _ _ _), refine-more _ (left_le _ _ _ _ _) _ _ _ _ c.loop-set.invariant.1 c.refine-left.ensures c.if-left-set.false)

pub returns : goal.returns
unfolding settled_on
returns c = refine-done _ (left_le _ _ _ _ _) _ _ _ _ c.loop-set.invariant.1 c.refine-left.ensures c.if-left-set.true
