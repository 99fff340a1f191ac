use Rattle.game.proofs.Small.{large-states, controllable-few, large-symbols, large-held}
use native.Mathlib.Omega.{arith}
use Rattle.game_judge.proofs.limits.too_large.Goals as goal

pub returns-then-states-gt4 : goal.returns-then-states-gt4
returns-then-states-gt4 c = large-states _ _ _ _ (omega arith)

pub overflow_sub-m : goal.overflow_sub-m
overflow_sub-m c = controllable-few c.args.states _ _ c.args.held _ _ c.from-m.ensures c.controllable_in.ensures

pub returns-then-m-controllable_in-gt2 : goal.returns-then-m-controllable_in-gt2
returns-then-m-controllable_in-gt2 c = large-symbols _ _ _ _ _ _ c.from-m.ensures c.controllable_in.ensures (omega arith) (omega arith)

pub returns : goal.returns
returns c = large-held _ _ _ _ _ _ c.from-m.ensures c.controllable_in.ensures (omega arith) (omega arith)
