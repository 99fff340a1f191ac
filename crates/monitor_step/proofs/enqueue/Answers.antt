use native.Mathlib.Omega.{arith}
use Rattle.monitor_step.proofs.enqueue.Goals as goal

pub returns-then-passes : goal.returns-then-passes
returns-then-passes c = (rw c.if-passes.true (omega arith), rw c.if-passes.true)

pub bounds-buffer-held : goal.bounds-buffer-held
bounds-buffer-held c = c.requires c.if-passes.false

pub overflow_add-result : goal.overflow_add-result
overflow_add-result c = omega (arith, c.requires c.if-passes.false)

pub returns : goal.returns
returns c = (rw c.if-passes.false, rw c.if-passes.false)
