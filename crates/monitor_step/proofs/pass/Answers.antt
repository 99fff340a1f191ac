use native.Mathlib.Omega.{arith}
use Rattle.monitor_step.proofs.pass.Goals as goal

pub returns-then-passes : goal.returns-then-passes
returns-then-passes c = (rw c.if-passes.true, rw c.if-passes.true)

pub returns : goal.returns
returns c = (rw c.if-passes.false (omega arith), rw c.if-passes.false)
