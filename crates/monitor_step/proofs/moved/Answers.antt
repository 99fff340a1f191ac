use Rattle.monitor_step.proofs.moved.Goals as goal

pub returns-then-passes : goal.returns-then-passes
returns-then-passes c = rw c.if-passes.true c.from.ensures
