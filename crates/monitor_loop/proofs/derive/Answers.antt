use Rattle.monitor_loop.proofs.derive.Goals as goal

-- src/lib.rt:42:1
pub returns : goal.returns
returns c = rw c.from.ensures
