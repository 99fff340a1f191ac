use Rattle.monitor_rule.specs.Fronts.{kept_in}
use Rattle.monitor_release.proofs.keep.Goals as goal

pub returns-then-qualifies : goal.returns-then-qualifies
unfolding kept_in
returns-then-qualifies c = (rw c.if-qualifies.true, rw c.if-qualifies.true)

pub returns : goal.returns
unfolding kept_in
returns c = (rw c.if-qualifies.false, rw c.if-qualifies.false)
