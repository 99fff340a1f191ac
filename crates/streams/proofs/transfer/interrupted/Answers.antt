use Rattle.std.proofs.Common.{◌∙◌}
use Rattle.streams.proofs.Transfers.{interrupted_often, interrupted-again}
use Rattle.streams.proofs.transfer.interrupted.Goals as goal

pub returns-then-t-eq0 : goal.returns-then-t-eq0
returns-then-t-eq0 c = c.ended.ensures ∙ interrupted_often _ c.if-t-eq0.true

pub returns : goal.returns
returns c = interrupted-again _ c.if-t-eq0.false
