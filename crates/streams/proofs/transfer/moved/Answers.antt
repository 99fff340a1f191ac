use Rattle.std.proofs.Common.{◌∙◌}
use Rattle.streams.proofs.Transfers.{moved_none, moved-some}
use Rattle.streams.proofs.transfer.moved.Goals as goal

pub returns-then-bytes-eq0 : goal.returns-then-bytes-eq0
returns-then-bytes-eq0 c = c.ended.ensures ∙ moved_none _ _ c.if-bytes-eq0.true

pub returns : goal.returns
returns c = moved-some _ _ c.if-bytes-eq0.false
