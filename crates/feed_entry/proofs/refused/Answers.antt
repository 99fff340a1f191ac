use Rattle.feed_entry.proofs.Entering.{away}
use Rattle.feed_entry.proofs.refused.Goals as goal

pub returns : goal.returns
returns c = away _ _ _ _ c.refused-answer.ensures
