use Rattle.std.proofs.Common.{◌∙◌}
use Rattle.feed_entry.proofs.Entering.{away_list, away_record}
use Rattle.feed_entry.proofs.not_let_in.Goals as goal

pub returns-then-entry-ne0 : goal.returns-then-entry-ne0
returns-then-entry-ne0 c = c.refused.ensures ∙ away_list _ _ _ _ c.enter_list-entry.ensures _ c.if-entry-ne0.true

pub returns : goal.returns
returns c = c.refused-2.ensures ∙ away_record _ _ _ _ c.enter_list-entry.ensures _ c.if-entry-ne0.false
