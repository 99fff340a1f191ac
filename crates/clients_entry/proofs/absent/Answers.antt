use mathlib.Core.Path.{◌∙◌}
use Rattle.clients_entry.proofs.Entering.{absent-last, absent-first}
use Rattle.clients_entry.proofs.absent.Goals as goal

pub returns-then-entry-eq0 : goal.returns-then-entry-eq0
returns-then-entry-eq0 c = c.refused.ensures ∙ absent-last _ _ _ _ c.enter_list-entry.ensures c.if-entry-eq0.true

pub returns : goal.returns
returns c = c.refused-2.ensures ∙ absent-first _ _ _ _ c.enter_list-entry.ensures c.if-entry-eq0.false
