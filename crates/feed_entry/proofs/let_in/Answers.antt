use mathlib.Core.Path.{sym, ◌∙◌}
use Rattle.feed_entry.proofs.Entering.{in_list, in-event}
use Rattle.feed_entry.proofs.let_in.Goals as goal

pub returns-then-refuses_call : goal.returns-then-refuses_call
returns-then-refuses_call c = in_list _ _ _ (sym c.refuses_call.ensures ∙ c.if-refuses_call.true)

pub returns : goal.returns
returns c = in-event _ _ _ (sym c.refuses_call.ensures ∙ c.if-refuses_call.false)
