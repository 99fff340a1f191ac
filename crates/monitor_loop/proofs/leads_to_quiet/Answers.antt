use mathlib.Core.Path.{◌∙◌}
use borrow.Author.Tests.{ne_eqb}
use Rattle.monitor_loop.proofs.leads_to_quiet.Goals as goal

pub returns-then-ranks-event-ne0 : goal.returns-then-ranks-event-ne0
returns-then-ranks-event-ne0 c = rw (ne_eqb _ 0 c.if-ranks-event-ne0.true)

pub has-requires : goal.has-requires
has-requires c = rw c.from.ensures (c.requires.2 _)

pub returns : goal.returns
returns c = c.has.ensures ∙ rw (c.from.ensures, c.if-ranks-event-ne0.false)
