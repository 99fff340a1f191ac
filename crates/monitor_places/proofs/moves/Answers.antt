use borrow.Author.Tests.{ne_eqb}
use Rattle.monitor_places.proofs.moves.Goals as goal

pub returns-then-before-eq0 : goal.returns-then-before-eq0
returns-then-before-eq0 c = rw c.if-before-eq0.true

pub returns : goal.returns
returns c = rw (ne_eqb _ 0 c.if-before-eq0.false)
