use borrow.Author.Tests.{eq-eqb, ne_eqb}
use Rattle.monitor_loop.proofs.refuses.Goals as goal

pub returns-then-row-eq0 : goal.returns-then-row-eq0
returns-then-row-eq0 c = rw (eq-eqb c.args.row 0 c.if-row-eq0.true)

pub returns : goal.returns
returns c = rw (ne_eqb c.args.row 0 c.if-row-eq0.false)
