use borrow.Author.Tests.{eq-eqb, ne_eqb}
use Rattle.monitor.proofs.index_in_line.Goals as goal

pub returns-then-rank-eq0 : goal.returns-then-rank-eq0
returns-then-rank-eq0 c = rw (eq-eqb _ 0 c.if-rank-eq0.true)

pub returns : goal.returns
returns c = rw (ne_eqb _ 0 c.if-rank-eq0.false)
