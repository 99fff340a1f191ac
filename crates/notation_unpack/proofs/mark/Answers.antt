use Rattle.notation_unpack.specs.Measures.{mark_at}
use borrow.Author.Tests.{lt-ltb, le-ltb}
use Rattle.notation_unpack.proofs.mark.Goals as goal

pub returns-then-at-end : goal.returns-then-at-end
unfolding mark_at
returns-then-at-end c = rw (lt-ltb _ _ c.if-at-end.true)

pub returns-else-at-end : goal.returns-else-at-end
unfolding mark_at
returns-else-at-end c = rw (le-ltb _ _ c.if-at-end.false)
