use borrow.Author.Tests.{ne_eqb, lt-ltb, le-ltb}
use Rattle.monitor_loop.specs.Quiet.{quiet_after}
use Rattle.monitor_loop.proofs.quiet_after.Goals as goal

pub returns-then-held-eq0 : goal.returns-then-held-eq0
unfolding quiet_after
returns-then-held-eq0 c = rw c.if-held-eq0.true

pub returns-then-released-gt0 : goal.returns-then-released-gt0
unfolding quiet_after
returns-then-released-gt0 c = rw (ne_eqb _ 0 c.if-held-eq0.false, lt-ltb _ _ c.if-released-gt0.true)

pub returns-then-before-held : goal.returns-then-before-held
unfolding quiet_after
returns-then-before-held c = rw (ne_eqb _ 0 c.if-held-eq0.false, le-ltb _ _ c.if-released-gt0.false, lt-ltb _ _ c.if-before-held.true)

pub returns : goal.returns
unfolding quiet_after
returns c =
    rw (c.bit.ensures, ne_eqb _ 0 c.if-held-eq0.false, le-ltb _ _ c.if-released-gt0.false, le-ltb _ _ c.if-before-held.false)
