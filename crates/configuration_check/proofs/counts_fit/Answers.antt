use Prim.Native.Nat.{◌+◌}
use mathlib.Core.Path.{sym}
use native.Mathlib.Omega.{arith}
use borrow.Author.Tests.{ne_eqb}
use Rattle.configuration_check.proofs.Laws.{less_held}
use Rattle.configuration_check.proofs.counts_fit.Goals as goal

pub returns-then-received-held : goal.returns-then-received-held
returns-then-received-held c =
    let a = c.args in
    sym (ne_eqb (a.emitted.0 + a.held) a.received.0 (λ y. omega arith))

pub returns : goal.returns
returns c =
    let a = c.args in
    less_held a.emitted.0 a.held a.received.0 (omega arith)
