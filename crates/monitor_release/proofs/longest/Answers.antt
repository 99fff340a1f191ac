use Prim.Native.Nat.{◌+◌, ◌-◌}
use mathlib.Core.Path.{◌≡◌, ◌∙◌, sym}
use native.Mathlib.Omega.{arith}
use Rattle.base.specs.Each.{last_or}
use Rattle.base.proofs.Picking.{last-first}
use Rattle.monitor_release.proofs.longest.Goals as goal

pub returns-then-count-eq0 : goal.returns-then-count-eq0
unfolding last_or
returns-then-count-eq0 c = rw c.if-count-eq0.true

pub returns : goal.returns
returns c =
    let n : c.args.count - 1 + 1 ≡ c.args.count = omega arith in
    c.from.ensures ∙ rw n at (sym (last-first 0 c.args.lengths.now (c.args.count - 1) (omega (arith, c.requires))))
