use mathlib.Core.Path.{◌≡◌}
use Rattle.base.specs.Pad.{pad}
use Rattle.product_rule.specs.Pairs.{pair_flags}
use Rattle.product.proofs.pair_flags.Given as goal

abbrev pub invariant-loop-r : goal.invariant-loop-r
invariant-loop-r l = (l.flags ≡ pad 32 (pair_flags l.first l.second l.n l.r))
