use mathlib.Core.Path.{◌≡◌}
use lib.ListN.{length}
use Rattle.base.specs.Pad.{pad}
use Rattle.product_rule.specs.Pairs.{pair_states}
use Rattle.product.proofs.pair_states.Given as goal

abbrev pub invariant-loop-r : goal.invariant-loop-r
invariant-loop-r l =
    (length l.next ≡ 512) × (l.next ≡ pad 512 (pair_states l.first l.second l.n l.m l.r))
