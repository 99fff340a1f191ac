use mathlib.Core.Path.{◌≡◌}
use lib.ListN.{length}
use lib.Seq.{sets}
use Rattle.product_rule.specs.Pairs.{pair_next}
use Rattle.product.proofs.fill_pair.Given as goal

abbrev pub invariant-loop-e : goal.invariant-loop-e
invariant-loop-e l =
    (length l.next ≡ length l.initial.next) × (l.next ≡ sets l.initial.next l.at (pair_next l.first l.second l.n l.e l.p l.q))
