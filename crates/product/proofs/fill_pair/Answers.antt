use mathlib.Core.Path.{◌≡◌, refl}
use lib.ListN.{length-set}
use Rattle.base.specs.Tabulate.{tabulate}
use Rattle.product_rule.specs.Pairs.{pair_next}
use Rattle.product_rule.proofs.Filling.{next_more}
use native.Mathlib.Omega.{arith}
use Rattle.product.proofs.fill_pair.Goals as goal

pub loop-e-init : goal.loop-e-init
unfolding pair_next tabulate
loop-e-init c = (refl, refl)

pub overflow_mul-next-in-loop-e : goal.overflow_mul-next-in-loop-e
overflow_mul-next-in-loop-e c =
    let small = c.requires.next_fits c.loop-e.e (omega arith) in
    omega (arith, small)

pub overflow_add-next-in-loop-e-2 : goal.overflow_add-next-in-loop-e-2
overflow_add-next-in-loop-e-2 c =
    let small = c.requires.next_fits c.loop-e.e (omega arith) in
    omega (arith, small)

pub loop-e-preserved : goal.loop-e-preserved
loop-e-preserved c =
    let g = c.loop-e.invariant in
    (simp length-set g.0, next_more _ _ _ _ _ _ _ _ _ g.1 _ refl)

pub returns : goal.returns
returns c = let e : c.loop-e.e ≡ c.args.m = omega arith in rw e at c.loop-e.invariant.1
