use mathlib.Core.Path.{◌≡◌, refl, sym, ◌∙◌}
use native.Mathlib.Nat.{div-le_self, mod-le}
use Rattle.base.specs.Pad.{pad}
use Rattle.base.specs.Tabulate.{blocks}
use Rattle.product_rule.specs.Pairs.{pair_states}
use Rattle.product_rule.proofs.Filling.{states-more}
use native.Mathlib.Omega.{arith}
use Rattle.product.proofs.pair_states.Goals as goal

pub loop-r-init : goal.loop-r-init
unfolding pad pair_states blocks
loop-r-init c = (refl, refl)

pub slice_bounds-fill_pair-end : goal.slice_bounds-fill_pair-end
slice_bounds-fill_pair-end c = sym c.loop-r.invariant.0

pub fill_pair-requires : goal.fill_pair-requires
fill_pair-requires c =
    let u = c.from-count in
    let r = c.loop-r.r in
    record { p_bound = (omega (arith, div-le_self r u.result), omega (arith, mod-le r u.result), omega arith, omega (arith, c.loop-r.invariant.0)); next_fits = rw u.ensures (c.requires.states_fit r (omega arith)) }

pub loop-r-preserved : goal.loop-r-preserved
loop-r-preserved c =
    let f = c.fill_pair in
    let g = c.loop-r.invariant in
    let e = rw c.from-count.ensures at f.ensures in
    (f.auto.next ∙ g.0, e ∙ states-more _ _ _ _ _ _ (omega arith) g.1 (omega arith))

pub returns : goal.returns
returns c = let e : c.loop-r.r ≡ c.args.pairs = omega arith in rw e at c.loop-r.invariant.1
