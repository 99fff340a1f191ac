use mathlib.Core.Path.{◌≡◌, refl, ◌∙◌}
use Rattle.base.specs.Each as each
use Rattle.base.specs.Pad.{pad}
use Rattle.automaton.proofs.Checks.{counted, passed}
use Rattle.automaton.specs.Arrays.{controllable_in}
use Rattle.automaton_symbols.specs.Symbols.{ranks_to, ranking_of}
use Rattle.automaton_symbols.proofs.Ranks.{rank-set, rank-none}
use native.Mathlib.Omega.{arith}
use Rattle.automaton_symbols.proofs.rank_symbols.Goals as goal
use Rattle.automaton_symbols.proofs.rank_symbols.Goals.{then-classes-e-eq1, else-classes-e-eq1}

pub loop-e-init : goal.loop-e-init
unfolding controllable_in each.count ranks_to pad
loop-e-init c = (omega arith, refl, refl)

pub loop-e-preserved : goal.loop-e-preserved
loop-e-preserved c =
    let v = c.loop-e.invariant in
    elim c.if-classes-e-eq1.branch [
      | then-classes-e-eq1 w ↦ (
        omega arith,
        w.count-is ∙ counted _ _ _ v.1 w.if-classes-e-eq1.true,
        w.ranks-is ∙ rank-set _ _ _ (omega arith) v.2 _ w.if-classes-e-eq1.true (counted _ _ _ v.1 w.if-classes-e-eq1.true),
      )
      | else-classes-e-eq1 w ↦ (
        omega arith,
        w.count-is ∙ passed _ _ _ v.1 w.if-classes-e-eq1.false,
        w.ranks-is ∙ rank-none _ _ _ (omega arith) v.2 w.if-classes-e-eq1.false,
      )
    ]

pub returns : goal.returns
unfolding ranking_of
returns c =
    let e : c.loop-e.e ≡ c.args.m = omega arith in
    rw (c.from.ensures, c.loop-e.invariant.1, c.loop-e.invariant.2, e)
