use Rattle.std.proofs.Common.{◌≡◌, Bool, true, false, cond, refl, ◌∙◌, ap, arith}
use borrow.Author.Tests.{eq-eqb, ne_eqb}
use native.Mathlib.Nat.{div-le_self, mod-le}
use Rattle.std.specs.Int.{from_bool}
use Rattle.base.specs.Pad.{pad}
use Rattle.base.specs.Tabulate.{tabulate}
use Rattle.product_rule.specs.Pairs.{pair_flags}
use Rattle.product_rule.proofs.Filling.{flags_more}
use Rattle.product.proofs.pair_flags.Goals as goal
use Rattle.product.proofs.pair_flags.Goals.{then-first-r-eq1, else-first-r-eq1}

as_number : (b : Bool) → from_bool b ≡ cond b 1 0
as_number true = refl
as_number false = refl

pub loop-r-init : goal.loop-r-init
unfolding pad pair_flags tabulate
loop-r-init c = refl

pub bounds-first-r : goal.bounds-first-r
bounds-first-r c = omega (arith, div-le_self c.loop-r.r c.args.n)

pub bounds-second-r : goal.bounds-second-r
bounds-second-r c = omega (arith, mod-le c.loop-r.r c.args.n)

pub loop-r-preserved : goal.loop-r-preserved
loop-r-preserved c =
    flags_more _ _ _ _ _ c.loop-r.invariant (omega arith) _
    (c.from.ensures ∙ as_number c.if-first-r-eq1.from ∙
    ap (λ b. cond b 1 0)
    (elim c.if-first-r-eq1.branch [
      | then-first-r-eq1 w ↦ rw (eq-eqb _ _ w.if-first-r-eq1.true) w.from-is
      | else-first-r-eq1 w ↦ rw (ne_eqb _ _ w.if-first-r-eq1.false) (w.from-is ∙ ne_eqb _ _ w.if-first-r-eq1.false)
    ]))

pub returns : goal.returns
returns c = let e : c.loop-r.r ≡ c.args.pairs = omega arith in rw e at c.loop-r.invariant
