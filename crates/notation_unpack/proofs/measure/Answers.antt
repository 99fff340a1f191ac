use Rattle.notation_unpack.specs.Unpacking.{refused}
use Rattle.notation_unpack.proofs.Lines.{measuring_begins, measuring_short, measuring_done, measuring_refused, measuring_fits, measuring_lacks}
use Rattle.notation_unpack.proofs.Decoding.{number-after, number-inside}
use Rattle.refusal.proofs.Passing.{passed_on}
use Rattle.refusal.proofs.Numbers.{number_never_0}
use Rattle.std.proofs.Common.{◌+◌, ◌∙◌, refl, ap, arith}
use Rattle.notation_unpack.proofs.measure.Goals as goal

pub loop-at-init : goal.loop-at-init
loop-at-init c = measuring_begins _ _

pub returns-in_err-n : goal.returns-in_err-n
returns-in_err-n c =
    passed_on _ refused _ _ c.from_residual.ensures.1 ∙
    measuring_refused c.loop-at.invariant c.loop-at-test.true _ c.in_err-n.ensures (number_never_0 _)

pub overflow_add-size : goal.overflow_add-size
overflow_add-size c = omega (arith, c.digits-size.ensures.1)

pub loop-at-smaller-then-left-size : goal.loop-at-smaller-then-left-size
loop-at-smaller-then-left-size c =
    let e = c.in_ok-n.ensures in
    omega (arith, number-after _ _ _ e refl, number-inside _ _ _ e refl, c.loop-at-test.true)

pub loop-at-preserved-then-left-size : goal.loop-at-preserved-then-left-size
loop-at-preserved-then-left-size c =
    measuring_lacks c.loop-at.invariant c.loop-at-test.true _ c.in_ok-n.ensures refl _ (ap (◌+ 1) c.digits-size.ensures.0)
    c.if-left-size.true

pub loop-at-smaller : goal.loop-at-smaller
loop-at-smaller c =
    let e = c.in_ok-n.ensures in
    omega (arith, number-after _ _ _ e refl, number-inside _ _ _ e refl, c.loop-at-test.true)

pub loop-at-preserved : goal.loop-at-preserved
loop-at-preserved c =
    measuring_fits c.loop-at.invariant c.loop-at-test.true _ c.in_ok-n.ensures refl _ (ap (◌+ 1) c.digits-size.ensures.0)
    c.if-left-size.false

pub returns-then-short : goal.returns-then-short
returns-then-short c = measuring_short c.loop-at.invariant c.loop-at-test.false c.if-short.true

pub returns : goal.returns
returns c = measuring_done c.loop-at.invariant c.loop-at-test.false c.if-short.false
