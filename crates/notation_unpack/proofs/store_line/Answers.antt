use Rattle.notation_unpack.proofs.Lines.{storing_begins, storing_length, storing_ended, storing_number, storing_room, storing_inside, storing_goes_on}
use Rattle.notation_unpack.proofs.Decoding.{number-after, number-inside}
use Rattle.refusal.proofs.Numbers.{number_never_0}
use Rattle.std.proofs.Common.{refl, arith}
use Rattle.notation_unpack.proofs.store_line.Goals as goal

pub loop-at-init : goal.loop-at-init
loop-at-init c = storing_begins c.requires

pub returns-in_default : goal.returns-in_default
returns-in_default c = absurd (number_never_0 _ (storing_number c.loop-at.invariant c.loop-at-test.true _ c.in_default.ensures))

pub number-next-requires : goal.number-next-requires
number-next-requires c = omega (arith, storing_room c.loop-at.invariant c.loop-at-test.true _ c.in-Ok.ensures)

pub bounds-out-next : goal.bounds-out-next
bounds-out-next c = storing_inside c.loop-at.invariant c.loop-at-test.true _ c.in-Ok.ensures c.number-next.ensures

pub overflow_add-place : goal.overflow_add-place
overflow_add-place c =
    omega (
      arith,
      storing_inside c.loop-at.invariant c.loop-at-test.true _ c.in-Ok.ensures c.number-next.ensures,
      c.number-next.auto.out,
      storing_length c.loop-at.invariant,
    )

pub loop-at-smaller : goal.loop-at-smaller
loop-at-smaller c =
    let e = c.in-Ok.ensures in
    omega (arith, number-after _ _ _ e refl, number-inside _ _ _ e refl, c.loop-at-test.true)

pub loop-at-preserved : goal.loop-at-preserved
loop-at-preserved c =
    storing_goes_on c.loop-at.invariant c.loop-at-test.true _ c.in-Ok.ensures c.number-next.ensures _ c.mark.ensures

pub returns-after-loop-at : goal.returns-after-loop-at
returns-after-loop-at c = storing_ended c.loop-at.invariant c.loop-at-test.false
