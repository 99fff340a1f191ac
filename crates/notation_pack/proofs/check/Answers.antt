use Rattle.notation.proofs.Checks.{checking_begins, checked_ended, checked_lies, checked_refused, checked_small, checked_most, checked_goes_on}
use mathlib.Core.Path.{◌∙◌}
use native.Mathlib.Omega.{arith}
use Rattle.notation_pack.proofs.check.Goals as goal

pub loop-token-init : goal.loop-token-init
loop-token-init c = checking_begins _

pub groups-length-requires : goal.groups-length-requires
groups-length-requires c =
    let found = c.in-Some.ensures in checked_small c.loop-token.invariant c.in-Some.field-0 found.0 found.1 _ c.in-Ok.is

pub overflow_add-length : goal.overflow_add-length
overflow_add-length c =
    let found = c.in-Some.ensures in
    omega (arith, checked_most c.loop-token.invariant c.in-Some.field-0 found.0 found.1 _ c.in-Ok.is _ c.groups-length.ensures)

pub refused-requires : goal.refused-requires
refused-requires c =
    let found = c.in-Some.ensures in
    omega (arith, (checked_lies c.loop-token.invariant c.in-Some.field-0 found.0 found.1).counted, found.0)

pub returns-in-Err : goal.returns-in-Err
returns-in-Err c =
    let found = c.in-Some.ensures in
    c.refused.ensures ∙ checked_refused c.loop-token.invariant c.in-Some.field-0 found.0 found.1 _ c.in-Err.is

pub loop-token-smaller : goal.loop-token-smaller
loop-token-smaller c =
    let found = c.in-Some.ensures in
    let l = checked_lies c.loop-token.invariant c.in-Some.field-0 found.0 found.1 in omega (arith, l.after, l.inside, found.0)

pub loop-token-preserved : goal.loop-token-preserved
loop-token-preserved c =
    let found = c.in-Some.ensures in
    checked_goes_on c.loop-token.invariant c.in-Some.field-0 found.0 found.1 _ c.in-Ok.is _ c.groups-length.ensures

pub returns : goal.returns
returns c = checked_ended c.loop-token.invariant c.in_default.ensures
