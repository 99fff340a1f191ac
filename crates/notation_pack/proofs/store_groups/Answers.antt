use Rattle.notation.proofs.Checks.{storing_begins, stored_ended, stored_lies, stored_sound, stored_fits, stored_goes_on}
use native.Mathlib.Omega.{arith}
use Rattle.notation_pack.proofs.store_groups.Goals as goal

pub loop-token-init : goal.loop-token-init
loop-token-init c = storing_begins c.requires

pub write_at-end-requires : goal.write_at-end-requires
write_at-end-requires c =
    let found = c.in-Some.ensures in stored_fits c.loop-token.invariant c.in-Some.field-0 found.0 found.1 _ c.in-Ok.is

pub loop-token-smaller : goal.loop-token-smaller
loop-token-smaller c =
    let found = c.in-Some.ensures in
    let l = stored_lies c.loop-token.invariant c.in-Some.field-0 found.0 found.1 in omega (arith, l.after, l.inside, found.0)

pub loop-token-preserved : goal.loop-token-preserved
loop-token-preserved c =
    let found = c.in-Some.ensures in
    stored_goes_on c.loop-token.invariant c.in-Some.field-0 found.0 found.1 _ c.in-Ok.is c.write_at-end.ensures

pub returns-in_default-word : goal.returns-in_default-word
returns-in_default-word c =
    let found = c.in-Some.ensures in
    absurd (stored_sound c.loop-token.invariant c.in-Some.field-0 found.0 found.1 _ c.in_default-word.is)

pub returns-in_default : goal.returns-in_default
returns-in_default c = stored_ended c.loop-token.invariant c.in_default.ensures
