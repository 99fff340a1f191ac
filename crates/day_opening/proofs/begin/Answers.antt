use Rattle.day_transcript.proofs.Beginning.{begin_long, begin_faulted, begin_valid, begin_opened}
use Rattle.day_transcript.specs.Pieces.{without}
use Rattle.day_transcript.specs.declared.Phase.TheVariants.{Refused, Faulted}
use Rattle.refusal.proofs.Numbers.{number_never_0}
use Rattle.std.proofs.Common.{refl, ap, ◌∙◌}
use Rattle.day_opening.proofs.begin.Goals as goal

pub returns-then-input-gt-MAX_INPUT : goal.returns-then-input-gt-MAX_INPUT
returns-then-input-gt-MAX_INPUT c =
    let b = begin_long c.args.input.now c.args.table.now c.if-input-gt-MAX_INPUT.true in
    rw (c.without.ensures, c.from.ensures) (record { result_after = b.0; table_after = b.1 })

pub returns-in-Err : goal.returns-in-Err
returns-in-Err c =
    let a = c.args in
    let b = begin_faulted a.input.now a.table.now c.if-input-gt-MAX_INPUT.false _ c.in-Err.ensures (number_never_0 _) in
    rw (c.without-in-Err.ensures, c.from-in-Err.ensures) (record { result_after = b.0; table_after = b.1 })

pub opened-requires : goal.opened-requires
opened-requires c =
    let a = c.args in
    begin_valid a.input.now a.table.now c.if-input-gt-MAX_INPUT.false _ c.in-Ok.ensures refl

pub returns-in-Ok : goal.returns-in-Ok
returns-in-Ok c =
    let a = c.args in
    let b =
    begin_opened a.input.now a.table.now c.if-input-gt-MAX_INPUT.false _ c.in-Ok.ensures refl c.opened.ensures.table_len _ _
    c.opened.ensures.value.1 c.opened.ensures.value.0 in
    record { result_after = b.0; table_after = b.1 }
