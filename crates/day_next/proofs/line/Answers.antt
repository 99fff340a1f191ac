use Rattle.day_transcript.proofs.Phases.{refusal-some, fault-some}
use Rattle.day_transcript.proofs.Continuing.{line-none, line-last, line_as}
use Rattle.day_transcript.specs.Pieces.{in_phase, to_come}
use mathlib.Core.Path.{ap}
use borrow.Author.Rules.{rules}
use Rattle.day_next.proofs.line.Goals as goal

pub returns-in-Ended : goal.returns-in-Ended
unfolding to_come in_phase
returns-in-Ended c =
    let a = c.args in
    rw (c.piece.ensures.0, c.piece.ensures.1)
    (line-none a.progress.session _ _ (search rules)
    (ap (in_phase a.table.now a.input.now a.progress.session) c.in-Ended.is))

pub returns-in-Refused : goal.returns-in-Refused
unfolding to_come in_phase
returns-in-Refused c =
    let a = c.args in
    rw (c.piece-in-Refused.ensures.0, c.piece-in-Refused.ensures.1)
    (line-last a.progress.session (refusal-some _) c.refusal_line-next.ensures
    (ap (in_phase a.table.now a.input.now a.progress.session) c.in-Refused.is))

pub returns-in-Faulted : goal.returns-in-Faulted
unfolding to_come in_phase
returns-in-Faulted c =
    let a = c.args in
    rw (c.piece-in-Faulted.ensures.0, c.piece-in-Faulted.ensures.1)
    (line-last a.progress.session (fault-some _ _) c.fault_line-next.ensures
    (ap (in_phase a.table.now a.input.now a.progress.session) c.in-Faulted.is))

pub returns-in-Opening : goal.returns-in-Opening
unfolding to_come
returns-in-Opening c =
    let a = c.args in
    line_as (ap (in_phase a.table.now a.input.now a.progress.session) c.in-Opening.is) c.opening_line.ensures

pub returns-in-Receiving : goal.returns-in-Receiving
unfolding to_come
returns-in-Receiving c =
    let a = c.args in
    line_as (ap (in_phase a.table.now a.input.now a.progress.session) c.in-Receiving.is) c.receiving_line.ensures
