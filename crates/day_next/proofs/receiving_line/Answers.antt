use Rattle.day_transcript.specs.Pieces.{belongs}
use Rattle.day_transcript.proofs.Phases.{receiving_none, end_comes, fault_comes, counted-before, event_comes, end_some, fault-some, answer-some}
use Rattle.day_transcript.proofs.Continuing.{line-none, line-last, line-goes_on}
use Rattle.monitor_answers.proofs.Accepted.{received-few}
use mathlib.Core.Path.{◌≡◌, refl, sym, ◌∙◌}
use mathlib.Core.Bool.{true}
use lib.ListN.{length}
use Rattle.refusal.proofs.Numbers.{number_never_0}
use borrow.Author.Rules.{rules}
use Rattle.day_next.proofs.receiving_line.Goals as goal

pub returns-then-not-belongs : goal.returns-then-not-belongs
returns-then-not-belongs c =
    let a = c.args in
    rw (c.piece.ensures.0, c.piece.ensures.1)
    (line-none a.session _ _ (search rules) (receiving_none _ _ a.session (sym c.belongs.ensures ∙ c.if-not-belongs.true)))

pub returns-then-input-place : goal.returns-then-input-place
returns-then-input-place c = let on-input : belongs (length c.args.input.now) c.args.session ≡ true = sym c.belongs.ensures ∙ c.if-not-belongs.false in
    let u = c.args.session in
    rw (c.piece-then-input-place.ensures.0, c.piece-then-input-place.ensures.1)
    (line-last u (end_some _ _) c.end_line-next.ensures (end_comes _ _ u (on-input) c.if-input-place.true))

pub returns-in-Err : goal.returns-in-Err
returns-in-Err c =
    let on-input : belongs (length c.args.input.now) c.args.session ≡ true = sym c.belongs.ensures ∙ c.if-not-belongs.false in
    let u = c.args.session in
    rw (c.piece-in-Err.ensures.0, c.piece-in-Err.ensures.1)
    (line-last u (fault-some _ _) (rw c.from.ensures at c.fault_line-next.ensures)
    (fault_comes _ _ u on-input _ c.in-Err.ensures c.if-input-place.false (number_never_0 _)))

pub answer_line-next-requires : goal.answer_line-next-requires
answer_line-next-requires c = (rw c.receive-answer.ensures (received-few _ _ _ _), search rules)

pub after-requires : goal.after-requires
after-requires c =
    let on-input : belongs (length c.args.input.now) c.args.session ≡ true = sym c.belongs.ensures ∙ c.if-not-belongs.false in
    counted-before c.args.table.now _ c.args.session on-input _ c.in-Ok.ensures c.if-input-place.false refl

pub returns : goal.returns
returns c =
    let on-input : belongs (length c.args.input.now) c.args.session ≡ true = sym c.belongs.ensures ∙ c.if-not-belongs.false in
    let u = c.args.session in
    rw (c.piece-2.ensures.0, c.piece-2.ensures.1, c.after.ensures)
    (line-goes_on _ (answer-some _ _) c.answer_line-next.ensures
    (event_comes _ _ u on-input _ c.in-Ok.ensures c.if-input-place.false refl _ c.receive-answer.ensures))
