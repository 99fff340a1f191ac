use Rattle.day_transcript.proofs.Phases.{opening-none, opening_comes, first_some}
use Rattle.day_transcript.proofs.Continuing.{line-none, line-goes_on}
use mathlib.Core.Path.{sym, ◌∙◌}
use borrow.Author.Rules.{rules}
use Rattle.day_next.proofs.opening_line.Goals as goal

pub returns-then-not-belongs : goal.returns-then-not-belongs
returns-then-not-belongs c =
    let a = c.args in
    rw (c.piece.ensures.0, c.piece.ensures.1)
    (line-none a.session _ _ (search rules)
    (opening-none _ _ a.session (sym c.belongs.ensures ∙ c.if-not-belongs.true)))

pub returns : goal.returns
returns c =
    let a = c.args in
    rw (c.piece-2.ensures.0, c.piece-2.ensures.1)
    (line-goes_on a.session (first_some _ a.session) c.first_line-next.ensures
    (opening_comes _ _ a.session (sym c.belongs.ensures ∙ c.if-not-belongs.false)))
