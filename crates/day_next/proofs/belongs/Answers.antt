use Rattle.std.proofs.Common.{◌+◌, ◌<◌, ◌≤◌, sym, ◌∙◌, arith}
use borrow.Author.Tests.{leb-true, leb-false}
use Rattle.day_transcript.proofs.Sessions.{counts-over, counts-fit}
use Rattle.day_next.proofs.belongs.Goals as goal
use Rattle.day_next.proofs.belongs.Goals.{then-session, else-session}

pub returns-then-session-2 : goal.returns-then-session-2
returns-then-session-2 c =
    counts-fit _ _ (elim c.if-session.branch [
      | then-session w ↦ omega (arith, leb-true _ _ (sym w.value-is ∙ c.if-session-2.true), w.if-session.true)
      | else-session w ↦ omega (arith, sym w.value-is ∙ c.if-session-2.true)
    ])

pub returns-else-session-2 : goal.returns-else-session-2
returns-else-session-2 c =
    c.if-session-2.false ∙ counts-over _ _ (elim c.if-session.branch [
      | then-session w ↦ omega (arith, leb-false _ _ (sym w.value-is ∙ c.if-session-2.false), w.if-session.true)
      | else-session w ↦ omega (arith, w.if-session.false)
    ])
