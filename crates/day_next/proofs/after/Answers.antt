use Rattle.day_transcript.proofs.Sessions.{after-refused, after-accepted}
use Rattle.day_next.proofs.after.Goals as goal

pub returns-then-answer-ne0 : goal.returns-then-answer-ne0
returns-then-answer-ne0 c = after-refused _ _ _ c.if-answer-ne0.true

pub returns : goal.returns
returns c = after-accepted _ _ _ c.if-answer-ne0.false
