use Rattle.day_transcript.proofs.Sessions.{answer-refused, answer-accepted}
use Rattle.text.proofs.Appending.{said}
use Rattle.day_next.proofs.answer_line.Goals as goal

pub returns-then-answer-ne0 : goal.returns-then-answer-ne0
returns-then-answer-ne0 c = said (answer-refused _ _ c.if-answer-ne0.true) c.refused_event_line.ensures

pub returns : goal.returns
returns c = said (answer-accepted _ _ c.if-answer-ne0.false) (rw c.from-count.ensures at c.event_line.ensures)
