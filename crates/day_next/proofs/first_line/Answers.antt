use Rattle.day_transcript.specs.Transcript.{first_line}
use Rattle.day_next.proofs.first_line.Goals as goal

pub returns : goal.returns
unfolding first_line
returns c = rw c.winning-status.ensures at c.automaton_line.ensures
