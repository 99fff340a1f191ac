use Rattle.c_layout.specs.Answers.{received_bytes}
use Rattle.c_answers.proofs.received_bytes.Goals as goal

pub returns : goal.returns
unfolding received_bytes
returns c = c.event_bytes.ensures
