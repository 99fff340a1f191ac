use Rattle.c_layout.specs.Answers.{ran_bytes}
use Rattle.c_answers.proofs.ran_bytes.Goals as goal

pub returns : goal.returns
unfolding ran_bytes
returns c = c.day_bytes.ensures
