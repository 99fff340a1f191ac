use mathlib.Core.Path.{refl}
use Rattle.c_layout.specs.Answers.{ran_for_bytes}
use Rattle.c_answers.proofs.lay_ran_for.Goals as goal

pub returns : goal.returns
unfolding ran_for_bytes
returns c = (refl, c.day_bytes.ensures)
