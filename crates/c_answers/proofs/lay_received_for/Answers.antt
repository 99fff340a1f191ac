use mathlib.Core.Path.{refl}
use Rattle.c_layout.specs.Answers.{received_for_bytes}
use Rattle.c_answers.proofs.lay_received_for.Goals as goal

pub returns : goal.returns
unfolding received_for_bytes
returns c = (refl, c.event_bytes.ensures)
