use Rattle.base.specs.Pad.{pad}
use mathlib.Core.Path.{refl}
use Rattle.configuration.proofs.empty.Goals as goal

pub returns : goal.returns
unfolding pad
returns c = refl
