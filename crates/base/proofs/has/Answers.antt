use mathlib.Core.Path.{refl}
use Rattle.base.specs.Masks.{has}
use Rattle.base.proofs.has.Goals as goal

pub returns : goal.returns
unfolding has
returns c = refl
