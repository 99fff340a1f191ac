use mathlib.Core.Path.{refl}
use Rattle.monitor.proofs.refused.Goals as goal

pub returns : goal.returns
returns c = refl
