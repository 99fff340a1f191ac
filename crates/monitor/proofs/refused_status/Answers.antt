use mathlib.Core.Path.{refl}
use Rattle.monitor.proofs.refused_status.Goals as goal

pub returns : goal.returns
returns c = refl
