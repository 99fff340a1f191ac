use mathlib.Core.Path.{refl}
use Rattle.notation.specs.Packing.{refused}
use Rattle.notation_pack.proofs.refused.Goals as goal

pub returns : goal.returns
unfolding refused
returns c = refl
