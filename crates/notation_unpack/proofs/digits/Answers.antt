use native.Mathlib.Nat.{zero-add}
use mathlib.Core.Path.{◌∙◌}
use Rattle.text.proofs.Digits.{word_length}
use native.Mathlib.Omega.{arith}
use Rattle.notation_unpack.proofs.digits.Goals as goal

pub number-requires : goal.number-requires
number-requires c = omega (arith, word_length c.args.v (omega (arith, c.ranges.v)))

pub returns : goal.returns
returns c = let w = word_length c.args.v (omega (arith, c.ranges.v)) in (c.number.ensures.place ∙ zero-add _, omega (arith, c.number.ensures.place, w))
