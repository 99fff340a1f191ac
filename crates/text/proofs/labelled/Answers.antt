use Rattle.text.proofs.Appending.{behind, room-left}
use lib.ListN.{length-append}
use native.Mathlib.Omega.{arith}
use Rattle.text.specs.Decimal.{decimal}
use Rattle.text.proofs.labelled.Goals as goal

pub word-next-requires : goal.word-next-requires
word-next-requires c = omega (arith, simp length-append at c.requires)

pub number-requires : goal.number-requires
number-requires c = room-left (decimal c.args.n) c.word-next.ensures c.requires

pub returns : goal.returns
returns c = behind c.word-next.ensures c.number.ensures
