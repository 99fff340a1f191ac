use Rattle.text.specs.Decimal.{decimal}
use mathlib.Core.List.{◌++◌}
use lib.ListN.{length-append}
use Rattle.text.proofs.Appending.{behind, room-left}
use native.Mathlib.Omega.{arith}
use Rattle.text.proofs.pair.Goals as goal

pub labelled-next-requires : goal.labelled-next-requires
labelled-next-requires c =
    let a = c.args in
    omega (arith, length-append (a.first.now ++ decimal a.n) (a.second.now ++ decimal a.m), c.requires)

pub labelled-requires : goal.labelled-requires
labelled-requires c =
    let a = c.args in
    room-left (a.second.now ++ decimal a.m) c.labelled-next.ensures c.requires

pub returns : goal.returns
returns c =
    behind c.labelled-next.ensures c.labelled.ensures
