use Rattle.text.proofs.Appending.{kept}
use Rattle.day_lines.proofs.Spacing.{spacing_begins, spacing_goes_on}
use Rattle.text.proofs.Digits.{byte_length}
use Rattle.std.proofs.Common.{◌<◌, get_or, arith}
use Rattle.day_lines.proofs.spaced.Goals as goal

pub loop-symbol-init : goal.loop-symbol-init
loop-symbol-init c = spacing_begins _ _ _ (omega arith)

pub labelled-place-requires : goal.labelled-place-requires
labelled-place-requires c =
    let g = c.loop-symbol.invariant in
    let byte : c.from.result < 256 = omega (arith, c.from.ensures, (c.type_inv.symbols c.loop-symbol.symbol-index).fits) in
    omega (arith, g.near, kept g.so_far, byte_length c.from.result byte, c.requires, c.loop-symbol-test.true)

pub loop-symbol-preserved : goal.loop-symbol-preserved
loop-symbol-preserved c =
    spacing_goes_on c.loop-symbol.invariant c.loop-symbol-test.true (c.type_inv.symbols c.loop-symbol.symbol-index).fits
    (rw c.from.ensures at c.labelled-place.ensures)
