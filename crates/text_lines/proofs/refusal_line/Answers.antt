use Rattle.text.proofs.Appending.{behind}
use Rattle.text.proofs.Digits.{byte_length}
use Rattle.text_lines.specs.Lines.{refusal_line}
use Rattle.text.specs.Decimal.{ascii, decimal}
use Prim.Native.Nat.{◌≤◌}
use lib.ListN.{length}
use native.Mathlib.Omega.{arith}
use Rattle.text_lines.proofs.refusal_line.Goals as goal

pub labelled-refusal-requires : goal.labelled-refusal-requires
unfolding ascii
labelled-refusal-requires c = let digits : length (decimal c.args.row) ≤ 3 = byte_length c.args.row (omega (arith, c.ranges.row)) in
    omega (arith, c.requires, digits)

pub word-requires : goal.word-requires
unfolding ascii
word-requires c = let digits : length (decimal c.args.row) ≤ 3 = byte_length c.args.row (omega (arith, c.ranges.row)) in
    omega (arith, c.requires, c.labelled-refusal.ensures.place, c.labelled-refusal.auto.out, digits)

pub returns : goal.returns
unfolding ascii refusal_line
returns c =
    behind c.labelled-refusal.ensures c.word.ensures
