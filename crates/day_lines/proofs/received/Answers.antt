use Rattle.text.proofs.Appending.{behind}
use Rattle.text.proofs.Digits.{word_length}
use Rattle.text.specs.Decimal.{ascii, decimal}
use Prim.Native.Nat.{◌≤◌}
use lib.ListN.{length}
use native.Mathlib.Omega.{arith}
use Rattle.day_lines.proofs.received.Goals as goal

pub labelled-next-requires : goal.labelled-next-requires
labelled-next-requires c = let digits : length (decimal c.args.event) ≤ 20 = word_length c.args.event (omega (arith, c.ranges.event)) in
    omega (arith, c.requires, digits)

pub word-requires : goal.word-requires
word-requires c = let digits : length (decimal c.args.event) ≤ 20 = word_length c.args.event (omega (arith, c.ranges.event)) in
    omega (arith, c.requires, c.labelled-next.ensures.place, c.labelled-next.auto.out, digits)

pub returns : goal.returns
unfolding ascii
returns c = let digits : length (decimal c.args.event) ≤ 20 = word_length c.args.event (omega (arith, c.ranges.event)) in (
  behind c.labelled-next.ensures c.word.ensures,
  omega (arith, c.word.ensures.place, c.labelled-next.ensures.place, digits),
)
