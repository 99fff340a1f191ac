use Rattle.notation_faults.specs.Messages.{token_line}
use Rattle.text.specs.Decimal.{ascii, decimal}
use Rattle.text.proofs.Digits.{word_length}
use Rattle.text.proofs.Appending.{behind}
use Prim.Native.Nat.{◌≤◌}
use lib.ListN.{length}
use native.Mathlib.Omega.{arith}
use Rattle.notation_faults.proofs.token_line.Goals as goal

pub labelled-number-requires : goal.labelled-number-requires
labelled-number-requires c = let digits : length (decimal c.args.line) ≤ 20 = word_length c.args.line (omega (arith, c.ranges.line)) in
    omega (arith, c.requires.1, digits)

pub word-colon-requires : goal.word-colon-requires
word-colon-requires c = let digits : length (decimal c.args.line) ≤ 20 = word_length c.args.line (omega (arith, c.ranges.line)) in
    omega (arith, c.requires.1, c.labelled-number.ensures.place, c.labelled-number.auto.out, digits)

pub shown-name-requires : goal.shown-name-requires
shown-name-requires c = let digits : length (decimal c.args.line) ≤ 20 = word_length c.args.line (omega (arith, c.ranges.line)) in
    omega (arith, c.requires.1, c.word-colon.ensures.place, c.word-colon.auto.out, c.labelled-number.ensures.place, c.labelled-number.auto.out, digits)

pub word-requires : goal.word-requires
word-requires c = let digits : length (decimal c.args.line) ≤ 20 = word_length c.args.line (omega (arith, c.ranges.line)) in
    omega (
      arith,
      c.requires.0,
      c.requires.1,
      c.shown-name.ensures.1,
      c.shown-name.auto.out,
      c.word-colon.ensures.place,
      c.word-colon.auto.out,
      c.labelled-number.ensures.place,
      c.labelled-number.auto.out,
      digits,
    )

pub returns : goal.returns
unfolding ascii token_line
returns c =
    behind c.labelled-number.ensures
    (behind c.word-colon.ensures (behind c.shown-name.ensures.0 c.word.ensures))
