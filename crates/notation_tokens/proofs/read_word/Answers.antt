use Rattle.notation.proofs.Values.{reads_begin, reads_wrong, reads_on, reads_large, reads_number}
use mathlib.Core.Path.{sym, ◌∙◌}
use Rattle.notation_tokens.proofs.read_word.Goals as goal

pub loop-b-init : goal.loop-b-init
loop-b-init c = reads_begin _

pub returns-then-not-is_ascii_digit : goal.returns-then-not-is_ascii_digit
returns-then-not-is_ascii_digit c = reads_wrong c.loop-b.invariant c.loop-b-test.true (sym c.is_ascii_digit.ensures.value ∙ c.if-not-is_ascii_digit.true)

pub loop-b-preserved : goal.loop-b-preserved
loop-b-preserved c =
    reads_on c.loop-b.invariant c.loop-b-test.true (sym c.is_ascii_digit.ensures.value ∙ c.if-not-is_ascii_digit.false)
    (rw c.from.ensures at c.capped-value.ensures.0) c.capped-value.ensures.1

pub returns-then-value-gt-MAX_NUMBER : goal.returns-then-value-gt-MAX_NUMBER
returns-then-value-gt-MAX_NUMBER c = reads_large c.loop-b.invariant c.loop-b-test.false c.if-value-gt-MAX_NUMBER.true

pub returns : goal.returns
returns c = reads_number c.loop-b.invariant c.loop-b-test.false c.if-value-gt-MAX_NUMBER.false
