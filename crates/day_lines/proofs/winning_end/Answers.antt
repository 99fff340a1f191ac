use Rattle.day_lines.specs.StatusLines.{winning_end}
use Rattle.text.specs.Decimal.{ascii}
use native.Mathlib.Omega.{arith}
use Rattle.day_lines.proofs.winning_end.Goals as goal

pub word-requires : goal.word-requires
unfolding ascii winning_end
word-requires c = omega arith

pub returns-then-winning : goal.returns-then-winning
unfolding ascii winning_end
returns-then-winning c = rw c.if-winning.true c.word.ensures

pub word-requires-else-winning : goal.word-requires-else-winning
unfolding ascii winning_end
word-requires-else-winning c = omega arith

pub returns-else-winning : goal.returns-else-winning
unfolding ascii winning_end
returns-else-winning c = rw c.if-winning.false c.word-else-winning.ensures
