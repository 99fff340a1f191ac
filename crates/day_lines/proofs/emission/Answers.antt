use Rattle.day_lines.proofs.Spacing.{emission-none, emission-some}
use Rattle.text.proofs.Appending.{said}
use Rattle.text.specs.Decimal.{ascii}
use Rattle.std.proofs.Common.{arith, rules}
use Rattle.day_lines.proofs.emission.Goals as goal

pub returns-then-is_empty : goal.returns-then-is_empty
unfolding ascii
returns-then-is_empty c = (said (emission-none c.args.symbols.now (search rules)) c.word.ensures, omega (arith, c.word.ensures.place))

pub returns-else-is_empty : goal.returns-else-is_empty
returns-else-is_empty c =
    (said (emission-some c.args.symbols.now (search rules)) c.spaced.ensures.0, omega (arith, c.spaced.ensures.1, c.requires.0))
