use Rattle.text_lines.specs.Lines.{end_line}
use Rattle.text.specs.Decimal.{ascii}
use Rattle.text_lines.proofs.end_line.Goals as goal

pub returns : goal.returns
unfolding ascii end_line
returns c = c.pair_line.ensures
