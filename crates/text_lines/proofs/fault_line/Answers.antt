use Rattle.text_lines.specs.Lines.{fault_line}
use Rattle.text.specs.Decimal.{ascii}
use Rattle.text_lines.proofs.fault_line.Goals as goal

pub returns : goal.returns
unfolding ascii fault_line
returns c = c.pair_line.ensures
