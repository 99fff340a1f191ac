use Rattle.text_lines.specs.Lines.{refused_event_line}
use Rattle.text.specs.Decimal.{ascii}
use Rattle.text_lines.proofs.refused_event_line.Goals as goal

pub returns : goal.returns
unfolding ascii refused_event_line
returns c = c.pair_line.ensures
