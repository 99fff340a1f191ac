use Rattle.day_lines.proofs.Joining.{event_joined}
use Rattle.text.proofs.Appending.{behind, said}
use Rattle.text.specs.Decimal.{ascii}
use Rattle.day_lines.proofs.event_line.Goals as goal

pub returns : goal.returns
unfolding ascii
returns c =
    said
    (event_joined c.args.event c.args.emitted.now c.args.q c.args.held c.args.winning)
    (behind c.received-label.ensures.0 (behind c.emission-end.ensures.0 c.pair_end.ensures))
