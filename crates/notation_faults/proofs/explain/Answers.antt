use mathlib.Core.Path.{ap}
use Rattle.text.specs.Decimal.{ascii}
use Rattle.notation.specs.Packing.{no_room}
use Rattle.notation.specs.Results.{as_error}
use Rattle.notation_faults.specs.Messages.{message, said}
use Rattle.notation_faults.proofs.explain.Goals as goal

pub returns-in-Faulty : goal.returns-in-Faulty
unfolding message
returns-in-Faulty c = rw (ap (λ e. message c.args.source.now (as_error e)) c.in-Faulty.is) c.said.ensures

pub returns-in-NoRoom : goal.returns-in-NoRoom
unfolding message said no_room ascii
returns-in-NoRoom c = rw (ap (λ e. message c.args.source.now (as_error e)) c.in-NoRoom.is) c.word.ensures
