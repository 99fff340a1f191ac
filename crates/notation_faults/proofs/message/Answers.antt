use mathlib.Core.Path.{ap}
use Rattle.text.proofs.Appending.{nothing}
use Rattle.notation.specs.Packing.{done}
use Rattle.notation.specs.Results.{as_packed}
use Rattle.notation_faults.specs.Messages.{message, said}
use Rattle.notation_faults.proofs.message.Goals as goal

pub returns-in-Ok : goal.returns-in-Ok
unfolding message said done
returns-in-Ok c = rw (ap (λ r. message c.args.source.now (as_packed r)) c.in-Ok.is) (nothing c.args.out.now)

pub returns-in-Err : goal.returns-in-Err
returns-in-Err c = rw (ap (λ r. message c.args.source.now (as_packed r)) c.in-Err.is) c.explain.ensures
