use Rattle.monitor_step.proofs.Overflows.{shift_is}
use Rattle.monitor_step.proofs.shifted.Goals as goal

pub returns : goal.returns
returns c = shift_is c.args.buffer c.args.held c.args.e c.requires.0 c.requires.1 c.requires.2
