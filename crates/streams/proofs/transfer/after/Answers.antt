use Rattle.streams.specs.Transfers.{after}
use Rattle.streams.proofs.transfer.after.Goals as goal

pub returns-in-Ok : goal.returns-in-Ok
unfolding after
returns-in-Ok c = rw c.in-Ok.is c.moved.ensures

pub returns-in-Err : goal.returns-in-Err
unfolding after
returns-in-Err c = rw c.in-Err.is c.failed.ensures
