use Rattle.std.proofs.Common.{arith}
use Rattle.feed_record.specs.Serials.{ahead, distance}
use Rattle.feed_record.proofs.ahead.Goals as goal

pub returns-in-Any : goal.returns-in-Any
unfolding ahead
returns-in-Any c = rw c.in-Any.is

pub returns-in-Serial : goal.returns-in-Serial
unfolding ahead distance
returns-in-Serial c = rw c.in-Serial.is (omega arith)
