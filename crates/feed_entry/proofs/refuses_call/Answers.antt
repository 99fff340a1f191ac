use Rattle.std.proofs.Common.{arith}
use Rattle.std.proofs.lemmas.Grind.{common_steps}
use Rattle.feed_entry.specs.Entries.{refuses_call}
use Rattle.feed_entry.proofs.refuses_call.Goals as goal

pub returns-then-row-eq12 : goal.returns-then-row-eq12
unfolding refuses_call
returns-then-row-eq12 c = grind (arith, common_steps)

pub returns-else-row-eq12 : goal.returns-else-row-eq12
unfolding refuses_call
returns-else-row-eq12 c = grind (arith, common_steps)
