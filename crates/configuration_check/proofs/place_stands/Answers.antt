use Rattle.configuration.specs.Configuration.{place_stands}
use Rattle.configuration_check.proofs.place_stands.Goals as goal

pub returns-then-used : goal.returns-then-used
unfolding place_stands
returns-then-used c = rw c.if-used.true c.controllable_symbol.ensures

pub returns : goal.returns
unfolding place_stands
returns c = rw c.if-used.false
