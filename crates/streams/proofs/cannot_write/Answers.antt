use Rattle.text.specs.Decimal.{ascii}
use Rattle.streams.specs.Streams.{cannot_write}
use Rattle.streams.proofs.cannot_write.Goals as goal

pub returns : goal.returns
unfolding cannot_write ascii
returns g c = c.cannot.ensures
