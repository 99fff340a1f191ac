use Rattle.text.specs.Decimal.{ascii}
use Rattle.streams.specs.Streams.{cannot_read}
use Rattle.streams.proofs.cannot_read.Goals as goal

pub returns : goal.returns
unfolding cannot_read ascii
returns g c = c.cannot.ensures
