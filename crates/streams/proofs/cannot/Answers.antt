use Rattle.text.proofs.Appending.{behind, front-is}
use Rattle.streams.proofs.cannot.Goals as goal

pub returns : goal.returns
returns g c = rw (front-is (behind c.word-next.ensures c.word-length.ensures)) at c.write_all.ensures
