use Rattle.std.proofs.Common.{length, take}
use Rattle.std.specs.Io.KnownBytes.{Consumes}
use Rattle.streams.proofs.Passing.{Ended}
use Rattle.streams.proofs.Transfers.{Standing, Made, unspent}
use Rattle.streams.proofs.read_all.Given as goal

abbrev pub invariant-loop-t : goal.invariant-loop-t
invariant-loop-t g l = record {
  stands : Standing (length l.fn.buf) l.t;
  made : Made (length l.fn.buf) l.t;
  taken : Consumes (g.R.Read.remaining l.fn.from) (g.R.Read.remaining l.from) (take l.t.count l.buf);
  ended : Ended l.t (g.R.Read.remaining l.from);
}

abbrev pub decreases-loop-t : goal.decreases-loop-t
decreases-loop-t g l = unspent l.t
