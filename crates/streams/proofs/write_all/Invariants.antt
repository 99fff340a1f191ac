use Rattle.std.proofs.Common.{length, take}
use Rattle.std.specs.Io.KnownBytes.{Appends}
use Rattle.streams.proofs.Transfers.{Standing, Made, unspent}
use Rattle.streams.proofs.write_all.Given as goal

abbrev pub invariant-loop-t : goal.invariant-loop-t
invariant-loop-t g l = record {
  stands : Standing (length l.fn.bytes) l.t;
  made : Made (length l.fn.bytes) l.t;
  passed : Appends (g.W.Write.contents l.fn.to) (g.W.Write.contents l.to) (take l.t.count l.fn.bytes);
}

abbrev pub decreases-loop-t : goal.decreases-loop-t
decreases-loop-t g l = unspent l.t
