use Rattle.notation_unpack.proofs.Lines.{Measuring}
use lib.ListN.{length}
use Prim.Native.Nat.{◌-◌}
use Rattle.notation_unpack.proofs.measure.Given as goal

-- The length of the line.
abbrev pub invariant-loop-at : goal.invariant-loop-at
invariant-loop-at l = Measuring l.bytes l.room l.at l.left l.short

abbrev pub decreases-loop-at : goal.decreases-loop-at
decreases-loop-at l = length l.bytes - l.at
