use Rattle.notation_unpack.proofs.Lines.{Storing}
use lib.ListN.{length}
use Prim.Native.Nat.{◌-◌}
use Rattle.notation_unpack.proofs.store_line.Given as goal

-- Numbers in decimal, one after the other.
abbrev pub invariant-loop-at : goal.invariant-loop-at
invariant-loop-at l = Storing l.bytes l.initial.out l.out l.at l.place

abbrev pub decreases-loop-at : goal.decreases-loop-at
decreases-loop-at l = length l.bytes - l.at
