use Rattle.day_transcript.specs.Pieces.{Continued}
use lib.ListN.{length}
use Prim.Native.Nat.{◌-◌}
use Rattle.day_pieces.proofs.next_piece.Given as goal

-- As many lines as have room.
abbrev pub invariant-loop-out : goal.invariant-loop-out
invariant-loop-out l = Continued l.table l.input l.initial.current l.initial.out 0 l.out l.current l.at

abbrev pub decreases-loop-out : goal.decreases-loop-out
decreases-loop-out l = length l.initial.out - l.at
