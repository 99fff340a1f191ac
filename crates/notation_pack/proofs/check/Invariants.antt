use Rattle.notation.proofs.Checks.{Checking}
use lib.ListN.{length}
use Prim.Native.Nat.{◌-◌}
use Rattle.notation_pack.proofs.check.Given as goal

-- Each item, and the length of all their groups.
abbrev pub invariant-loop-token : goal.invariant-loop-token
invariant-loop-token l = Checking l.source l.place.lines l.place.at l.length

abbrev pub decreases-loop-token : goal.decreases-loop-token
decreases-loop-token l = length l.source - l.place.at
