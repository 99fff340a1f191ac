use Rattle.notation.proofs.Checks.{Storing}
use lib.ListN.{length}
use Prim.Native.Nat.{◌-◌}
use Rattle.notation_pack.proofs.store_groups.Given as goal

-- Each item's groups, one behind the other.
abbrev pub invariant-loop-token : goal.invariant-loop-token
invariant-loop-token l = Storing l.source l.initial.out l.out l.place.lines l.place.at l.end

abbrev pub decreases-loop-token : goal.decreases-loop-token
decreases-loop-token l = length l.source - l.place.at
