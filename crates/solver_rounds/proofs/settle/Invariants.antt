use Rattle.solver_sets.proofs.Rounds.{Refining}
use Rattle.solver_rounds.specs.Rounds.{left_of}
use Prim.Native.Nat.{◌<◌, ◌^◌}
use Rattle.solver_rounds.proofs.settle.Given as goal

abbrev pub invariant-loop-set : goal.invariant-loop-set
invariant-loop-set l = (l.set < 2 ^ l.n) × Refining (left_of l.next l.free l.n l.u l.intermediate) l.from l.set l.rounds

abbrev pub decreases-loop-set : goal.decreases-loop-set
decreases-loop-set l = l.set
