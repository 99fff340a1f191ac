use Rattle.std.proofs.Common.{◌≡◌, true, bit_or}
use Rattle.solver_rounds.specs.Rounds.{leads}
use Rattle.solver_rounds.proofs.Scanning.{Leaving}
use Rattle.solver_rounds.proofs.refine.Given as goal

-- One round: the scan of a state's symbols, and what the states so far leave.
abbrev pub invariant-scan : goal.invariant-scan
invariant-scan l = (l.stays ≡ true) × (leads l.next l.free l.k (bit_or l.set l.intermediate) l.q ≡ true)

abbrev pub invariant-loop-q : goal.invariant-loop-q
invariant-loop-q l = Leaving l.next l.free l.n l.u l.intermediate l.set l.q l.left
