use Rattle.notation_faults.proofs.Showing.{Showing}
use Rattle.notation_faults.proofs.shown.Given as goal

abbrev pub invariant-loop-i : goal.invariant-loop-i
invariant-loop-i l = Showing l.start l.initial.out l.at l.out l.i
