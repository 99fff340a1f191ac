use Rattle.automaton_symbols.proofs.Free.{free}
use Rattle.base.proofs.Picking.{Picked}
use Rattle.automaton_symbols.proofs.uncontrollable.Given as goal

abbrev pub invariant-loop-e : goal.invariant-loop-e
invariant-loop-e l = Picked 16 (free l.classes) l.e l.list l.count
