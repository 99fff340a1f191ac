use mathlib.Core.Path.{◌≡◌}
use Rattle.automaton.proofs.Checks.{state_below_to}
use Rattle.automaton_check.proofs.state_below.Given as goal

abbrev pub invariant-loop-e : goal.invariant-loop-e
invariant-loop-e l = l.fine ≡ state_below_to l.next l.q l.e l.limits
