use mathlib.Core.Path.{◌≡◌}
use Rattle.automaton.specs.Arrays.{states_below}
use Rattle.automaton_check.proofs.states_below.Given as goal

-- Next states in range, state by state.
abbrev pub invariant-loop-q : goal.invariant-loop-q
invariant-loop-q l = l.fine ≡ states_below l.next l.q l.limits
