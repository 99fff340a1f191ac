use Rattle.automaton_format.proofs.Sections.{StatesFilled}
use Rattle.automaton_read.proofs.fill_states.Given as goal

-- The next states, state by state.
abbrev pub invariant-loop-q : goal.invariant-loop-q
invariant-loop-q l = StatesFilled l.s l.n l.m l.at l.next l.place l.q
