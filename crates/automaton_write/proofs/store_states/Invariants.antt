use Rattle.automaton_format.specs.Writing.{next_numbers}
use lib.Seq.{sets}
use lib.ListN.{length}
use mathlib.Core.Path.{◌≡◌}
use Rattle.automaton_write.proofs.store_states.Given as goal

-- The next states, state by state.
abbrev pub invariant-loop-q : goal.invariant-loop-q
invariant-loop-q l = (length l.out ≡ length l.initial.out) × (l.out ≡ sets l.initial.out l.at (next_numbers l.next l.m l.q))
