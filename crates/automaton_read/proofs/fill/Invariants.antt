use lib.ListN.{length}
use Rattle.refusal.specs.Numbers.{number}
use Rattle.automaton_format.proofs.Items.{Filling}
use Rattle.automaton_read.proofs.fill.Given as goal

-- Items of the sheet, one after the other.
abbrev pub invariant-loop-v : goal.invariant-loop-v
invariant-loop-v l = Filling l.s l.initial.out l.at (length l.initial.out) l.limit (number l.refusal) l.most l.out l.place l.ones l.v-index
