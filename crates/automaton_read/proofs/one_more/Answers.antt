use borrow.Author.Tests.{eq-eqb, ne_eqb}
use Rattle.automaton_format.specs.Outcomes.{one_more}
use native.Mathlib.Omega.{arith}
use Rattle.automaton_read.proofs.one_more.Goals as goal

pub returns-then-v-eq1 : goal.returns-then-v-eq1
unfolding one_more
returns-then-v-eq1 c = rw (eq-eqb _ 1 c.if-v-eq1.true)

pub returns-else-v-eq1 : goal.returns-else-v-eq1
unfolding one_more
returns-else-v-eq1 c = rw (ne_eqb _ 1 c.if-v-eq1.false) (omega arith)
