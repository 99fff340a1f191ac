use Rattle.solver_answers.proofs.Answers.{Counting}
use Rattle.solver_answers.proofs.buffers_to.Given as goal

abbrev pub invariant-loop-length : goal.invariant-loop-length
invariant-loop-length l = Counting l.k l._length l.count l.sum
