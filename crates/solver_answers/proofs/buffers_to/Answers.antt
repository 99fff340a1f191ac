use Rattle.solver_answers.proofs.Answers.{count-one, count-more, count_fits}
use mathlib.Core.Path.{◌≡◌}
use native.Mathlib.Omega.{arith}
use Rattle.solver_answers.proofs.buffers_to.Goals as goal

pub loop-length-init : goal.loop-length-init
loop-length-init c = count-one _

pub overflow_mul-count : goal.overflow_mul-count
overflow_mul-count c = omega (arith, (count_fits _ _ _ _ c.loop-length.invariant (omega arith) (omega arith)).0)

pub overflow_add-sum : goal.overflow_add-sum
overflow_add-sum c = omega (arith, (count_fits _ _ _ _ c.loop-length.invariant (omega arith) (omega arith)).1)

pub loop-length-preserved : goal.loop-length-preserved
loop-length-preserved c = count-more _ _ _ _ c.loop-length.invariant

pub returns : goal.returns
returns c = let e : c.loop-length._length ≡ c.args.capacity = omega arith in rw e at c.loop-length.invariant.all
