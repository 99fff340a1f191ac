use Rattle.std.proofs.Common.{◌≡◌}
use Rattle.automaton.specs.Arrays.{below_from}
use Rattle.automaton_check.proofs.below.Given as goal

abbrev pub invariant-loop-v : goal.invariant-loop-v
invariant-loop-v l = l.fine ≡ below_from l.list 0 l.v-index l.limit
