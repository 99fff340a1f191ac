use Rattle.std.proofs.Common.{rules}
use Rattle.base.specs.Masks.{has}
use Rattle.automaton.specs.Arrays.{goes}
use Rattle.solver_rounds.specs.Rounds.{predecessors}
use Rattle.solver_rounds.proofs.predecessors.Goals as goal

pub returns : goal.returns
unfolding predecessors
returns c =
    let a = c.args in
    c.states_where.ensures (λ q. has a.goal (goes a.next.now q a.symbol)) (λ q r l h. search rules)
