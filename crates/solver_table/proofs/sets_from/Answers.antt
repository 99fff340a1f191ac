use Rattle.solver_rounds.specs.Rounds.{settled_on}
use Rattle.solver_table.specs.Levels.{sets_from}
use mathlib.Core.Path.{◌∙◌, ap}
use Rattle.solver_table.proofs.sets_from.Goals as goal

pub returns : goal.returns
unfolding sets_from
returns c =
    let a = c.args in
    let i = c.predecessors-intermediate.ensures in
    let r = c.settle-r.ensures ∙ ap (λ i. settled_on a.next.now a.free.now a.n a.u i a.accepting) i in
    λ j. record { winning = (r j).set; intermediate = i j; rounds = (r j).rounds }
