use Prim.Native.Nat.{◌+◌, ◌≤◌}
use mathlib.Core.Path.{◌∙◌, ap}
use mathlib.Core.Bool.{cond}
use native.Mathlib.Omega.{arith}
use lib.Dec.{eqb}
use lib.ListN.{length, get_or, take}
use Rattle.monitor_rule.specs.Fronts.{over}
use Rattle.monitor_step.proofs.Arrivals.{Arrived}
use Rattle.monitor_step.proofs.Steps.{many, rank-class, released-few, step-answers, step_writes, ready_space, ready_arrives, ready_lent}
use Rattle.monitor_step.proofs.step.Goals as goal
use Rattle.monitor_step.proofs.step.Goals.{After-release-front}

-- the event has arrived
arrived : (c : After-release-front) → let x = c.args in
    Arrived (over x.ranks.now x.next.now) x.q (take x.held x.buffer) x.e c.moved-p.result c.enqueue-all.new.buffer
    (cond (eqb (get_or x.ranks.now c.from.result 0) 0) 1 0) c.enqueue-all.result
arrived c =
    ready_arrives c.requires _ _ c.from.ensures c.from-2.ensures _ _ _
    c.moved-p.ensures c.enqueue-all.ensures.1 c.enqueue-all.ensures.0

-- no more are released than are there
few : (c : After-release-front) → c.release-front.result.count ≤ c.enqueue-all.result
few c = released-few _ _ _ _ _ _ _ _ _ (arrived c) _ c.release-front.ensures

pub enqueue-all-requires : goal.enqueue-all-requires
enqueue-all-requires c = ready_space c.requires _ c.from.ensures

pub release-front-requires : goal.release-front-requires
release-front-requires c =
    ready_lent c.requires _ _ _ _
    (ready_arrives c.requires _ _ c.from.ensures c.from-2.ensures _ _ _
    c.moved-p.ensures c.enqueue-all.ensures.1 c.enqueue-all.ensures.0)

pub emit-requires : goal.emit-requires
emit-requires c =
    let p = (goal.at.emit-requires c).After-release-front in
    let x = arrived p in
    let g = c.requires in
    let n = c.pass-from in
    let l : n.result + c.release-front.result.count ≤ length n.new.out =
    omega (arith, few p, x.sum, many g, g.room, n.ensures.0)
    in
    (omega (arith, few p, x.few), l)

pub overflow_sub-result : goal.overflow_sub-result
overflow_sub-result c = few (goal.at.overflow_sub-result c).After-release-front

pub left-requires : goal.left-requires
left-requires c =
    let p = (goal.at.left-requires c).After-release-front in
    let x = arrived p in
    (x.few, few p, x.whole)

pub overflow_add-result : goal.overflow_add-result
overflow_add-result c =
    let p = (goal.at.overflow_add-result c).After-release-front in
    let x = arrived p in
    let g = c.requires in
    omega (arith, few p, x.sum, many g, g.room, g.indexed, c.pass-from.ensures.0)

pub returns : goal.returns
returns c =
    let x = arrived (goal.at.returns c).After-release-front in
    let a = c.args in
    let n = c.pass-from.ensures in
    let class = ap (λ i. eqb (get_or a.ranks.now i 0) 0) c.from.ensures ∙ rank-class a.ranks.now a.next.now a.e in (
      step-answers _ _ _ _ _ _ _ _ _ x _ c.release-front.ensures _ _ n.0 _ c.left.ensures,
      step_writes _ _ _ _ _ _ _ _ _ x _ c.release-front.ensures _ class _ _ _ _ _ n.0 n.1 c.emit.ensures,
    )
