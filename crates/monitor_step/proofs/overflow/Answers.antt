use Prim.Native.Nat.{◌+◌, ◌*◌, ◌≤◌}
use mathlib.Core.Path.{◌∙◌, ap}
use native.Mathlib.Omega.{arith}
use lib.ListN.{get_or}
use Rattle.monitor_step.proofs.Steps.{released-few}
use Rattle.monitor_step.proofs.Overflows.{Behind, many, behind, behind-lent, overflow_shut, overflow_ended, overflow_answers, overflow_writes}
use borrow.Author.Tests.{not-true, not-false}
use Rattle.monitor_step.proofs.overflow.Goals as goal
use Rattle.monitor_step.proofs.overflow.Goals.{After-release-front}

-- the newcomer stands behind the others
after_first : (c : After-release-front) → let x = c.args in
    Behind x.next.now x.q x.buffer x.held x.e c.moved-p.result c.shifted-later.result
after_first c =
    record {
      led = c.moved-p.ensures ∙ ap (λ i. get_or c.args.next.now (c.args.q * 16 + i) 0) c.from.ensures;
      shifted = c.shifted-later.ensures;
    }

-- no more are released than are held
few : (c : After-release-front) → c.release-front.result.count ≤ c.args.held
few c = released-few _ _ _ _ _ _ _ _ _ (behind c.requires (after_first c)) _ c.release-front.ensures

pub release-front-requires : goal.release-front-requires
release-front-requires c =
    behind-lent c.requires
    (record {
      led = c.moved-p.ensures ∙ ap (λ i. get_or c.args.next.now (c.args.q * 16 + i) 0) c.from.ensures;
      shifted = c.shifted-later.ensures;
    })

pub returns-then-not-front : goal.returns-then-not-front
returns-then-not-front c =
    let s = after_first (goal.at.returns-then-not-front c).After-release-front in
    let shut = overflow_shut c.requires s _ _ c.release-front.ensures _ (not-true _ c.if-not-front.true) _ in
    (c.refused.ensures ∙ shut.0, shut.1)

pub returns-then-received-eq-COUNT_END : goal.returns-then-received-eq-COUNT_END
returns-then-received-eq-COUNT_END c =
    let s = after_first (goal.at.returns-then-received-eq-COUNT_END c).After-release-front in
    let ended = overflow_ended c.requires s _ _ c.release-front.ensures _ (not-false _ c.if-not-front.false) c.if-received-eq-COUNT_END.true _ in
    (c.refused-then-received-eq-COUNT_END.ensures ∙ ended.0, ended.1)

pub emit-requires : goal.emit-requires
emit-requires c =
    let p = (goal.at.emit-requires c).After-release-front in
    let g = c.requires in
    let b = behind g (after_first p) in
    (omega (arith, few p, b.few), omega (arith, few p, b.sum, many g, g.room, c.pass-from.ensures.0))

pub overflow_sub-result : goal.overflow_sub-result
overflow_sub-result c = few (goal.at.overflow_sub-result c).After-release-front

pub left-requires : goal.left-requires
left-requires c =
    let p = (goal.at.left-requires c).After-release-front in
    let b = behind c.requires (after_first p) in
    (b.few, few p, b.whole)

pub overflow_add-result : goal.overflow_add-result
overflow_add-result c =
    let p = (goal.at.overflow_add-result c).After-release-front in
    let b = behind c.requires (after_first p) in
    omega (arith, few p, b.few)

pub overflow_add-result-2 : goal.overflow_add-result-2
overflow_add-result-2 c =
    let p = (goal.at.overflow_add-result-2 c).After-release-front in
    let g = c.requires in
    let b = behind g (after_first p) in
    omega (arith, few p, b.sum, many g, g.room, g.indexed, c.pass-from.ensures.0)

pub returns : goal.returns
returns c =
    let s = after_first (goal.at.returns c).After-release-front in
    let g = c.requires in
    let n = c.pass-from.ensures in (
      overflow_answers g s _ _ c.release-front.ensures _ (not-false _ c.if-not-front.false) c.if-received-eq-COUNT_END.false _ n.0 _ c.left.ensures,
      overflow_writes g s _ _ c.release-front.ensures _ (not-false _ c.if-not-front.false) c.if-received-eq-COUNT_END.false _ _ _ _ n.0 n.1 c.emit.ensures,
    )
