use Prim.Native.Nat.{◌<◌}
use mathlib.Core.Path.{◌≡◌, refl, ◌∙◌, sym}
use native.Mathlib.Omega.{arith}
use lib.ListN.{get_or}
use borrow.Author.Tests.{eq-eqb, ne_eqb}
use Rattle.base.specs.Each.{each}
use Rattle.base.proofs.Bools.{and_both, or_left}
use Rattle.base.proofs.Ranges.{each_more, each_false}
use Rattle.automaton.specs.Automaton.{controllable, accepts, step}
use Rattle.game.proofs.Turns.{turn_in, turn-out, rest_not, rest_last, rest_on, come_here, come_none, come_released}
use Rattle.game.proofs.play.+can_rest_may_rest.Goals as goal
use Rattle.game.proofs.play.+can_rest_may_rest.Goals.{may_rest-then-classes-e-ne1+else-not-can_rest, may_rest-else-classes-e-ne1}

pub can_rest-returns-then-may_rest : goal.can_rest-returns-then-may_rest
can_rest-returns-then-may_rest t c =
    let a = c.args in
    sym (come_here _ a.buffer.now a.held a.at _ _ (sym c.may_rest.ensures ∙ c.if-may_rest.true))

pub can_rest-returns-then-at-held : goal.can_rest-returns-then-at-held
can_rest-returns-then-at-held t c =
    let a = c.args in
    sym (come_none _ a.buffer.now a.held a.at _ _ c.if-at-held.true (sym c.may_rest.ensures ∙ c.if-may_rest.false))

pub can_rest-can_rest-requires : goal.can_rest-can_rest-requires
unfolding step
can_rest-can_rest-requires t c =
    let a = c.args in
    let p = c.requires.0 in
    let e : c.from-e.result < a.m = omega (arith, p.events a.at (omega arith)) in
    (omega arith, (p, omega arith, rw c.step-t.ensures (p.steps a.q c.from-e.result (omega arith) e)))

pub can_rest-returns : goal.can_rest-returns
unfolding step
can_rest-returns t c =
    let a = c.args in
    c.can_rest.ensures ∙
    rw (c.step-t.ensures, c.from-e.ensures)
    (sym (come_released _ a.buffer.now a.held a.at _ _ (omega arith) (omega arith) (sym c.may_rest.ensures ∙ c.if-may_rest.false)))

pub may_rest-returns-then-accepting-q-ne1 : goal.may_rest-returns-then-accepting-q-ne1
unfolding accepts
may_rest-returns-then-accepting-q-ne1 t c = sym (rest_not _ _ _ _ (ne_eqb _ _ c.if-accepting-q-ne1.true))

pub may_rest-returns-then-rounds-eq0 : goal.may_rest-returns-then-rounds-eq0
unfolding accepts
may_rest-returns-then-rounds-eq0 t c = sym (rest_last _ _ _ _ c.if-rounds-eq0.true (eq-eqb (get_or c.args.accepting.now c.args.q 0) 1 (omega arith)))

pub may_rest-loop-e-init : goal.may_rest-loop-e-init
unfolding each
may_rest-loop-e-init t c = refl

pub may_rest-can_rest-requires : goal.may_rest-can_rest-requires
unfolding step
may_rest-can_rest-requires t c =
    let p = c.requires.0 in
    (omega arith, (p, omega arith, rw c.step-t.ensures (p.steps c.args.q c.loop-e.e (omega arith) (omega arith))))

pub may_rest-returns-then-not-can_rest : goal.may_rest-returns-then-not-can_rest
unfolding accepts controllable step
may_rest-returns-then-not-can_rest t c =
    sym (rest_on _ _ _ _ c.if-rounds-eq0.false (eq-eqb (get_or c.args.accepting.now c.args.q 0) 1 (omega arith)) ∙
    each_false _ _ c.loop-e.e c.loop-e-test.true
    (turn-out _ _ _ _ c.loop-e.e _ c.step-t.ensures (ne_eqb _ _ c.if-classes-e-ne1.true) (sym c.can_rest.ensures ∙ c.if-not-can_rest.true)))

pub may_rest-loop-e-preserved : goal.may_rest-loop-e-preserved
unfolding controllable step
may_rest-loop-e-preserved t c =
    let l = c.loop-e in
    each_more l.e _ ∙
    and_both l.invariant
    (elim c.if-classes-e-ne1.branch [
      | may_rest-then-classes-e-ne1+else-not-can_rest w ↦ turn_in _ _ _ _ l.e _ w.step-t.ensures (sym w.can_rest.ensures ∙ w.if-not-can_rest.false)
      | may_rest-else-classes-e-ne1 w ↦ or_left _ (eq-eqb _ _ w.if-classes-e-ne1.false)
    ])

pub may_rest-returns : goal.may_rest-returns
unfolding accepts
may_rest-returns t c =
    let e : c.loop-e.e ≡ c.args.m = omega arith in
    sym (rest_on _ _ _ _ c.if-rounds-eq0.false (eq-eqb (get_or c.args.accepting.now c.args.q 0) 1 (omega arith)) ∙ (rw e at c.loop-e.invariant))
