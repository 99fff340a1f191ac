use Rattle.std.proofs.Common.{◌∙◌, sym, arith}
use Rattle.clients_day.proofs.Holding.{held_more, held_end, marks_more, marks_end}
use Rattle.clients_day.proofs.held_in_all.Goals as goal

pub overflow_add-sum : goal.overflow_add-sum
overflow_add-sum c = omega (arith, c.held_in-sum.ensures.2, c.requires)

pub loop-i-preserved : goal.loop-i-preserved
loop-i-preserved c =
    let x = c.args in
    let cs = x.configurations.now in
    let i = c.loop-i.i in
    let so = c.loop-i.invariant in
    record {
      so_far = held_more x.limits x.classes.now cs i _ c.loop-i.sum _ _ c.loop-i-test.true c.held_in-sum.ensures.0 so.so_far;
      small = omega (arith, c.held_in-sum.ensures.2);
      stored = marks_more x.limits x.classes.now c.loop-i.marks cs i _ _ _ c.loop-i-test.true c.held_in-sum.ensures.1 so.stored;
    }

pub returns : goal.returns
returns c =
    let x = c.args in
    let cs = x.configurations.now in
    let i = c.loop-i.i in (
      omega (arith, held_end x.limits x.classes.now cs i c.loop-i-test.false),
      sym (marks_end x.limits x.classes.now c.loop-i.marks cs i c.loop-i-test.false) ∙ c.loop-i.invariant.stored,
    )
