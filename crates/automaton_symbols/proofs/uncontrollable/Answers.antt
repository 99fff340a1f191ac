use Rattle.automaton_symbols.proofs.Free.{free-not, free-is, free_all}
use Rattle.base.proofs.Picking.{picked_room, picked_more, picked_same}
use Rattle.base.specs.Each.{those}
use Rattle.base.specs.Pad.{pad}
use mathlib.Core.Path.{refl}
use native.Mathlib.Omega.{arith}
use Rattle.automaton_symbols.proofs.uncontrollable.Goals as goal
use Rattle.automaton_symbols.proofs.uncontrollable.Goals.{then-classes-e-ne1, else-classes-e-ne1}

pub loop-e-init : goal.loop-e-init
unfolding those pad
loop-e-init c = record { stored = refl; counted = refl }

pub bounds-list-count : goal.bounds-list-count
bounds-list-count c = omega (arith, picked_room c.loop-e.invariant)

pub overflow_add-count : goal.overflow_add-count
overflow_add-count c = omega (arith, picked_room c.loop-e.invariant)

pub loop-e-preserved : goal.loop-e-preserved
loop-e-preserved c =
    let v = c.loop-e.invariant in
    elim c.if-classes-e-ne1.branch [
      | then-classes-e-ne1 w ↦
          rw (w.list-is, w.count-is) (picked_more v (omega arith) (free-is c.args.classes.now c.loop-e.e w.if-classes-e-ne1.true))
      | else-classes-e-ne1 w ↦
          rw (w.list-is, w.count-is) (picked_same v (free-not c.args.classes.now c.loop-e.e w.if-classes-e-ne1.false))
    ]

pub returns : goal.returns
returns c = free_all _ _ _ _ c.loop-e.invariant _ (omega arith)
