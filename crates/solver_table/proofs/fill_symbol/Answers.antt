use Rattle.solver_table.proofs.Filling.{sets-few, sets-none, Known, known-new, known_old, fill_none, fill_more, fill_fits}
use Rattle.solver_table.specs.Levels.{sets_from}
use lib.Bits.{bit_or}
use lib.ListN.{get_or, length-set}
use Prim.Native.Nat.{◌+◌, ◌*◌}
use mathlib.Core.Path.{◌≡◌}
use native.Mathlib.Omega.{arith}
use Rattle.solver_table.proofs.fill_symbol.Goals as goal
use Rattle.solver_table.proofs.fill_symbol.Goals.{Joined-goal-known, else-goal-known, then-goal-known}

-- what is written in this turn
known : (c : goal.Joined-goal-known) → let a = c.args in
    let t = c.loop-j.table in
    let i = a.from + 2 * c.loop-j.j in
    Known (sets_from a.next.now a.free.now a.n a.u a.accepting a.symbol) (bit_or (get_or t i 0) (get_or t (i + 1) 0)) c.if-goal-known.known c.if-goal-known.last
known c =
    (elim c.if-goal-known.branch [ then-goal-known w ↦ known-new _ _ _ _ _ w.known-is w.last-is w.sets_from-sets.ensures | else-goal-known w ↦ known_old _ _ _ _ _ _ w.if-goal-known.false c.loop-j.invariant.remembered w.known-is w.last-is ])

pub loop-j-init : goal.loop-j-init
loop-j-init c = fill_none _ _ _ _ _ _ (sets-none _ _ _ _ _ _ _ c.requires.2)

pub bounds-table-i : goal.bounds-table-i
bounds-table-i c = omega arith

pub bounds-table-i-in-loop-j : goal.bounds-table-i-in-loop-j
bounds-table-i-in-loop-j c = omega arith

pub bounds-table-o : goal.bounds-table-o
bounds-table-o c = omega arith

pub bounds-table-o-in-loop-j : goal.bounds-table-o-in-loop-j
bounds-table-o-in-loop-j c = simp length-set (omega arith)

pub overflow_add-rounds : goal.overflow_add-rounds
overflow_add-rounds c =
    omega (arith, fill_fits _ _ _ _ _ _ _ _ _ c.loop-j.invariant (omega arith) _ _ (known (goal.at.overflow_add-rounds c).Joined-goal-known) (sets-few _ _ _ _ _ c.requires.0.states c.requires.1 c.args.symbol))

pub loop-j-preserved : goal.loop-j-preserved
loop-j-preserved c = fill_more _ _ _ _ _ _ _ _ _ c.loop-j.invariant (omega arith) _ _ (known (goal.at.loop-j-preserved c).Joined-goal-known)

pub shape_of-table : goal.shape_of-table
shape_of-table c = c.loop-j.invariant.same

pub returns : goal.returns
returns c =
    let o = c.loop-j in
    let e : o.j ≡ c.args.count = omega arith in
    (rw e at o.invariant.written, rw e at o.invariant.summed)
