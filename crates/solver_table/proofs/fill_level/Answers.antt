use Rattle.solver_table.proofs.Levels.{level_none, level_room, level_same, level_more, level_fits}
use Rattle.solver_table.proofs.Filling.{sets-few, symbol-few}
use Rattle.solver_table.specs.Levels.{sets_from, level_of}
use lib.ListN.{length}
use Prim.Native.Nat.{ℕ, ◌+◌, ◌≤◌}
use mathlib.Core.Path.{◌≡◌}
use native.Mathlib.Omega.{arith}
use borrow.Author.Rules.{rules}
use Rattle.solver_table.proofs.fill_level.Goals as goal
use Rattle.solver_table.proofs.fill_level.Goals.{Then-classes-e-eq1, else-classes-e-eq1, then-classes-e-eq1}

-- those of one symbol more have room in the level
room : (c : Then-classes-e-eq1) → let a = c.args in
    let level = λ (e : ℕ). level_of (sets_from a.next.now a.free.now a.n a.u a.accepting) a.classes.now e a.table.now a.from a.count in
    length (level c.loop-e.e) + a.count ≤ length (level a.m)
room c =
    let a = c.args in
    level_room (sets_from a.next.now a.free.now a.n a.u a.accepting) a.classes.now a.table.now a.from a.count c.loop-e.e a.m
    (omega arith) c.if-classes-e-eq1.true

pub loop-e-init : goal.loop-e-init
loop-e-init c = level_none _ _ _ _ _

pub fill_symbol-more-requires : goal.fill_symbol-more-requires
fill_symbol-more-requires c =
    let fits = room (goal.at.fill_symbol-more-requires c).Then-classes-e-eq1 in
    let p = c.requires in
    let v = c.loop-e.invariant in
    (p.0, p.1, p.2, omega arith, omega (arith, v.place), omega (arith, v.place, v.same, p.5, fits), omega arith)

pub overflow_add-rounds : goal.overflow_add-rounds
overflow_add-rounds c =
    let a = c.args in
    let few = sets-few a.next.now a.free.now a.n a.u a.accepting c.requires.0.states c.requires.1 in
    let e = c.loop-e.e in
    let more = symbol-few (sets_from a.next.now a.free.now a.n a.u a.accepting e) (few e) c.loop-e.table a.from a.count in
    omega (arith, level_fits _ _ _ _ _ _ _ _ _ c.loop-e.invariant few (omega arith), c.fill_symbol-more.ensures.1)

pub overflow_add-at-then-classes-e-eq1 : goal.overflow_add-at-then-classes-e-eq1
overflow_add-at-then-classes-e-eq1 c =
    let fits = room (goal.at.overflow_add-at-then-classes-e-eq1 c).Then-classes-e-eq1 in
    omega (arith, c.loop-e.invariant.place, c.requires.5, fits)

pub loop-e-preserved : goal.loop-e-preserved
loop-e-preserved c =
    let v = c.loop-e.invariant in
    elim c.if-classes-e-eq1.branch [
      | then-classes-e-eq1 w ↦
          rw (w.table-is, w.at-is, w.rounds-is)
          (level_more _ _ _ _ _ _ _ _ _ v w.if-classes-e-eq1.true _ _ (search rules)
          w.fill_symbol-more.ensures.0 w.fill_symbol-more.ensures.1)
      | else-classes-e-eq1 w ↦
          rw (w.table-is, w.at-is, w.rounds-is) (level_same _ _ _ _ _ _ _ _ _ v w.if-classes-e-eq1.false)
    ]

pub shape_of-table : goal.shape_of-table
shape_of-table c = c.loop-e.invariant.same

pub returns : goal.returns
returns c =
    let o = c.loop-e in
    let e : o.e ≡ c.args.m = omega arith in
    (rw e at o.invariant.written, rw e at o.invariant.summed)
