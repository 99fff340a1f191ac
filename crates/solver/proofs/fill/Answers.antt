use Rattle.automaton.proofs.Facts.{valid_facts}
use Rattle.solver.proofs.Lengths.{Lent, lent_of, lent-small, lent-settled, some-buffer, begun, begun-length, begun-later}
use Rattle.solver.proofs.Lengths.{Lengthening, length_none, length-small, length-place, length-next, length-room, length_more, length-fits, length-all}
use Rattle.solver_sets.specs.Table.{table as table_of}
use lib.ListN.{length as len, length-set}
use Prim.Native.Nat.{ℕ, ◌+◌, ◌*◌, ◌≤◌}
use mathlib.Core.List.{List, ◌++◌}
use mathlib.Core.Path.{◌∙◌, ap}
use native.Mathlib.Omega.{arith}
use borrow.Author.Rules.{rules}
use Rattle.solver.proofs.fill.Goals as goal
use Rattle.solver.proofs.fill.Goals.{After-settle-empty}

-- the table where the loop begins
abbrev begun-with : (c : After-settle-empty) → List ℕ
begun-with c = begun c.args.a.now c.args.table.now c.settle-empty.result

-- there are places for the empty buffer
places : (c : After-settle-empty) → 2 ≤ len c.args.table.now
places c = omega (arith, c.requires.1, some-buffer c.args.a.now)

pub controllable_in-k-requires : goal.controllable_in-k-requires
controllable_in-k-requires c =
    omega (arith, c.from-m.ensures, (valid_facts _ c.requires.0).symbols-high)

pub accepting_states-accepting-requires : goal.accepting_states-accepting-requires
accepting_states-accepting-requires c =
    omega (arith, c.from-n.ensures, (valid_facts _ c.requires.0).states-high)

pub uncontrollable-free-requires : goal.uncontrollable-free-requires
uncontrollable-free-requires c =
    omega (arith, c.from-m.ensures, (valid_facts _ c.requires.0).symbols-high)

pub settle-empty-requires : goal.settle-empty-requires
settle-empty-requires c = let lent : Lent c.args.a.now c.from-n.result c.from-m.result c.from-capacity.result
    c.controllable_in-k.result c.accepting_states-accepting.result c.uncontrollable-free.result = lent_of _ _ _ _ _ _ _ c.requires.0 c.from-n.ensures c.from-m.ensures c.from-capacity.ensures
    c.controllable_in-k.ensures c.accepting_states-accepting.ensures c.uncontrollable-free.ensures in
    let l = lent in
    (l.fits, lent-small _ _ _ _ _ _ _ l)

pub bounds-table-0 : goal.bounds-table-0
bounds-table-0 c = omega (arith, places c)

pub bounds-table-1 : goal.bounds-table-1
bounds-table-1 c = simp length-set (omega (arith, places c))

pub loop-length-init : goal.loop-length-init
loop-length-init c = let lent : Lent c.args.a.now c.from-n.result c.from-m.result c.from-capacity.result
    c.controllable_in-k.result c.accepting_states-accepting.result c.uncontrollable-free.result = lent_of _ _ _ _ _ _ _ c.requires.0 c.from-n.ensures c.from-m.ensures c.from-capacity.ensures
    c.controllable_in-k.ensures c.accepting_states-accepting.ensures c.uncontrollable-free.ensures in
    let l = lent in
    let r = c.settle-empty.result in (
      rw (begun-length c.args.a.now c.args.table.now r) c.requires.1,
      l,
      length_none c.args.a.now c.args.table.now r (c.settle-empty.ensures ∙ lent-settled _ _ _ _ _ _ _ l),
    )

pub fill_level-more-requires : goal.fill_level-more-requires
fill_level-more-requires c =
    let h = c.loop-length-test.true in
    let v = c.loop-length.invariant in (
      v.1.fits,
      lent-small _ _ _ _ _ _ _ v.1,
      c.settle-empty.ensures,
      omega (arith, v.1.symbols, v.1.facts.symbols-high),
      length-small _ _ _ _ _ _ _ v.1 _ v.0 _ _ _ _ _ v.2 h,
      length-room _ _ _ _ _ _ _ v.1 _ v.0 _ _ _ _ _ v.2 h,
    )

pub overflow_add-rounds : goal.overflow_add-rounds
overflow_add-rounds c = let longer : let written : List ℕ = c.fill_level-more.new.table in
    let v = c.loop-length in
    Lengthening c.args.a.now (begun-with (goal.at.overflow_add-rounds c).After-settle-empty) (v._length + 1) (written)
    (v.from + 2 * v.count) (v.count * c.controllable_in-k.result) (v.rounds + c.fill_level-more.result) = let v = c.loop-length.invariant in
    length_more _ _ _ _ _ _ _ v.1 _ v.0 _ _ _ _ _ v.2 c.loop-length-test.true _ _ (search rules) c.fill_level-more.ensures.0 c.fill_level-more.ensures.1 in
    let v = c.loop-length.invariant in
    omega (arith, length-fits _ _ _ _ _ _ _ v.1 _ v.0 _ _ _ _ _ (longer) (omega arith))

pub overflow_mul-from : goal.overflow_mul-from
overflow_mul-from c =
    let v = c.loop-length.invariant in
    omega (arith, length-small _ _ _ _ _ _ _ v.1 _ v.0 _ _ _ _ _ v.2 c.loop-length-test.true)

pub overflow_add-from : goal.overflow_add-from
overflow_add-from c =
    let v = c.loop-length.invariant in
    omega (arith, length-place _ _ _ _ _ _ _ v.1 _ v.0 _ _ _ _ _ v.2 c.loop-length-test.true)

pub overflow_mul-count : goal.overflow_mul-count
overflow_mul-count c =
    let v = c.loop-length.invariant in
    omega (arith, length-next _ _ _ _ _ _ _ v.1 _ v.0 _ _ _ _ _ v.2 c.loop-length-test.true)

pub loop-length-preserved : goal.loop-length-preserved
loop-length-preserved c = let longer : let written : List ℕ = c.fill_level-more.new.table in
    let v = c.loop-length in
    Lengthening c.args.a.now (begun-with (goal.at.loop-length-preserved c).After-settle-empty) (v._length + 1) (written)
    (v.from + 2 * v.count) (v.count * c.controllable_in-k.result) (v.rounds + c.fill_level-more.result) = let v = c.loop-length.invariant in
    length_more _ _ _ _ _ _ _ v.1 _ v.0 _ _ _ _ _ v.2 c.loop-length-test.true _ _ (search rules) c.fill_level-more.ensures.0 c.fill_level-more.ensures.1 in
    let v = c.loop-length.invariant in
    (v.0, v.1, longer)

pub shape_of-table : goal.shape_of-table
shape_of-table c =
    c.loop-length.invariant.2.same ∙ begun-length c.args.a.now c.args.table.now c.settle-empty.result

pub returns : goal.returns
returns c =
    let v = c.loop-length.invariant in
    let a = c.args in
    let r = length-all _ _ _ _ _ _ _ v.1 _ v.0 _ _ _ _ _ v.2 (omega arith) in
    (r.0 ∙ ap (λ l. table_of a.a.now ++ l) (begun-later a.a.now a.table.now c.settle-empty.result), r.1)
