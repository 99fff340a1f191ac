use Prim.Native.Nat.{◌-◌, ◌*◌, ◌≤◌}
use mathlib.Core.Path.{◌≡◌, ◌∙◌, sym, ap}
use native.Mathlib.Nat.{mul-le-mul}
use native.Mathlib.Omega.{arith}
use lib.ListN.{length, get_or, take}
use lib.Seq.{length-take-le, get_or-take}
use borrow.Author.Rules.{rules}
use Rattle.monitor_rule.proofs.Numbers.{reading_begins, reading-goes_on, reading-done, index_grown, index-drop, weight_bound, index_bound, grown_bound}
use Rattle.monitor_release.proofs.winning_sets.Goals as goal

rank-low : (c : goal.After-from-in-loop-i) → c.from-in-loop-i.result ≤ 8
rank-low c = omega (arith, c.from-in-loop-i.ensures, c.requires.2 c.from.result)

-- the number so far, and what it grows by
low : (c : goal.After-from-in-loop-i) → c.loop-i.index ≤ 524288
low c = let few : length (take c.args.held c.args.buffer) ≤ 6 = omega (arith, c.loop-i.invariant.0, c.requires.0) in
    let p = c.requires in index_bound _ _ _ _ c.loop-i.invariant.1 p.2 p.1 (few)

grown : (c : goal.After-from-in-loop-i) → c.from-in-loop-i.result * c.loop-i.weight ≤ 2097152
grown c = let few : length (take c.args.held c.args.buffer) ≤ 6 = omega (arith, c.loop-i.invariant.0, c.requires.0) in
    let p = c.requires in grown_bound _ _ _ _ c.loop-i.invariant.1 p.2 p.1 (few) _ (rank-low c)

pub loop-i-init : goal.loop-i-init
loop-i-init c =
    let a = c.args in
    let p = c.requires in
    let long : length a.buffer ≡ 6 = search rules in
    let e = length-take-le a.held a.buffer (omega (arith, p.0)) in
    (e, rw p.5 (reading_begins _ _ _ _ _ e (omega (arith, p.0))))

pub overflow_mul-index : goal.overflow_mul-index
overflow_mul-index c = omega (arith, grown c)

pub overflow_add-index : goal.overflow_add-index
overflow_add-index c = omega (arith, grown c, low c)

pub overflow_mul-weight : goal.overflow_mul-weight
overflow_mul-weight c = let few : length (take c.args.held c.args.buffer) ≤ 6 = omega (arith, c.loop-i.invariant.0, c.requires.0) in
    let p = c.requires in
    let m : c.loop-i.weight * c.args.k ≤ 262144 * 8 = mul-le-mul (weight_bound _ _ _ _ c.loop-i.invariant.1 p.2 p.1 (few)) p.1 in
    omega (arith, m)

pub bounds-table-index : goal.bounds-table-index
bounds-table-index c =
    let a = c.args in
    let smaller = index-drop a.ranks.now a.k (take a.held a.buffer) (c.loop-i.i - 1) in
    let event : c.from.result ≡ get_or (take a.held a.buffer) (c.loop-i.i - 1) 0 =
    c.from.ensures ∙ sym (get_or-take a.held a.buffer (c.loop-i.i - 1) 0 (omega (arith, c.loop-i.auto.i))) in
    let number = index_grown _ _ _ _ c.loop-i.invariant.1 c.from.result (omega arith) event in
    rw (c.from-in-loop-i.ensures, number) (omega (arith, smaller, c.requires.4))

pub loop-i-preserved : goal.loop-i-preserved
loop-i-preserved c =
    let a = c.args in
    let v = c.loop-i.invariant in
    let event : c.from.result ≡ get_or (take a.held a.buffer) (c.loop-i.i - 1) 0 =
    c.from.ensures ∙ sym (get_or-take a.held a.buffer (c.loop-i.i - 1) 0 (omega (arith, c.loop-i.auto.i))) in
    let number = index_grown _ _ _ _ c.loop-i.invariant.1 c.from.result (omega arith) event in
    let read = ap (λ i. get_or a.table.now (2 * i) 0) number in
    (v.0, rw c.from-in-loop-i.ensures (reading-goes_on _ _ _ _ v.1 _ (omega arith) event _ read))

pub returns : goal.returns
returns c = reading-done c.loop-i.invariant.1 (omega arith)
