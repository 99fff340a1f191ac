use Prim.Native.Nat.{◌+◌, ◌*◌, ◌<◌}
use mathlib.Core.Path.{◌≡◌, ◌∙◌}
use mathlib.Core.List.{[]}
use native.Mathlib.Omega.{arith}
use lib.ListN.{length, take}
use lib.Seq.{length-take-le}
use borrow.Author.Rules.{rules}
use Rattle.monitor_rule.specs.Fronts.{rest_among, over}
use Rattle.monitor_rule.proofs.Searching.{Searching, searching_begins, searching_room, searching_asks, searching_goes_on, searching_done, next-state, rest-among}
use Rattle.monitor_release.proofs.search.Goals as goal

pub loop-r-init : goal.loop-r-init
loop-r-init c =
    let n : length c.args.buffer ≡ 6 = search rules in
    let long = length-take-le c.args.held c.args.buffer (omega (arith, c.requires.0)) in
    (omega arith, c.requires.1, long, rw c.requires.4 (searching_begins _ _ _ _))

pub keep-found-requires : goal.keep-found-requires
keep-found-requires c =
    (searching_room _ _ _ _ c.loop-r.invariant.3 (omega (arith, c.loop-r.invariant.2, c.requires.0)), omega (arith, c.loop-r.invariant.0, c.requires.0))

pub bounds-next-p : goal.bounds-next-p
bounds-next-p c =
    omega (arith, c.from.ensures, c.requires.3 c.loop-r.r, c.loop-r.invariant.1)

pub loop-r-preserved : goal.loop-r-preserved
loop-r-preserved c = let asked : let a = c.args in
    Searching (rest_among a.winning.now a.held) (over [] a.next.now) a.q (take a.held a.buffer)
    c.keep-found.new.lengths c.keep-found.result c.loop-r.p c.loop-r.r (c.loop-r.r + 1) = let v = c.loop-r.invariant in
    let a = c.args in
    searching_asks _ _ _ _ v.3 (omega (arith, c.loop-r.invariant.2, c.requires.0)) _
    (c.has.ensures ∙ rest-among a.winning.now a.held (take a.held a.buffer) v.2 c.loop-r.r v.0 c.loop-r.p)
    _ c.keep-found.ensures.0 _ c.keep-found.ensures.1 in
    let a = c.args in
    let v = c.loop-r.invariant in
    let m = c.from in
    let h : c.loop-r.r < a.held = omega (arith, v.0) in (
      omega arith,
      omega (arith, c.from-p.ensures, c.requires.2 (c.loop-r.p * 16 + m.result)),
      v.2,
      searching_goes_on _ _ _ _ (asked) (omega (arith, v.2)) _ (next-state [] a.next.now a.buffer a.held c.loop-r.p c.loop-r.r _ _ h m.ensures c.from-p.ensures),
    )

pub returns : goal.returns
returns c = let asked : let a = c.args in
    Searching (rest_among a.winning.now a.held) (over [] a.next.now) a.q (take a.held a.buffer)
    c.keep-found.new.lengths c.keep-found.result c.loop-r.p c.loop-r.r (c.loop-r.r + 1) = let v = c.loop-r.invariant in
    let a = c.args in
    searching_asks _ _ _ _ v.3 (omega (arith, c.loop-r.invariant.2, c.requires.0)) _
    (c.has.ensures ∙ rest-among a.winning.now a.held (take a.held a.buffer) v.2 c.loop-r.r v.0 c.loop-r.p)
    _ c.keep-found.ensures.0 _ c.keep-found.ensures.1 in
    let v = c.loop-r.invariant in
    searching_done _ _ _ _ (asked) (omega (arith, v.2))
