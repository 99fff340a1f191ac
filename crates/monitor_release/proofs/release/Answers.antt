use Prim.Native.Nat.{◌≤◌}
use mathlib.Core.Path.{◌≡◌, sym}
use native.Mathlib.Omega.{arith}
use lib.ListN.{length}
use lib.Seq.{length-take-le}
use Rattle.monitor_rule.proofs.Searching.{search_fits, search_releases}
use borrow.Author.Rules.{rules}
use Rattle.monitor_release.proofs.release.Goals as goal

-- the array has seven places, and no more are listed
fits : (c : goal.After-lengths-2-1) → let l = c.qualifying-found.new.lengths in
    (length l ≡ 7) × (c.qualifying-found.result.listed ≤ length l)
fits c =
    let n : length c.args.buffer ≡ 6 = search rules in
    let many = length-take-le c.args.held c.args.buffer (omega (arith, c.requires.few)) in
    let e = c.qualifying-found.ensures in
    search_fits _ _ _ _ (omega (arith, many, c.requires.few)) _ e.0 _ e.1

pub slice_bounds-longest-end : goal.slice_bounds-longest-end
slice_bounds-longest-end c = sym (fits c).0

pub longest-requires : goal.longest-requires
longest-requires c = (fits c).1

pub returns : goal.returns
returns c =
    let e = c.qualifying-found.ensures in
    search_releases _ _ _ _ _ e.0 _ e.1 _ c.longest.ensures
