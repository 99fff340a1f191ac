use Prim.Native.Nat.{◌-◌, ◌<◌, ◌≤◌}
use mathlib.Core.Path.{◌≡◌}
use mathlib.Core.List.{[]}
use lib.ListN.{length, take}
use Rattle.monitor_rule.specs.Fronts.{rest_among, over}
use Rattle.monitor_rule.proofs.Searching.{Searching}
use Rattle.monitor_release.proofs.search.Given as goal

abbrev pub invariant-loop-r : goal.invariant-loop-r
invariant-loop-r l =
    (l.r ≤ l.held) × (l.p < 32) × (length (take l.held l.buffer) ≡ l.held) ×
    Searching (rest_among l.winning l.held) (over [] l.next) l.q (take l.held l.buffer) l.lengths l.found l.p l.r l.r

abbrev pub decreases-loop-r : goal.decreases-loop-r
decreases-loop-r l = l.held - l.r
