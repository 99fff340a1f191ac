use mathlib.Core.Path.{◌≡◌}
use lib.ListN.{length, take}
use Rattle.monitor_rule.proofs.Numbers.{Reading}
use Rattle.monitor_release.proofs.winning_sets.Given as goal

abbrev pub invariant-loop-i : goal.invariant-loop-i
invariant-loop-i l =
    (length (take l.held l.buffer) ≡ l.held) × Reading l.table l.ranks l.k (take l.held l.buffer) l.winning l.index l.weight l.i
