use mathlib.Core.Path.{◌∙◌}
use native.Mathlib.Omega.{arith}
use lib.ListN.{take}
use Rattle.monitor_rule.proofs.Numbers.{winning-set}
use Rattle.monitor_release.proofs.rests.Goals as goal

pub returns : goal.returns
returns c =
    c.has.ensures ∙ winning-set _ _ _ (take c.args.held c.args.buffer) _ c.winning_sets.ensures 0 (omega arith) _
