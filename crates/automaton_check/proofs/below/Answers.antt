use Rattle.std.proofs.Common.{◌≤◌, ◌<◌, ◌+◌, refl, ◌∙◌, get_or, zero-add}
use Rattle.base.specs.Each.{each}
use Rattle.automaton.proofs.Checks.{below_falls, below_keeps}
use Rattle.automaton.specs.Arrays.{below_from}
use Rattle.automaton_check.proofs.below.Goals as goal
use Rattle.automaton_check.proofs.below.Goals.{else-limit-v, then-limit-v}

pub loop-v-init : goal.loop-v-init
unfolding below_from each
loop-v-init c = refl

pub loop-v-preserved : goal.loop-v-preserved
loop-v-preserved c =
    let i = c.loop-v.v-index in
    elim c.if-limit-v.branch [
      | then-limit-v w ↦
          let h : c.args.limit ≤ get_or c.args.list.now (0 + i) 0 = rw (zero-add i) w.if-limit-v.true in
          w.fine-is ∙ below_falls _ _ _ _ _ c.loop-v.invariant h
      | else-limit-v w ↦
          let h : get_or c.args.list.now (0 + i) 0 < c.args.limit = rw (zero-add i) w.if-limit-v.false in
          w.fine-is ∙ below_keeps _ _ _ _ _ c.loop-v.invariant h
    ]
