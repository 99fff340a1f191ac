use Rattle.clients_day.proofs.Processing.{stand_begins, take_asks, stand_taken, stand_passed, stand_out, stand_ends}
use Rattle.clients_day.proofs.process.Goals as goal
use Rattle.clients_day.proofs.process.Goals.{then-at-configurations+then-after-eq0, then-at-configurations+else-after-eq0, else-at-configurations}

pub loop-number-init : goal.loop-number-init
loop-number-init c = stand_begins _ _ _ _ _ _ _ _ c.requires

pub take-after-requires : goal.take-after-requires
take-after-requires c =
    take_asks _ _ _ _ _ _ _ _ _ _ _ _ _ c.loop-number.invariant c.loop-number-test.true _ c.split-event.ensures c.if-at-configurations.true _

pub loop-number-preserved : goal.loop-number-preserved
loop-number-preserved c =
    let so_far = c.loop-number.invariant in
    let here = c.loop-number-test.true in
    let read = c.split-event.ensures in
    elim c.if-at-configurations.branch [
      | then-at-configurations+then-after-eq0 w ↦
          rw (w.configurations-is, w.out-is, w.written-is, w.refused-is)
          (stand_taken _ _ _ _ _ _ _ _ _ _ _ _ _ so_far here _ read w.if-at-configurations.true
          _ _ _ w.take-after.ensures w.take-after.auto.out w.if-after-eq0.true)
      | then-at-configurations+else-after-eq0 w ↦
          rw (w.configurations-is, w.out-is, w.written-is, w.refused-is)
          (stand_passed _ _ _ _ _ _ _ _ _ _ _ _ _ so_far here _ read w.if-at-configurations.true
          _ _ _ w.take-after.ensures w.take-after.auto.out w.if-after-eq0.false)
      | else-at-configurations w ↦
          rw (w.configurations-is, w.out-is, w.written-is, w.refused-is)
          (stand_out _ _ _ _ _ _ _ _ _ _ _ _ _ so_far here _ read w.if-at-configurations.false)
    ]

pub returns : goal.returns
returns c = stand_ends _ _ _ _ _ _ _ _ _ _ _ _ _ c.loop-number.invariant c.loop-number-test.false
