use Rattle.std.proofs.Common.{◌-◌, refl}
use Rattle.streams.specs.Transfers.{Moved}
use Rattle.streams.proofs.Passing.{appended_none, write-appended}
use Rattle.streams.proofs.Transfers.{stands-begun, made-begun, lent-length, write-moved, stands_after, less_after, made_after}
use Rattle.streams.proofs.write_all.Goals as goal
use Rattle.streams.proofs.write_all.Goals.{After-after-t}

pub loop-t-init : goal.loop-t-init
loop-t-init g c = record {
  stands = rw c.begun-t.ensures (stands-begun _);
  made = rw c.begun-t.ensures (made-begun _);
  passed = rw c.begun-t.ensures (appended_none _);
}

answered : (g : _) (c : After-after-t g) → Moved (c.loop-t.t.size - c.loop-t.t.count) c.write-answer.result
answered g c =
    let i = c.loop-t.invariant.stands in
    write-moved i _ (lent-length _ refl i) _ c.write-answer.ensures.bound

pub loop-t-smaller : goal.loop-t-smaller
loop-t-smaller g c = rw c.after-t.ensures (less_after c.loop-t.invariant.stands c.loop-t-test.true _ (answered g c))

pub loop-t-preserved : goal.loop-t-preserved
loop-t-preserved g c = record {
  stands = rw c.after-t.ensures (stands_after c.loop-t.invariant.stands c.loop-t-test.true _ (answered g c));
  made = rw c.after-t.ensures (made_after c.loop-t.invariant.made _);
  passed = rw c.after-t.ensures (write-appended _ _ _ _ _ c.loop-t.invariant.passed _ c.write-answer.ensures.bytes);
}
