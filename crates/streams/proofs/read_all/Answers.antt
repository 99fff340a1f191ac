use Rattle.std.proofs.Common.{◌≡◌, ◌-◌, ◌∙◌, length}
use Rattle.streams.specs.Transfers.{Moved}
use Rattle.streams.proofs.Passing.{consumed_none, ended-begun, read-consumed, read-ended}
use Rattle.streams.proofs.Transfers.{stands-begun, made-begun, lent-length, read-moved, stands_after, less_after, made_after}
use Rattle.streams.proofs.read_all.Goals as goal
use Rattle.streams.proofs.read_all.Goals.{After-after-t}

pub loop-t-init : goal.loop-t-init
loop-t-init g c = record {
  stands = rw c.begun-t.ensures (stands-begun _);
  made = rw c.begun-t.ensures (made-begun _);
  taken = rw c.begun-t.ensures (consumed_none _);
  ended = rw c.begun-t.ensures (ended-begun _ _);
}

lent : (g : _) (c : After-after-t g) → length c.read-answer.new.buf ≡ length c.args.buf.now - c.loop-t.t.count
lent g c = c.read-answer.auto.buf ∙ lent-length _ c.loop-t.auto.buf c.loop-t.invariant.stands

answered : (g : _) (c : After-after-t g) → Moved (c.loop-t.t.size - c.loop-t.t.count) c.read-answer.result
answered g c = read-moved c.loop-t.invariant.stands _ (lent g c) _ c.read-answer.ensures.bound

pub loop-t-smaller : goal.loop-t-smaller
loop-t-smaller g c = rw c.after-t.ensures (less_after c.loop-t.invariant.stands c.loop-t-test.true _ (answered g c))

pub loop-t-preserved : goal.loop-t-preserved
loop-t-preserved g c = record {
  stands = rw c.after-t.ensures (stands_after c.loop-t.invariant.stands c.loop-t-test.true _ (answered g c));
  made = rw c.after-t.ensures (made_after c.loop-t.invariant.made _);
  taken =
      let i = c.loop-t.invariant in
      rw c.after-t.ensures (read-consumed i.stands _ _ _ _ _ _ c.loop-t.auto.buf i.taken _ c.read-answer.ensures.bound c.read-answer.ensures.bytes);
  ended = rw c.after-t.ensures (read-ended c.loop-t.invariant.stands c.loop-t-test.true _ _ _ (lent g c) _ c.read-answer.ensures.bound c.read-answer.ensures.bytes);
}
