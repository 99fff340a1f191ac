use Rattle.clients.proofs.Receiving.{receive-absent, receive_present}
use Rattle.clients.proofs.receive.Goals as goal

pub returns-then-configurations-at : goal.returns-then-configurations-at
returns-then-configurations-at c =
    let x = c.args in
    receive-absent x.a.now x.table.now x.configurations.now x.client x.event c.if-configurations-at.true _ c.absent.ensures

pub returns : goal.returns
returns c =
    let x = c.args in
    receive_present x.a.now x.table.now x.configurations.now x.client x.event c.if-configurations-at.false
    _ _ c.present-after.ensures _ c.answer_of.ensures
