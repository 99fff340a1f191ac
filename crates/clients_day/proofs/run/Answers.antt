use Rattle.clients_day.proofs.Running.{unmarked, run-refused, run-few, run_short, run_asks, run-answers}
use Rattle.clients_day.proofs.run.Goals as goal

pub returns-then-entry-ne0 : goal.returns-then-entry-ne0
returns-then-entry-ne0 c =
    let x = c.args in
    run-refused x.a.now x.table.now x.configurations.now x.events.now x.out.now _ c.enter_list-entry.ensures c.if-entry-ne0.true _ c.refused_run.ensures

pub held_in_all-held-requires : goal.held_in_all-held-requires
held_in_all-held-requires c =
    let x = c.args in
    run-few x.a.now x.table.now x.configurations.now x.events.now x.out.now _ c.enter_list-entry.ensures c.if-entry-ne0.false

pub returns-then-too_short : goal.returns-then-too_short
unfolding unmarked
returns-then-too_short c =
    let x = c.args in
    run_short x.a.now x.table.now x.configurations.now x.events.now x.out.now _ c.enter_list-entry.ensures c.if-entry-ne0.false
    _ _ c.held_in_all-held.ensures _ c.too_short.ensures c.if-too_short.true _ c.refused_run-then-too_short.ensures

pub process-requires : goal.process-requires
unfolding unmarked
process-requires c =
    let x = c.args in
    run_asks x.a.now x.table.now x.configurations.now x.events.now x.out.now _ c.enter_list-entry.ensures c.if-entry-ne0.false
    _ _ c.held_in_all-held.ensures _ c.too_short.ensures c.if-too_short.false

pub returns : goal.returns
unfolding unmarked
returns c =
    let x = c.args in
    run-answers x.a.now x.table.now x.configurations.now x.events.now x.out.now _ c.enter_list-entry.ensures c.if-entry-ne0.false
    _ _ c.held_in_all-held.ensures _ c.too_short.ensures c.if-too_short.false _ _ _ c.process.ensures
