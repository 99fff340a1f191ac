use Rattle.monitor_loop.specs.Lending.{derived}
use Rattle.monitor_loop.proofs.Quiet.{Quiet}
use Rattle.monitor_loop.proofs.Running.{Going}
use Rattle.monitor_loop.proofs.process.Given as goal

abbrev pub invariant-loop-event : goal.invariant-loop-event
invariant-loop-event l =
    Going l.limits l.next l.ranks l.table l.events l.initial.out (derived l.initial.state l.initial.held l.initial.buffer l.initial.places l.initial.received) l.out
    (derived l.state l.held l.buffer l.places l.received) l.written l.refused l.event-index
    × Quiet l.next l.ranks l.limits.controllables l.table l.buffer l.held l.quiet
