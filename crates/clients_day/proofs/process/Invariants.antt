use Rattle.clients_day.proofs.Processing.{Stand}
use Rattle.clients_day.proofs.process.Given as goal

abbrev pub invariant-loop-number : goal.invariant-loop-number
invariant-loop-number l =
    Stand l.limits l.marks l.next l.ranks l.table l.initial.configurations l.events l.initial.out
    l.number-index l.written l.refused l.configurations l.out
