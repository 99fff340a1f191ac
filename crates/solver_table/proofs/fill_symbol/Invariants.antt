use Rattle.solver_table.proofs.Filling.{Filling}
use Rattle.solver_table.specs.Levels.{sets_from}
use Rattle.solver_table.proofs.fill_symbol.Given as goal

-- The buffers that begin with one symbol: each buffer's sets are new ones, or those of the goal
-- before.
abbrev pub invariant-loop-j : goal.invariant-loop-j
invariant-loop-j l =
    Filling (sets_from l.next l.free l.n l.u l.accepting l.symbol) l.initial.table l.from l.to l.j l.table l.known l.last l.rounds
