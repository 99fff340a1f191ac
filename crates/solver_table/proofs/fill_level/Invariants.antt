use Rattle.solver_table.proofs.Levels.{Levelling}
use Rattle.solver_table.specs.Levels.{sets_from}
use Rattle.solver_table.proofs.fill_level.Given as goal

-- A level: the sets for each controllable symbol in turn, behind the level before.
abbrev pub invariant-loop-e : goal.invariant-loop-e
invariant-loop-e l =
    Levelling (sets_from l.next l.free l.n l.u l.accepting) l.classes l.initial.table l.from l.count l.e l.table l.at l.rounds
