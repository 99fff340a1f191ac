use Rattle.solver.proofs.Lengths.{Lent}
use Rattle.solver.proofs.Lengths.{Lengthening}
use Rattle.solver_sets.specs.Table.{buffers_count}
use lib.ListN.{length as len}
use Prim.Native.Nat.{◌*◌, ◌≤◌}
use Rattle.solver.proofs.fill.Given as goal

-- The whole table: the empty buffer's sets, then a level for each length.
abbrev pub invariant-loop-length : goal.invariant-loop-length
invariant-loop-length l =
    (2 * buffers_count l.a ≤ len l.initial.table) × Lent l.a l.n l.m l.capacity l.k l.accepting l.free × Lengthening l.a l.initial.table l._length l.table l.from l.count l.rounds
