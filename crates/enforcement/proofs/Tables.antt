-- The hypotheses can be met.
use mathlib.Core.List.{[], ◌++◌}
use Rattle.solver_sets.specs.Table.{table}
use Rattle.solver_sets.proofs.Tables.{table-is-solved}
use Rattle.enforcement.specs.Claims.{TableExists}

pub table_exists : TableExists
table_exists a v = (table a ++ [], (table-is-solved a v).1 [])
