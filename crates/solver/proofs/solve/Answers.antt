use Rattle.std.proofs.Common.{refl, arith}
use Rattle.std.proofs.lemmas.Result.{err_from_is_err_and}
use Rattle.refusal.proofs.Numbers.{number_never_0}
use Rattle.solver_answers.proofs.Answers.{refused-count, given_count, solve_invalid, solve_short, solve_done}
use Rattle.solver.proofs.solve.Goals as goal

pub returns-in_err-buffers : goal.returns-in_err-buffers
returns-in_err-buffers c =
    let p = err_from_is_err_and c.from_residual.result c.from_residual.ensures.1 in
    let r = refused-count _ _ c.in_err-buffers.ensures (number_never_0 _) in
    rw (p.1, p.2, r.1) (solve_invalid _ c.args.table.now r.0)

pub returns-then-table-places : goal.returns-then-table-places
returns-then-table-places c =
    let given = given_count _ _ c.in_ok-buffers.ensures refl in
    solve_short _ c.args.table.now given.0 (omega (arith, given.1))

pub fill-requires : goal.fill-requires
fill-requires c =
    let given = given_count _ _ c.in_ok-buffers.ensures refl in
    (given.0, omega (arith, given.1))

pub returns : goal.returns
returns c =
    let given = given_count _ _ c.in_ok-buffers.ensures refl in
    solve_done _ c.args.table.now given.0 (omega (arith, given.1)) _ _ c.fill.ensures.0 c.fill.ensures.1
