use Rattle.std.proofs.Common.{◌∙◌, ap}
use Rattle.c_layout.specs.Offsets.{number_size}
use Rattle.c_layout.specs.Layout.{number_bytes}
use Rattle.solver_answers.specs.Solving.{solution, solved_table}
use Rattle.jaxhophasi.proofs.jaxhophasi_solve.Goals as goal

pub returns-in-Ok : goal.returns-in-Ok
returns-in-Ok c =
    let t = c.args.table.now in
    let a = c.automaton_of.ensures in
    let x = c.in-Ok.ensures.0 ∙ ap (λ k. solution k t) a in (
      ap (λ s. s.refusal) x,
      c.in-Ok.ensures.1 ∙ ap (λ k. solved_table k t) a,
      c.number_bytes.ensures ∙ ap (λ s. number_bytes number_size s.rounds) x,
    )

pub returns-in-Err : goal.returns-in-Err
returns-in-Err c =
    let t = c.args.table.now in
    let a = c.automaton_of.ensures in
    let x = c.in-Err.ensures.0 ∙ ap (λ k. solution k t) a in (
      c.from.ensures ∙ ap (λ s. s.refusal) x,
      c.in-Err.ensures.1 ∙ ap (λ k. solved_table k t) a,
      c.number_bytes-in-Err.ensures ∙ ap (λ s. number_bytes number_size s.rounds) x,
    )
