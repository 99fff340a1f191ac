use mathlib.Core.Path.{◌∙◌, ap}
use Rattle.clients_answers.specs.Clients.{ran_for, ran_clients, ran_for_buffer}
use Rattle.c_layout.specs.Answers.{ran_for_bytes}
use Rattle.c_layout.specs.Calls.{ran_for_left, run_for_leaves}
use Rattle.jaxhophasi.proofs.jaxhophasi_run_for.Goals as goal

pub returns : goal.returns
unfolding run_for_leaves ran_for_left
returns c =
    let g = c.args in
    let t = g.table.now in
    let cs = g.configurations.now in
    let vs = g.events.now in
    let out = g.out.now in
    let a = c.automaton_of-a.ensures in
    let x = c.run-ran.ensures.0 ∙ ap (λ k. ran_for k t cs vs out) a in (
      c.lay_ran_for.ensures.0 ∙ ap (λ r. r.refusal) x,
      c.run-ran.ensures.1 ∙ ap (λ k. ran_clients k t cs vs out) a,
      c.run-ran.ensures.2 ∙ ap (λ k. ran_for_buffer k t cs vs out) a,
      c.lay_ran_for.ensures.1 ∙ ap ran_for_bytes x,
    )
