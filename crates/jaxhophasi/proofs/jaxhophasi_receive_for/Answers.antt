use mathlib.Core.Path.{◌∙◌, ap}
use Rattle.clients_answers.specs.Clients.{received_for, received_clients}
use Rattle.c_layout.specs.Answers.{received_for_bytes}
use Rattle.c_layout.specs.Calls.{received_for_left, receive_for_leaves}
use Rattle.jaxhophasi.proofs.jaxhophasi_receive_for.Goals as goal

pub returns : goal.returns
unfolding receive_for_leaves received_for_left
returns c =
    let g = c.args in
    let t = g.table.now in
    let cs = g.configurations.now in
    let a = c.automaton_of-a.ensures in
    let x = c.receive-received.ensures.0 ∙ ap (λ k. received_for k t cs g.client g.event) a in (
      c.lay_received_for.ensures.0 ∙ ap (λ r. r.refusal) x,
      c.receive-received.ensures.1 ∙ ap (λ k. received_clients k t cs g.client g.event) a,
      c.lay_received_for.ensures.1 ∙ ap received_for_bytes x,
    )
