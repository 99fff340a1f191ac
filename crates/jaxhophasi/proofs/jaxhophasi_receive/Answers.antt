use Rattle.c_layout.specs.Answers.{received_bytes}
use Rattle.c_layout.specs.Layout.{configuration_bytes}
use Rattle.c_layout.specs.Calls.{received_left, receive_leaves}
use Rattle.monitor_answers.specs.Answers.{received}
use Rattle.jaxhophasi.proofs.Over.{over}
use mathlib.Core.Path.{◌∙◌, ap}
use Rattle.jaxhophasi.proofs.jaxhophasi_receive.Goals as goal

pub returns : goal.returns
unfolding receive_leaves received_left
returns c =
    let t = c.args.table.now in
    let e = c.args.event in
    let x = over (λ a k. received a t k e) c.receive-received.ensures c.automaton_of-a.ensures c.configuration_of.ensures in (
      ap (λ r. r.refusal) x,
      c.configuration_bytes.ensures ∙ ap (λ r. configuration_bytes r.configuration) x,
      c.received_bytes.ensures ∙ ap received_bytes x,
    )
