use Rattle.c_layout.specs.Answers.{ran_bytes}
use Rattle.c_layout.specs.Layout.{configuration_bytes}
use Rattle.c_layout.specs.Calls.{ran_left, run_leaves}
use Rattle.monitor_answers.specs.Answers.{ran, ran_buffer}
use Rattle.jaxhophasi.proofs.Over.{over}
use mathlib.Core.Path.{◌∙◌, ap}
use Rattle.jaxhophasi.proofs.jaxhophasi_run.Goals as goal

pub returns : goal.returns
unfolding run_leaves ran_left
returns c =
    let t = c.args.table.now in
    let es = c.args.events.now in
    let out = c.args.out.now in
    let a = c.automaton_of-a.ensures in
    let k = c.configuration_of.ensures in
    let x = over (λ a k. ran a t k es out) c.run-ran.ensures.0 a k in (
      ap (λ r. r.refusal) x,
      c.configuration_bytes.ensures ∙ ap (λ r. configuration_bytes r.configuration) x,
      c.ran_bytes.ensures ∙ ap ran_bytes x,
      over (λ a k. ran_buffer a t k es out) c.run-ran.ensures.1 a k,
    )
