use Rattle.c_layout.specs.Answers.{status_bytes}
use Rattle.monitor_answers.specs.Answers.{status}
use Rattle.jaxhophasi.proofs.Over.{over}
use mathlib.Core.Path.{◌∙◌, ap}
use Rattle.jaxhophasi.proofs.jaxhophasi_winning.Goals as goal

pub returns : goal.returns
returns c =
    let t = c.args.table.now in
    let a = c.automaton_of.ensures in
    let x = over (λ a k. status a t k) c.winning-status.ensures a c.configuration_of.ensures in
    (ap (λ s. s.refusal) x, c.status_bytes.ensures ∙ ap status_bytes x)
