use Rattle.std.proofs.Common.{◌∙◌, ap}
use Rattle.game.specs.Game.{verdict}
use Rattle.c_layout.specs.Answers.{verdict_bytes}
use Rattle.jaxhophasi.proofs.Over.{over}
use Rattle.jaxhophasi.proofs.jaxhophasi_judge.Goals as goal

pub returns-in-Ok : goal.returns-in-Ok
returns-in-Ok c =
    let x = over verdict c.in-Ok.ensures c.automaton_of.ensures c.configuration_of.ensures in
    (ap (λ v. v.refusal) x, c.verdict_bytes.ensures ∙ ap verdict_bytes x)

pub returns-in-Err : goal.returns-in-Err
unfolding verdict_bytes
returns-in-Err c =
    let x = over verdict c.in-Err.ensures c.automaton_of.ensures c.configuration_of.ensures in
    (c.from.ensures ∙ ap (λ v. v.refusal) x, ap verdict_bytes x)
