use Rattle.std.proofs.Common.{sym, ◌∙◌, ap}
use Rattle.refusal.proofs.Numbers.{number_never_0}
use Rattle.configuration.specs.Configuration.{initial_answer}
use Rattle.c_layout.specs.Layout.{configuration_bytes}
use Rattle.c_layout.proofs.Trips.{initial-written, refused-initial_keeps}
use Rattle.jaxhophasi.proofs.jaxhophasi_initial.Goals as goal

-- the record is accepted
pub returns-in-Ok : goal.returns-in-Ok
returns-in-Ok c =
    let answered = c.in-Ok.ensures ∙ ap initial_answer c.automaton_of.ensures in
    let refusal = ap (λ s. s.refusal) answered in (
      refusal,
      c.configuration_bytes.ensures ∙ ap (λ s. configuration_bytes s.configuration) answered ∙ sym (initial-written _ _ (sym refusal)),
    )

-- it is refused
pub returns-in-Err : goal.returns-in-Err
returns-in-Err c =
    let answered = c.in-Err.ensures ∙ ap initial_answer c.automaton_of.ensures in
    let refusal = ap (λ s. s.refusal) answered in
    (c.from.ensures ∙ refusal, sym (refused-initial_keeps _ _ (λ h. number_never_0 _ (refusal ∙ h))))
