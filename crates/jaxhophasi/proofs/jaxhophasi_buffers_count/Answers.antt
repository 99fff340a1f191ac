use Rattle.std.proofs.Common.{◌∙◌, ap}
use Rattle.c_layout.specs.Offsets.{number_size}
use Rattle.c_layout.specs.Layout.{number_bytes}
use Rattle.solver_answers.specs.Solving.{count_answer}
use Rattle.jaxhophasi.proofs.jaxhophasi_buffers_count.Goals as goal

pub returns-in-Ok : goal.returns-in-Ok
returns-in-Ok c =
    let x = c.in-Ok.ensures ∙ ap count_answer c.automaton_of.ensures in
    (ap (λ n. n.refusal) x, c.number_bytes.ensures ∙ ap (λ n. number_bytes number_size n.count) x)

pub returns-in-Err : goal.returns-in-Err
returns-in-Err c =
    let x = c.in-Err.ensures ∙ ap count_answer c.automaton_of.ensures in
    (c.from.ensures ∙ ap (λ n. n.refusal) x, c.number_bytes-in-Err.ensures ∙ ap (λ n. number_bytes number_size n.count) x)
