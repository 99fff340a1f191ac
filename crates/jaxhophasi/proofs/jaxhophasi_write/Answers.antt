use Rattle.std.proofs.Common.{◌∙◌, ap}
use Rattle.c_layout.specs.Offsets.{number_size}
use Rattle.c_layout.specs.Layout.{number_bytes}
use Rattle.automaton_format.specs.Writing.{write_answer, write_buffer}
use Rattle.jaxhophasi.proofs.jaxhophasi_write.Goals as goal

pub returns-in-Ok : goal.returns-in-Ok
returns-in-Ok c =
    let out = c.args.out.now in
    let a = c.automaton_of.ensures in
    let x = c.in-Ok.ensures.0 ∙ ap (λ k. write_answer k out) a in (
      ap (λ w. w.refusal) x,
      c.in-Ok.ensures.1 ∙ ap (λ k. write_buffer k out) a,
      c.number_bytes.ensures ∙ ap (λ w. number_bytes number_size w.length) x,
    )

pub returns-in-Err : goal.returns-in-Err
returns-in-Err c =
    let out = c.args.out.now in
    let a = c.automaton_of.ensures in
    let x = c.in-Err.ensures.0 ∙ ap (λ k. write_answer k out) a in (
      c.from.ensures ∙ ap (λ w. w.refusal) x,
      c.in-Err.ensures.1 ∙ ap (λ k. write_buffer k out) a,
      c.number_bytes-in-Err.ensures ∙ ap (λ w. number_bytes number_size w.length) x,
    )
