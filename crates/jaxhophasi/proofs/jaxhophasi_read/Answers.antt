use Rattle.std.proofs.Common.{sym, ◌∙◌, ap}
use Rattle.c_layout.specs.Offsets.{number_size}
use Rattle.c_layout.specs.Layout.{automaton_bytes, number_bytes}
use Rattle.c_layout.proofs.Records.{blank-zeros}
use Rattle.jaxhophasi.proofs.jaxhophasi_read.Goals as goal

pub returns-in-Ok : goal.returns-in-Ok
returns-in-Ok c =
    let x = c.in-Ok.ensures in (
      ap (λ p. p.refusal) x,
      c.automaton_bytes.ensures ∙ ap (λ p. automaton_bytes p.automaton) x,
      c.number_bytes.ensures ∙ ap (λ p. number_bytes number_size p.place) x,
    )

pub returns-in-Err : goal.returns-in-Err
returns-in-Err c =
    let x = c.in-Err.ensures in (
      c.from.ensures ∙ ap (λ p. p.refusal) x,
      sym blank-zeros ∙ ap (λ p. automaton_bytes p.automaton) x,
      c.number_bytes-in-Err.ensures ∙ ap (λ p. number_bytes number_size p.place) x,
    )
