use Rattle.std.proofs.Common.{sym, ◌∙◌, ap}
use Rattle.product_rule.specs.Product.{product_answer}
use Rattle.c_layout.specs.Layout.{automaton_bytes}
use Rattle.c_layout.proofs.Records.{blank-zeros}
use Rattle.jaxhophasi.proofs.Over.{over}
use Rattle.jaxhophasi.proofs.jaxhophasi_product.Goals as goal

pub returns-in-Ok : goal.returns-in-Ok
returns-in-Ok c =
    let x = over product_answer c.in-Ok.ensures c.automaton_of.ensures c.automaton_of-2.ensures in
    (ap (λ p. p.refusal) x, c.automaton_bytes.ensures ∙ ap (λ p. automaton_bytes p.automaton) x)

pub returns-in-Err : goal.returns-in-Err
returns-in-Err c =
    let x = over product_answer c.in-Err.ensures c.automaton_of.ensures c.automaton_of-2.ensures in
    (c.from.ensures ∙ ap (λ p. p.refusal) x, sym blank-zeros ∙ ap (λ p. automaton_bytes p.automaton) x)
