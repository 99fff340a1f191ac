use Rattle.std.proofs.Common.{sym, ◌∙◌, ap}
use Rattle.std.proofs.lemmas.Result.{err_from_is_err_and}
use Rattle.refusal.proofs.Numbers.{number_never_0}
use Rattle.product_rule.specs.Product.{product_made, product_refused}
use Rattle.product_rule.proofs.Rows.{answer-made, answer-refused}
use Rattle.product.proofs.product.Goals as goal

pub returns-in_err-check : goal.returns-in_err-check
returns-in_err-check c =
    let p = err_from_is_err_and c.from_residual.result c.from_residual.ensures.1 in
    rw (p.1, p.2) (ap product_refused c.in_err-check.ensures ∙ sym (answer-refused _ _ (λ z. number_never_0 _ (c.in_err-check.ensures ∙ z))))

pub returns : goal.returns
returns c = ap product_made c.merged.ensures ∙ sym (answer-made _ _ (sym c.in_ok-check.ensures))
