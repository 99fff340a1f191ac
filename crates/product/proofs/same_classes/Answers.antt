use Rattle.std.proofs.Common.{◌∙◌, arith}
use Rattle.product_rule.proofs.Filling.{slices_alike}
use Rattle.product.proofs.same_classes.Goals as goal

pub returns : goal.returns
returns c = c.eq.ensures ∙ slices_alike c.args.m _ _ (omega arith) (omega arith)
