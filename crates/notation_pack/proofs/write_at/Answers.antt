use Rattle.notation.proofs.Groups.{counted, groups-stored}
use mathlib.Core.Path.{◌∙◌}
use native.Mathlib.Omega.{arith}
use Rattle.notation_pack.proofs.write_at.Goals as goal

pub overflow_add-result : goal.overflow_add-result
overflow_add-result c =
    let a = c.args in
    let n = c.unwrap_or-count.ensures ∙ counted c.write.result ∙ c.write.ensures.0 in
    omega (arith, (groups-stored a.v c.requires.0 a.out.now a.at _ _ c.requires.1 n c.write.ensures.2).inside)

pub returns : goal.returns
returns c =
    groups-stored _ c.requires.0 _ _ _ _ c.requires.1 (c.unwrap_or-count.ensures ∙ counted c.write.result ∙ c.write.ensures.0)
    c.write.ensures.2
