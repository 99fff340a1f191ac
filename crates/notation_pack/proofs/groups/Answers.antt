use mathlib.Core.Path.{refl, ◌∙◌}
use Rattle.notation.proofs.Groups.{counted, groups-counted}
use Rattle.notation_pack.proofs.groups.Goals as goal

pub returns : goal.returns
returns c = groups-counted _ c.requires _ refl (c.unwrap_or.ensures ∙ counted c.write.result ∙ c.write.ensures.0)
