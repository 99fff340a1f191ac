use Rattle.std.proofs.Common.{◌∙◌}
use Rattle.c_layout.proofs.Bytes.{place-le}
use Rattle.c_places.proofs.place_bytes.Goals as goal

pub returns : goal.returns
returns c = c.to_le_bytes.ensures ∙ place-le c.args.value
