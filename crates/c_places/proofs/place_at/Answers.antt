use Rattle.std.proofs.Common.{◌∙◌, sym, ap}
use Rattle.c_layout.specs.Layout.{number_of}
use Rattle.c_layout.proofs.Bytes.{of-four}
use Rattle.c_places.proofs.Laws.{part-four}
use Rattle.c_places.proofs.place_at.Goals as goal

pub returns : goal.returns
returns c =
    c.from_le_bytes.ensures ∙ of-four _ _ _ _ ∙ sym (ap number_of (part-four c.args.bytes.now c.args.at c.requires))
