use mathlib.Core.Path.{◌≡◌}
use lib.ListN.{length}
use Rattle.c_layout.specs.Offsets.{configuration_size}
use Rattle.c_layout.proofs.Laying.{configuration-made}
use borrow.Author.Rules.{rules}
use Rattle.c_records.proofs.configuration_of.Goals as goal

pub returns : goal.returns
returns c =
    let b = c.args.bytes.now in
    let long : length b ≡ configuration_size = search rules in
    configuration-made b _ _ _ _ long c.copy.ensures c.held_places-places.ensures c.place_at.ensures c.place_at-2.ensures
