use mathlib.Core.Path.{◌≡◌}
use lib.ListN.{length}
use Rattle.c_layout.specs.Offsets.{max_capacity}
use Rattle.c_layout.proofs.Laying.{configuration-laid}
use borrow.Author.Rules.{rules}
use Rattle.c_records.proofs.configuration_bytes.Goals as goal

pub returns : goal.returns
returns c =
    let k = c.args.c in
    let six : length k.buffer ≡ max_capacity = search rules in
    let places-six : length k.places ≡ max_capacity = search rules in
    configuration-laid k _ _ _ _ _ _ six places-six c.place_bytes-received.ensures c.place_bytes-emitted.ensures c.copy.ensures
    c.lay_places.ensures c.copy-2.ensures c.copy-3.ensures
