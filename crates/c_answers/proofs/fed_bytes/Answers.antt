use mathlib.Core.Path.{◌≡◌}
use lib.ListN.{length}
use Rattle.c_layout.specs.Offsets.{received_size}
use Rattle.c_layout.proofs.Laying.{fed-laid}
use borrow.Author.Rules.{rules}
use Rattle.c_answers.proofs.fed_bytes.Goals as goal

pub returns : goal.returns
returns c =
    let long : length c.event_bytes-event.result ≡ received_size = search rules in
    fed-laid _ _ _ _ _ _ _ long c.event_bytes-event.ensures c.number_bytes-loss.ensures c.number_bytes-place.ensures
    c.copy.ensures c.copy-2.ensures c.copy-3.ensures
