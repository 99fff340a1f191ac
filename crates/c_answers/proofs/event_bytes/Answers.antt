use mathlib.Core.Path.{◌≡◌}
use lib.ListN.{length}
use Rattle.c_layout.specs.Offsets.{max_emitted}
use Rattle.c_layout.proofs.Laying.{event-laid}
use borrow.Author.Rules.{rules}
use Rattle.c_answers.proofs.event_bytes.Goals as goal

pub returns : goal.returns
returns c =
    let seven : length c.args.places ≡ max_emitted = search rules in
    let k : length c.args.emitted ≡ max_emitted = search rules in
    event-laid c.args.emitted c.args.count c.args.winning c.args.places _ _ k seven c.copy.ensures c.lay_places.ensures
