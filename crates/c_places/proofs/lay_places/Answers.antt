use Rattle.std.proofs.Common.{refl}
use Rattle.c_layout.specs.Layout.{places_bytes}
use Rattle.c_places.proofs.Laws.{laid_next}
use Rattle.c_places.proofs.lay_places.Goals as goal

pub loop-i-init : goal.loop-i-init
unfolding places_bytes
loop-i-init c = refl

pub loop-i-preserved : goal.loop-i-preserved
loop-i-preserved c =
    let l = c.loop-i in laid_next c.args.places.now l.i c.args.at c.loop-i-test.true _ _ _ l.invariant c.lay_place.ensures
