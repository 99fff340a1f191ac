use Rattle.c_places.proofs.Laws.{place-laid}
use Rattle.c_places.proofs.lay_place.Goals as goal

pub returns : goal.returns
returns c =
    place-laid _ _ _ _ _ c.place_bytes-place.ensures c.copy.ensures
