use mathlib.Core.Path.{◌≡◌}
use mathlib.Core.List.{map}
use lib.ListN.{take}
use Rattle.configuration_places.specs.Places.{input_place, pad_places}
use Rattle.c_layout.specs.Offsets.{max_capacity, configuration_places}
use Rattle.c_layout.specs.Layout.{places_of}
use Rattle.c_places.proofs.held_places.Given as goal

abbrev pub invariant-loop-i : goal.invariant-loop-i
invariant-loop-i l =
    l.places ≡ pad_places 6 (take l.i (map input_place (places_of max_capacity configuration_places l.bytes)))
