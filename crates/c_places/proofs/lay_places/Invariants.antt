use Rattle.std.proofs.Common.{◌≡◌, map, take}
use Rattle.std.proofs.lemmas.List.Edits.{sets}
use Rattle.configuration_places.specs.Places.{input_number}
use Rattle.c_layout.specs.Layout.{places_bytes}
use Rattle.c_places.proofs.lay_places.Given as goal

abbrev pub invariant-loop-i : goal.invariant-loop-i
invariant-loop-i l = l.bytes ≡ sets l.initial.bytes l.at (places_bytes (take l.i (map input_number l.places)))
