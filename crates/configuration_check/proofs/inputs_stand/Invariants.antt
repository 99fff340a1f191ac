use mathlib.Core.Path.{◌≡◌}
use mathlib.Core.List.{map}
use Rattle.base.specs.Each.{each}
use Rattle.configuration_places.specs.Places.{input_number}
use Rattle.configuration.specs.Configuration.{input_stands}
use Rattle.configuration_check.proofs.inputs_stand.Given as goal

abbrev pub invariant-loop-i : goal.invariant-loop-i
invariant-loop-i l =
    l.fine ≡ each l.i (input_stands l.held (input_number l.received) (map input_number l.fn.places))
