use mathlib.Core.Path.{◌≡◌}
use lib.ListN.{take, drop}
use Rattle.configuration_places.specs.Places.{pad_places}
use Rattle.monitor_places.specs.Lines.{joined_by}
use Rattle.monitor_places.proofs.places_from.Given as goal

abbrev pub invariant-loop-i : goal.invariant-loop-i
invariant-loop-i g l =
    l.part ≡ pad_places g.row.N (take l.i (drop l.from (joined_by l.own l.newcomer l.places)))
