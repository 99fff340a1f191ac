use Rattle.configuration.specs.Configuration.{place_stands}
use Rattle.base.specs.Each.{each}
use lib.Dec.{ltb}
use lib.ListN.{get_or}
use mathlib.Core.Path.{◌≡◌}
use Rattle.configuration_check.proofs.buffer_stands.Given as goal

abbrev pub invariant-loop-i : goal.invariant-loop-i
invariant-loop-i l = l.fine ≡ each l.i (λ i. place_stands l.symbols l.classes (ltb i l.held) (get_or l.buffer i 0))
