use mathlib.Core.Path.{◌≡◌}
use Prim.Native.Nat.{◌≤◌}
use Rattle.base.specs.Pad.{pad}
use Rattle.automaton.specs.Arrays.{controllable_in}
use Rattle.automaton_symbols.specs.Symbols.{ranks_to}
use Rattle.automaton_symbols.proofs.rank_symbols.Given as goal

abbrev pub invariant-loop-e : goal.invariant-loop-e
invariant-loop-e l =
    (l.count ≤ l.e) × (l.count ≡ controllable_in l.classes l.e) × (l.ranks ≡ pad 16 (ranks_to l.classes l.e))
