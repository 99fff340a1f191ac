-- In a consistent configuration neither a place nor the output count is above the input count.
use Prim.Native.Nat.{ℕ, ◌≤◌}
use mathlib.Core.Path.{◌≡◌, ◌∙◌, ap}
use native.Mathlib.Omega.{arith}
use lib.ListN.{get_or, get_or-map}
use Rattle.base.specs.Pad.{pad}
use Rattle.base.proofs.Padding.{pad_every}
use Rattle.automaton.specs.declared.Automaton.{Automaton}
use Rattle.configuration_places.specs.Places.{input_place, input_number, output_number}
use Rattle.configuration.specs.Configuration.{Configuration, Position, position_of, configuration}
use Rattle.configuration.specs.Claims.{input_at}
use Rattle.configuration.proofs.Facts.{Consistent}

-- a place of a configuration that is made of a position
place-made : (p : Position) (i : ℕ) → input_at (configuration p) i ≡ get_or (pad 6 p.places) i 0
place-made p i = ap input_number (get_or-map input_place (pad 6 p.places) i 0)

module _ (a : Automaton) (c : Configuration) (k : Consistent a c) where
  abbrev count : ℕ
  count = input_number c.received

  pub places-counted : (i : ℕ) → input_at c i ≤ count
  places-counted i =
      let p = position_of c in
      let same = ap (λ d. input_at d i) k.whole ∙ place-made p i in
      let below = pad_every (λ n. n ≤ count) 6 p.places (omega arith) (λ j l. omega (arith, k.placed.rising.below j l)) i in
      omega (arith, same, below)

  pub emitted-counted : output_number c.emitted ≤ count
  emitted-counted = omega (arith, k.placed.sum)
