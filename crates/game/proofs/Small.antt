-- Row 17, where the uncontrollable symbols are counted as those that are not controllable.
use Prim.Native.Nat.{ℕ, ◌-◌, ◌<◌, ◌≤◌}
use mathlib.Core.Path.{◌≡◌}
use mathlib.Core.Bool.{true, not}
use mathlib.Core.List.{List}
use native.Mathlib.Omega.{arith}
use lib.Dec.{ltb}
use borrow.Author.Tests.{lt-ltb, le-ltb}
use Rattle.base.specs.Each.{count}
use Rattle.base.proofs.Ranges.{count-not}
use Rattle.automaton.specs.Arrays.{controllable_at, controllable_in}
use Rattle.game.specs.Game.{too_large_in}

module _ (states symbols : ℕ) (classes : List ℕ) (held : ℕ) where
  pub large-states : 4 < states → true ≡ too_large_in states symbols classes held
  unfolding too_large_in
  large-states h = rw (lt-ltb 4 states h)

  module _ (m k : ℕ) (p : m ≡ symbols) (r : k ≡ controllable_in classes m) where
    abbrev others : ℕ
    others = count symbols (λ e. not (controllable_at classes e))

    pub controllable-few : k ≤ m
    unfolding controllable_in
    controllable-few = omega (arith, r, count-not m (controllable_at classes))

    others_are : m - k ≡ others
    unfolding controllable_in
    others_are = rw (← p) (omega (arith, r, count-not m (controllable_at classes)))

    module _ (h : states ≤ 4) where
      pub large-symbols : 2 < m - k → true ≡ too_large_in states symbols classes held
      unfolding too_large_in
      large-symbols l = rw (le-ltb 4 states h, ← others_are, lt-ltb 2 (m - k) l)

      pub large-held : m - k ≤ 2 → ltb 3 held ≡ too_large_in states symbols classes held
      unfolding too_large_in
      large-held l = rw (le-ltb 4 states h, ← others_are, le-ltb 2 (m - k) l)
