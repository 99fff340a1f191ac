-- The game over the parts that its functions are lent, for an automaton's and a configuration's
-- own.
use Prim.Native.Nat.{ℕ, zero, suc, ◌-◌}
use mathlib.Core.Path.{◌≡◌, refl, ap, ap₂}
use mathlib.Core.Bool.{Bool, ◌&&◌, ◌||◌}
use mathlib.Core.List.{List, [], ◌∷◌}
use native.Mathlib.Omega.{arith}
use lib.ListN.{take}
use Rattle.base.proofs.Ranges.{each_same}
use Rattle.automaton.specs.declared.Automaton.{Automaton}
use Rattle.automaton.specs.Automaton.{controllable, accepts, step}
use Rattle.automaton.proofs.Facts.{Valid}
use Rattle.configuration.specs.declared.Configuration.{Configuration}
use Rattle.configuration.specs.Configuration.{held_events}
use Rattle.configuration.proofs.Facts.{Consistent, held-event}
use Rattle.game.specs.Game.{rests_by, releases, may_rest, can_rest}
use Rattle.game.specs.Arena.{arena, held_from, PlayRequires}

abbrev pub arena_of : Automaton → Automaton
arena_of a = arena a.states a.symbols a.classes a.accepting a.next

module _ (a : Automaton) where
  -- the capacity and the initial state play no part
  rests-same : (f g : ℕ → Bool) → ((q : ℕ) → f q ≡ g q) → (r q : ℕ) → rests_by (arena_of a) f r q ≡ rests_by a g r q
  unfolding rests_by accepts controllable step
  rests-same f g h zero q = refl
  rests-same f g h (suc r) q =
      ap (λ b. accepts a q && b)
      (each_same a.symbols _ _ (λ e _. ap (λ b. controllable a e || b) (ap₂ ◌||◌ (rests-same f g h r (step a q e)) (h (step a q e)))))

  releases-same : (w : List ℕ) (q : ℕ) → releases (arena_of a) w q ≡ releases a w q
  unfolding releases step
  releases-same [] q = refl
  releases-same (e ∷ w) q =
      ap₂ ◌||◌ (rests-same (releases (arena_of a) w) (releases a w) (releases-same w) a.states (step a q e)) (releases-same w (step a q e))

  pub may_same : (w : List ℕ) (r q : ℕ) → may_rest (arena_of a) w r q ≡ may_rest a w r q
  unfolding may_rest
  may_same w r q = rests-same (releases (arena_of a) w) (releases a w) (releases-same w) r q

  pub can_same : (w : List ℕ) (r q : ℕ) → can_rest (arena_of a) w r q ≡ can_rest a w r q
  unfolding can_rest
  can_same w r q = ap₂ ◌||◌ (may_same w r q) (releases-same w q)

module _ (a : Automaton) (c : Configuration) where
  pub playable : Valid a → Consistent a c → PlayRequires (arena_of a) c.buffer c.held
  unfolding step
  playable v k = record {
    states-high = v.states-high;
    symbols-high = v.symbols-high;
    held_high = k.held_small;
    buffer-length = k.buffer-length;
    steps = v.step-below;
    events = λ i l. (held-event a c k i l).0;
  }

  -- all that is held
  pub held_all : held_from c.buffer c.held 0 ≡ held_events c
  unfolding held_events
  held_all = let e : c.held - 0 ≡ c.held = omega arith in ap (λ k. take k c.buffer) e
