-- The call's answers, row by row, over what its functions hand back.
use Prim.Native.Nat.{◌≤◌, ◌<◌}
use mathlib.Core.Path.{◌≡◌}
use mathlib.Core.Bool.{Bool, true, false}
use native.Mathlib.Omega.{arith}
use Rattle.base.specs.Rows.{first}
use Rattle.automaton.specs.declared.Automaton.{Automaton}
use Rattle.automaton.specs.Automaton.{valid}
use Rattle.automaton.proofs.Facts.{valid_facts}
use Rattle.configuration.specs.declared.Configuration.{Configuration}
use Rattle.configuration.specs.Configuration.{consistent, held_events}
use Rattle.configuration.proofs.Facts.{consistent_facts}
use Rattle.game.specs.Game.{Verdict, may_rest, can_rest, too_large, game_refusal, refused, verdict}
use Rattle.game.specs.Arena.{held_from, PlayRequires}
use Rattle.game.proofs.Arena.{arena_of, may_same, can_same, playable, held_all}

abbrev answer : Bool → Bool → Verdict
answer may can = record { refusal = 0; may_rest = may; can_rest = can }

module _ (a : Automaton) (c : Configuration) where
  pub refused_11 : valid a ≡ false → refused 11 ≡ verdict a c
  unfolding verdict game_refusal first
  refused_11 v = rw v

  module _ (v : valid a ≡ true) where
    pub refused_13 : consistent a c ≡ false → refused 13 ≡ verdict a c
    unfolding verdict game_refusal first
    refused_13 k = rw (v, k)

    module _ (k : consistent a c ≡ true) where
      pub refused_17 : too_large a c ≡ true → refused 17 ≡ verdict a c
      unfolding verdict game_refusal first
      refused_17 l = rw (v, k, l)

      answered : too_large a c ≡ false → answer (may_rest a (held_events c) a.states c.state) (can_rest a (held_events c) a.states c.state) ≡ verdict a c
      unfolding verdict game_refusal first
      answered l = rw (v, k, l)

      pub played : too_large a c ≡ false → (may can : Bool)
          → may ≡ may_rest (arena_of a) (held_from c.buffer c.held 0) a.states c.state
          → can ≡ can_rest (arena_of a) (held_from c.buffer c.held 0) a.states c.state
          → answer may can ≡ verdict a c
      played l may can m n = rw (m, n, may_same, can_same, held_all) (answered l)

      pub can_play : PlayRequires (arena_of a) c.buffer c.held × (0 ≤ c.held) × (c.state < a.states)
      can_play =
          let x = valid_facts a v in
          let y = consistent_facts a c x k in
          (playable a c x y, omega arith, y.state-below)
