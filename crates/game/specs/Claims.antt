-- What is proved of the game.
use Rattle.std.specs.Prelude.{ℕ, suc, ◌<◌, ◌≡◌, true, ◌&&◌, ◌||◌, List, [], ◌∷◌}
use Rattle.base.specs.Each.{each}
use Rattle.base.specs.Masks.{has}
use Rattle.automaton.specs.declared.Automaton.{Automaton}
use Rattle.automaton.specs.Automaton.{controllable, accepts, step, valid}
use Rattle.solver_sets.specs.Sets.{sets_for}
use Rattle.configuration.specs.declared.Configuration.{Configuration}
use Rattle.configuration.specs.Configuration.{held_events}
use Rattle.game.specs.Game.{may_rest, can_rest, game_refusal, verdict}

-- the two questions as document 01 words them
pub record Questions (a : Automaton) : Type 0 where
  pub rest_last : (w : List ℕ) (q : ℕ) → may_rest a w 0 q ≡ accepts a q
  pub rest_on : (w : List ℕ) (r q : ℕ)
      → may_rest a w (suc r) q ≡ (accepts a q && each a.symbols (λ e. controllable a e || can_rest a w r (step a q e)))
  pub come-empty : (r q : ℕ) → can_rest a [] r q ≡ may_rest a [] r q
  pub come-held : (e : ℕ) (w : List ℕ) (r q : ℕ) → can_rest a (e ∷ w) r q
      ≡ (may_rest a (e ∷ w) r q || can_rest a w a.states (step a q e))

abbrev pub AsWorded : Type 0
AsWorded = (a : Automaton) → Questions a

-- with n rounds they agree with S and with S joined to I, for every automaton and list: the limits
-- of row 17 play no part
abbrev pub Agrees : Type 0
Agrees =
    (a : Automaton) → valid a ≡ true → (w : List ℕ) (q : ℕ) → q < a.states
    → (may_rest a w a.states q ≡ has (sets_for a w).winning q)
    × (can_rest a w a.states q ≡ (has (sets_for a w).winning q || has (sets_for a w).intermediate q))

-- so do the two answers of the call
abbrev pub VerdictAgrees : Type 0
VerdictAgrees =
    (a : Automaton) (c : Configuration) → game_refusal a c ≡ 0
    → ((verdict a c).may_rest ≡ has (sets_for a (held_events c)).winning c.state)
    × ((verdict a c).can_rest ≡ (has (sets_for a (held_events c)).winning c.state
    || has (sets_for a (held_events c)).intermediate c.state))
