-- The game (document 01, "Where it may rest, where it must release": the second judge): two
-- questions that put each other.
use Rattle.std.specs.Prelude.{ℕ, zero, suc, Bool, false, cond, not, ◌&&◌, ◌||◌, List, [], ◌∷◌, eqb, ltb}
use Rattle.base.specs.Each.{each, count}
use Rattle.base.specs.Rows.{first}
use Rattle.automaton.specs.declared.Automaton.{Automaton}
use Rattle.automaton.specs.Arrays.{controllable_at}
use Rattle.automaton.specs.Automaton.{controllable, accepts, step, valid}
use Rattle.configuration.specs.declared.Configuration.{Configuration}
use Rattle.configuration.specs.Configuration.{consistent, held_events}
use Rattle.game.specs.declared.Verdict as declared

-- Resting at q with some rounds left, where `released` says of a state whether releasing the first
-- held event there comes to rest: an accepting state and, with rounds left, after each
-- uncontrollable symbol coming to rest with one round fewer.
unfoldable pub rests_by : Automaton → (ℕ → Bool) → ℕ → ℕ → Bool
rests_by a released zero q = accepts a q
rests_by a released (suc r) q =
    accepts a q && each a.symbols (λ e. controllable a e || (rests_by a released r (step a q e) || released (step a q e)))

-- releasing the first held event, then coming to rest with n rounds
unfoldable pub releases : Automaton → List ℕ → ℕ → Bool
releases a [] q = false
releases a (e ∷ w) q = rests_by a (releases a w) a.states (step a q e) || releases a w (step a q e)

-- may we rest here with r rounds left, holding w?
unfoldable pub may_rest : Automaton → List ℕ → ℕ → ℕ → Bool
may_rest a w r q = rests_by a (releases a w) r q

-- can we come to rest with r rounds left: resting here, or releasing?
unfoldable pub can_rest : Automaton → List ℕ → ℕ → ℕ → Bool
can_rest a w r q = may_rest a w r q || releases a w q

-- row 17: over 4 states, 2 uncontrollable symbols or 3 held events
unfoldable pub too_large_in : ℕ → ℕ → List ℕ → ℕ → Bool
too_large_in states symbols classes held =
    ltb 4 states || (ltb 2 (count symbols (λ e. not (controllable_at classes e))) || ltb 3 held)

abbrev pub too_large : Automaton → Configuration → Bool
too_large a c = too_large_in a.states a.symbols a.classes c.held

-- the rows that the game checks
unfoldable pub game_refusal : Automaton → Configuration → ℕ
game_refusal a c = first ((11, not (valid a)) ∷ (13, not (consistent a c)) ∷ (17, too_large a c) ∷ [])

-- Both answers (refusal 0), or the refusing row with no and no.
pub record Verdict : Type 0 where
  pub refusal : ℕ
  pub may_rest : Bool
  pub can_rest : Bool

abbrev pub answered : declared.Verdict → Verdict
answered v = record { refusal = 0; may_rest = v.may_rest; can_rest = v.can_rest }

-- a refused call answers no to both
abbrev pub refused : ℕ → Verdict
refused row = record { refusal = row; may_rest = false; can_rest = false }

-- both questions, asked with n rounds
unfoldable pub verdict : Automaton → Configuration → Verdict
verdict a c =
    cond (eqb (game_refusal a c) 0)
    (record {
      refusal = 0;
      may_rest = may_rest a (held_events c) a.states c.state;
      can_rest = can_rest a (held_events c) a.states c.state;
    })
    (refused (game_refusal a c))
