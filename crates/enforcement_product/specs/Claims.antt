-- The monitor of a product obeys both its parts (document 02, Card 6: two sheets, both to be
-- obeyed), over any list of calls from the initial configuration.
use Rattle.std.specs.Prelude.{ℕ, ◌≡◌, true, List, ◌∷◌, ◌++◌}
use Rattle.base.specs.All.{AllOf}
use Rattle.automaton.specs.declared.Automaton.{Automaton}
use Rattle.automaton.specs.Automaton.{reached}
use Rattle.solver_sets.specs.Table.{Solved}
use Rattle.product_rule.specs.Pairs.{pair}
use Rattle.product_rule.specs.Product.{product_of, product_refusal}
use Rattle.product_rule.specs.Claims.{Symbols, EndsAccepting}
use Rattle.configuration.specs.Configuration.{initial_of}
use Rattle.monitor_rule.specs.Claims.{Full}
use Rattle.monitor_answers.specs.Answers.{is_winning}
use Rattle.enforcement.specs.Calls.{Call}
use Rattle.enforcement.specs.Moments.{Moment, position_after, moments}
use Rattle.enforcement.specs.Claims.{winning_after, output_after}

-- All that was put out, up to and with any accepted event, are symbols of the automaton, over any
-- table and also inside a day. (A record that row 11 refuses puts nothing out.)
abbrev pub EmittedAreSymbols : Type 0
EmittedAreSymbols =
    (a : Automaton) (t : List ℕ) (calls : List Call)
    → AllOf (λ m. Symbols a (output_after a t m)) (moments a t (initial_of a) calls)

-- the accepted events of calls to the monitor of the product (document 02's merged gate)
abbrev pub merged_moments : Automaton → Automaton → List ℕ → List Call → List Moment
merged_moments a b t calls = moments (product_of a b) t (initial_of (product_of a b)) calls

-- after each of some events what it has put out leads both parts to an accepting state
abbrev pub Obeyed : Automaton → Automaton → List ℕ → List Moment → Type 0
Obeyed a b t =
    AllOf (λ m. EndsAccepting a (output_after (product_of a b) t m) × EndsAccepting b (output_after (product_of a b) t m))

-- Once it is winning (document 01's guarded), initially or after an accepted event, both parts are
-- obeyed from then on; and so they are from an event on that was accepted at a full buffer.
pub record BothObeyed (a b : Automaton) (t : List ℕ) (calls : List Call) : Type 0 where
  pub initially : is_winning (product_of a b) t (initial_of (product_of a b)) ≡ true → Obeyed a b t (merged_moments a b t calls)
  pub later : (before : List Moment) (m : Moment) (after : List Moment) → merged_moments a b t calls ≡ before ++ m ∷ after
      → winning_after (product_of a b) t m ≡ true → Obeyed a b t (m ∷ after)
  pub opened : (before : List Moment) (m : Moment) (after : List Moment) → merged_moments a b t calls ≡ before ++ m ∷ after
      → Full (product_of a b) m.position.buffer m.event → Obeyed a b t (m ∷ after)

-- Two sheets, both to be obeyed: so it is for any two that no row refuses, over a table that is
-- solved for their product.
abbrev pub ObeysBoth : Type 0
ObeysBoth =
    (a b : Automaton) → product_refusal a b ≡ 0 → (t : List ℕ) → Solved (product_of a b) t → (calls : List Call)
    → BothObeyed a b t calls

-- a state of the product is the pair of where a list leads in the two parts
abbrev pub PairAfter : Automaton → Automaton → List ℕ → ℕ → Type 0
PairAfter a b out r = r ≡ pair b.states (reached a a.initial out) (reached b b.initial out)

-- After every accepted event its state is the pair of where all that it has put out leads in the
-- two parts, winning or not, over any table.
abbrev pub StateIsPair : Type 0
StateIsPair =
    (a b : Automaton) → product_refusal a b ≡ 0 → (t : List ℕ) (calls : List Call)
    → AllOf (λ m. PairAfter a b (output_after (product_of a b) t m) (position_after (product_of a b) t m).state)
    (merged_moments a b t calls)
