-- The settled set: the largest in which the monitor may rest.
use Prim.Native.Nat.{ℕ, ◌+◌, ◌^◌, ◌<◌, ◌≤◌}
use mathlib.Core.Path.{◌≡◌}
use mathlib.Core.Logic.{inl, inr}
use mathlib.Core.Bool.{false}
use mathlib.Core.List.{List, [], ◌∷◌}
use native.Mathlib.Nat.{zero-add}
use native.Mathlib.Omega.{arith}
use Rattle.base.specs.Each.{count}
use Rattle.base.specs.Masks.{has}
use Rattle.base.proofs.Bools.{either}
use Rattle.base.proofs.Masks.{mask_in, in-mask, mask-out, mask_lt, count-mask}
use Rattle.automaton.specs.declared.Automaton.{Automaton}
use Rattle.automaton.specs.Automaton.{accepts, step}
use Rattle.solver_sets.specs.Sets.{Sets, accepting_set, refine, settled, sets_of, empty_sets, into, sets_for}
use Rattle.solver_sets.specs.Definition6.{States, Union, Final, Uncontrollable}
use Rattle.solver_sets.specs.Claims.{IsResting, IsLargest, RoundsBounded}
use Rattle.solver_sets.proofs.Total.{Total, total}
use Rattle.solver_sets.proofs.Rounds.{settle_keeps, settle_fixed}
use Rattle.solver_sets.proofs.Refining.{Has, admits-none, admits-some, some-admits, all-stays, stays_at, refine_lt, refine_le, refine_in, in-refine, refine-out, refine_fewer}

-- what the winning set is for its intermediate set
pub record Largest (a : Automaton) (s : Sets) : Type 1 where
  pub small : s.winning < 2 ^ a.states
  pub accepting : (q : ℕ) → Has s.winning q → (q < a.states) × Final a q
  pub leads : (q e : ℕ) → Has s.winning q → Uncontrollable a e → Union (Has s.winning) (Has s.intermediate) (step a q e)
  pub largest : Total a → (X : States) → ((q : ℕ) → q < a.states → X q → Final a q)
      → ((q e : ℕ) → q < a.states → X q → Uncontrollable a e → Union X (Has s.intermediate) (step a q e))
      → (q : ℕ) → q < a.states → X q → Has s.winning q
  pub few : s.rounds ≤ count a.states (accepts a)
  -- A state outside does not accept, or an uncontrollable symbol leads, not into the intermediate
  -- set, to a state that was struck before: what holds of the first and is carried back along such
  -- symbols holds of all. The number r is that of the round.
  pub lost : Total a → (P : ℕ → ℕ → Type 0) → ((r q : ℕ) → P r q → P (r + 1) q) → ((q : ℕ) → q < a.states → accepts a q ≡ false → P 0 q)
      → ((r q e : ℕ) → q < a.states → Uncontrollable a e → has s.intermediate (step a q e) ≡ false → P r (step a q e) → P (r + 1) q)
      → (q : ℕ) → q < a.states → has s.winning q ≡ false → P s.rounds q

module _ (a : Automaton) (i : ℕ) (home : ℕ → ℕ) where
  abbrev round : ℕ → ℕ
  round x = refine a i (home x) x

  abbrev S : ℕ
  S = (settled a i home).set

  -- what holds of the accepting states and is kept by a round that strikes holds of S, with the
  -- number of rounds
  pub settled_keeps : (P : ℕ → ℕ → Type 0) → ((r x : ℕ) → (round x ≡ x → ⊥) → P r x → P (r + 1) (round x)) → P 0 (accepting_set a)
      → P (settled a i home).rounds S
  unfolding settled
  settled_keeps P keep h = rw zero-add at (settle_keeps round P keep (accepting_set a) 0 (accepting_set a) h)

  pub settled_fixed : round S ≡ S
  unfolding settled
  settled_fixed = settle_fixed round (λ x. refine_le a i (home x) x) (accepting_set a) (accepting_set a) (omega arith)

  few : (settled a i home).rounds + count a.states (has S) ≤ count a.states (accepts a)
  unfolding accepting_set
  few =
      (settled_keeps (λ r y. (y < 2 ^ a.states) × (r + count a.states (has y) ≤ count a.states (accepts a)))
      (λ r y ne h. (refine_lt a i (home y) y, omega (arith, refine_fewer a i (home y) y h.0 ne)))
      (mask_lt a.states (accepts a), omega (arith, count-mask a.states (accepts a)))
      ).1

  pub settled_is : Largest a (sets_of a i home)
  unfolding accepting_set sets_of
  settled_is = record {
    small = rw settled_fixed at (refine_lt a i (home S) S);
    accepting = λ q h. mask_in a.states (accepts a) q
        (settled_keeps (λ r y. Has y q → Has (accepting_set a) q) (λ r y _ k g. k (refine_in a i (home y) y q g).1) (λ g. g) h);
    leads = λ q e h u. admits-some a i (home S) S q e (stays_at a i (home S) S q (refine_in a i (home S) S q (rw settled_fixed h)).2 e u);
    largest = λ t X final leads. settled_keeps (λ r y. (q : ℕ) → q < a.states → X q → Has y q)
        (λ r y _ k q l x. in-refine a i (home y) y q l (k q l x) (all-stays a i (home y) y q λ e u. some-admits a i (home y) y q e
        (either (leads q e l x u) (λ z. inl (k (step a q e) (t q e) z)) inr)))
        (λ q l x. in-mask a.states (accepts a) q l (final q l x));
    few = omega (arith, few);
    lost = λ t P later first back. settled_keeps (λ r y. (q : ℕ) → q < a.states → has y q ≡ false → P r q)
        (λ r y _ k q l h. either (refine-out a i (home y) y q l h)
        (λ g. later r q (k q l g))
        (λ g. let n = admits-none a i (home y) y q g.0 g.2 in back r q g.0 l g.1 n.1 (k (step a q g.0) (t q g.0) n.0)))
        (λ q l h. first q l (mask-out a.states (accepts a) q l h));
  }

pub sets_are : (a : Automaton) (w : List ℕ) → Largest a (sets_for a w)
unfolding sets_for empty_sets
sets_are a [] = settled_is a 0 (λ x. x)
sets_are a (e ∷ w) = settled_is a (into a e (sets_for a w)) (λ x. (empty_sets a).winning)

pub is_resting : IsResting
is_resting a v w = let s = sets_are a w in record { accepting = λ q _ h. (s.accepting q h).1; leads = λ q e _. s.leads q e }

pub is-largest : IsLargest
is-largest a v w X h = (sets_are a w).largest (total a v) X h.accepting h.leads

pub rounds-bounded : RoundsBounded
rounds-bounded a v w = (sets_are a w).few
