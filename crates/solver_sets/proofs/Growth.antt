-- The intermediate set of a longer buffer; an event added at the end takes no state away.
use Prim.Native.Nat.{ℕ, ◌<◌}
use mathlib.Core.Logic.{inl, inr}
use mathlib.Core.Bool.{Bool, ◌||◌}
use mathlib.Core.List.{List, [], ◌∷◌, ◌++◌}
use Rattle.base.specs.Masks.{has}
use Rattle.base.proofs.Bools.{either, clash, or_some, or_left, or_right}
use Rattle.base.proofs.Masks.{has-nothing, mask_in, in-mask}
use Rattle.automaton.specs.declared.Automaton.{Automaton}
use Rattle.automaton.specs.Automaton.{step}
use Rattle.solver_sets.specs.Sets.{Sets, sets_of, empty_sets, into, sets_for}
use Rattle.solver_sets.specs.Definition6.{Union}
use Rattle.solver_sets.specs.Claims.{Winning, Intermediate, UnionAddsNothing}
use Rattle.solver_sets.proofs.Total.{Total, total}
use Rattle.solver_sets.proofs.Refining.{Has}
use Rattle.solver_sets.proofs.Largest.{sets_are}

-- the states that e takes into S or I
module _ (a : Automaton) (e : ℕ) (t : Sets) where
  abbrev leads : ℕ → Bool
  leads q = has t.winning (step a q e) || has t.intermediate (step a q e)

  pub into_in : (q : ℕ) → Has (into a e t) q → (q < a.states) × Union (Has t.winning) (Has t.intermediate) (step a q e)
  unfolding into
  into_in q h =
      let m = mask_in a.states leads q h in
      (m.0, or_some (has t.winning (step a q e)) (has t.intermediate (step a q e)) m.1)

  pub in-into : (q : ℕ) → q < a.states → Union (Has t.winning) (Has t.intermediate) (step a q e) → Has (into a e t) q
  unfolding into
  in-into q l h =
      in-mask a.states leads q l
      (either h (or_left (has t.intermediate (step a q e))) (or_right (has t.winning (step a q e))))

module _ (a : Automaton) where
  pub none-intermediate : (q : ℕ) → Intermediate a [] q → ⊥
  unfolding sets_for empty_sets sets_of
  none-intermediate q h = clash h (has-nothing q)

  pub intermediate-first : (e : ℕ) (w : List ℕ) (q : ℕ) → Intermediate a (e ∷ w) q → (q < a.states) × Union (Winning a w) (Intermediate a w) (step a q e)
  unfolding sets_for sets_of
  intermediate-first e w q h = into_in a e (sets_for a w) q h

  pub first-intermediate : (e : ℕ) (w : List ℕ) (q : ℕ) → q < a.states → Union (Winning a w) (Intermediate a w) (step a q e) → Intermediate a (e ∷ w) q
  unfolding sets_for sets_of
  first-intermediate e w q l h = in-into a e (sets_for a w) q l h

module _ (a : Automaton) (t : Total a) where
  -- S grows where I does
  winning_grows : (v w : List ℕ) → ((q : ℕ) → Intermediate a v q → Intermediate a w q) → (q : ℕ) → Winning a v q → Winning a w q
  winning_grows v w grows q h =
      let s = sets_are a v in
      (sets_are a w).largest t (Winning a v) (λ q _ x. (s.accepting q x).1)
      (λ q e _ x u. either (s.leads q e x u) inl (λ y. inr (grows (step a q e) y)))
      q (s.accepting q h).0 h

  pub intermediate_end : (w : List ℕ) (e q : ℕ) → Intermediate a w q → Intermediate a (w ++ e ∷ []) q
  intermediate_end [] e q h = absurd (none-intermediate a q h)
  intermediate_end (d ∷ w) e q h =
      let f = intermediate-first a d w q h in
      first-intermediate a d (w ++ e ∷ []) q f.0
      (either f.1
      (λ x. inl (winning_grows w (w ++ e ∷ []) (intermediate_end w e) (step a q d) x))
      (λ y. inr (intermediate_end w e (step a q d) y)))

  pub winning-end : (w : List ℕ) (e q : ℕ) → Winning a w q → Winning a (w ++ e ∷ []) q
  winning-end w e = winning_grows w (w ++ e ∷ []) (intermediate_end w e)

pub union_adds_nothing : UnionAddsNothing
union_adds_nothing a v w e q _ = (winning-end a (total a v) w e q, intermediate_end a (total a v) w e q)
