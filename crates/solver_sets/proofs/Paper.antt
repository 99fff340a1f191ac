-- Definition 6 of source document 000: the sets satisfy it, and nothing else does.
use Prim.Native.Nat.{ℕ, zero, suc, ◌<◌, ◌≤◌}
use mathlib.Core.Path.{◌≡◌, refl, ap, subst}
use mathlib.Core.Logic.Iff
use mathlib.Core.Logic.{inl, inr, ◌↔◌}
use mathlib.Core.Bool.{Bool}
use mathlib.Core.List.{List, [], ◌∷◌, ◌++◌}
use native.Mathlib.Omega.{arith}
use lib.ListN.{length}
use Rattle.base.specs.Masks.{has}
use Rattle.base.proofs.Bools.{by, either, clash}
use Rattle.automaton.specs.declared.Automaton.{Automaton}
use Rattle.automaton.specs.Automaton.{step, reached}
use Rattle.solver_sets.specs.Sets.{sets_for}
use Rattle.solver_sets.specs.Table.{Controllable}
use Rattle.solver_sets.specs.Definition6.{States, In, Final, AllUncontrollable, Family, Definition6}
use Rattle.solver_sets.specs.Claims.{Winning, Intermediate, SatisfyDefinition6, OnlyDefinition6}
use Rattle.solver_sets.proofs.Total.{Total, total}
use Rattle.solver_sets.proofs.Largest.{sets_are}
use Rattle.solver_sets.proofs.Growth.{none-intermediate, intermediate-first, first-intermediate, winning-end}

module _ (a : Automaton) (t : Total a) where
  -- S of the empty buffer: every list of uncontrollable symbols stays accepting
  abbrev Stays : States
  Stays q = (σ : List ℕ) → AllUncontrollable a σ → Final a (reached a q σ)

  winning-stays : (q : ℕ) → Winning a [] q → Stays q
  unfolding reached
  winning-stays q h [] u = ((sets_are a []).accepting q h).1
  winning-stays q h (e ∷ σ) u =
      either ((sets_are a []).leads q e h u.0)
      (λ x. winning-stays (step a q e) x σ u.1)
      (λ y. absurd (none-intermediate a (step a q e) y))

  stays-winning : (q : ℕ) → q < a.states → Stays q → Winning a [] q
  unfolding reached
  stays-winning =
      (sets_are a []).largest t Stays (λ q _ x. x [] tt) (λ q e _ x u. inl (λ σ g. x (e ∷ σ) (u, g)))

  -- the maximum of the family, where I is the intermediate set of w
  module _ (w : List ℕ) (I : States) (same-i : (q : ℕ) → q < a.states → I q ↔ Intermediate a w q) where
    member : Family a I (has (sets_for a w).winning)
    member = record {
      final = λ q _ h. ((sets_are a w).accepting q h).1;
      closed = λ q _ h. let u = h.1 in
          either ((sets_are a w).leads q u.0 h.0 u.1) (λ x. u.2 (inl x)) (λ y. u.2 (inr ((same-i (step a q u.0) (t q u.0)).1 y)));
    }

    within : (z : ℕ → Bool) → Family a I z → (q : ℕ) → q < a.states → In z q → Winning a w q
    within z f =
        (sets_are a w).largest t (In z) f.final
        λ q e l x u.
        by (z (step a q e)) inl λ m.
        by (has (sets_for a w).intermediate (step a q e)) inr λ n.
        absurd (f.closed q l (x, (e, u, λ o. either o (λ y. clash y m) (λ y. clash ((same-i (step a q e) (t q e)).0 y) n))))

pub satisfy_definition6 : SatisfyDefinition6
satisfy_definition6 a v =
    let t = total a v in
    record {
      I-empty = λ q _. none-intermediate a q;
      S-empty = λ q l. (λ h. (((sets_are a []).accepting q h).1, winning-stays a t q h), λ h. stays-winning a t q l h.1);
      I-first = λ e σ _ q l. (λ h. (intermediate-first a e σ q h).1, first-intermediate a e σ q l);
      S-last = λ σ e _.
          let w = σ ++ e ∷ [] in (
            has (sets_for a w).winning,
            record { member = member a t w (Intermediate a w) (λ _ _. Iff.rfl); largest = within a t w (Intermediate a w) (λ _ _. Iff.rfl) },
            λ q l. (inr, λ h. either h (winning-end a t σ e q) (λ x. x)),
          );
    }

-- a list by its last element
last : (e : ℕ) (w : List ℕ) → (u : List ℕ) × (d : ℕ) × (e ∷ w ≡ u ++ d ∷ []) × (length u ≡ length w)
last e [] = ([], e, refl, refl)
last e (c ∷ w) = let r = last c w in (e ∷ r.0, r.1, ap (λ l. e ∷ l) r.2, ap suc r.3)

-- the front of controllable symbols
front : (a : Automaton) (u w : List ℕ) → Controllable a (u ++ w) → Controllable a u
front a [] w c = tt
front a (e ∷ u) w c = (c.0, front a u w c.1)

module _ (a : Automaton) (t : Total a) (S I : List ℕ → States) (d : Definition6 a S I) where
  abbrev Same : List ℕ → Type 0
  Same w = (q : ℕ) → q < a.states → (S w q ↔ Winning a w q) × (I w q ↔ Intermediate a w q)

  same_first : (e : ℕ) (w : List ℕ) → Controllable a (e ∷ w) → Same w → (q : ℕ) → q < a.states → I (e ∷ w) q ↔ Intermediate a (e ∷ w) q
  same_first e w c s q l =
      let f = d.I-first e w c q l in
      let r = s (step a q e) (t q e) in (
        λ h. first-intermediate a e w q l (either (f.0 h) (λ x. inl (r.0.0 x)) (λ y. inr (r.1.0 y))),
        λ h. f.1 (either (intermediate-first a e w q h).1 (λ x. inl (r.0.1 x)) (λ y. inr (r.1.1 y))),
      )

  same-last : (u : List ℕ) (e : ℕ) → Controllable a (u ++ e ∷ []) → Same u
      → ((q : ℕ) → q < a.states → I (u ++ e ∷ []) q ↔ Intermediate a (u ++ e ∷ []) q) → Same (u ++ e ∷ [])
  same-last u e c s i q l =
      let w = u ++ e ∷ [] in
      let m = d.S-last u e c in (
        (
          λ h. either ((m.2 q l).0 h) (λ x. winning-end a t u e q ((s q l).0.0 x))
              (within a t w (I w) i m.0 m.1.member q l),
          λ h. (m.2 q l).1 (inr (m.1.largest (has (sets_for a w).winning) (member a t w (I w) i) q l h)),
        ),
        i q l,
      )

  same_none : Same []
  same_none q l =
      let s = d.S-empty q l in (
        (λ h. stays-winning a t q l (s.0 h).1, λ h. s.1 (((sets_are a []).accepting q h).1, winning-stays a t q h)),
        (λ h. absurd (d.I-empty q l h), λ h. absurd (none-intermediate a q h)),
      )

  same : (n : ℕ) (w : List ℕ) → length w ≤ n → Controllable a w → Same w
  same zero [] b c = same_none
  same zero (e ∷ w) b c = absurd (omega arith)
  same (suc n) [] b c = same_none
  same (suc n) (e ∷ w) b c =
      let r = last e w in
      let i = same_first e w c (same n w (omega arith) c.1) in
      let c' : Controllable a (r.0 ++ r.1 ∷ []) = subst (Controllable a) r.2 c in
      rw r.2 (same-last r.0 r.1 c' (same n r.0 (omega (arith, r.3)) (front a r.0 (r.1 ∷ []) c')) (rw r.2 at i))

pub only_definition6 : OnlyDefinition6
only_definition6 a v S I d w b = same a (total a v) S I d (length w) w (omega arith) b.0
