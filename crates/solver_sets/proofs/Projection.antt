-- Where an automaton may rest, its image under a projection may rest.
use Prim.Native.Nat.{ℕ, ◌<◌}
use mathlib.Core.Path.{◌≡◌, refl, ◌∙◌, ap, subst}
use mathlib.Core.Logic.{inl, inr}
use mathlib.Core.List.{List, [], ◌∷◌}
use native.Mathlib.Omega.{arith}
use Rattle.base.specs.All.{AllOf}
use Rattle.base.proofs.Bools.{either}
use Rattle.automaton.specs.declared.Automaton.{Automaton}
use Rattle.automaton.specs.Automaton.{class, controllable, uncontrollable, step}
use Rattle.solver_sets.specs.Definition6.{States, Union, Final, Uncontrollable}
use Rattle.solver_sets.specs.Claims.{Winning, Intermediate, Projects, ImagesRest}
use Rattle.solver_sets.proofs.Total.{Total, total}
use Rattle.solver_sets.proofs.Largest.{sets_are}
use Rattle.solver_sets.proofs.Growth.{none-intermediate, intermediate-first, first-intermediate}

-- over the same symbols, of the same classes, those that may not be held back are the same
pub same-free : (c a : Automaton) → c.symbols ≡ a.symbols → ((e : ℕ) → class c e ≡ class a e) → (e : ℕ) → Uncontrollable a e → Uncontrollable c e
unfolding uncontrollable controllable
same-free c a symbols classes e (l, u) = (omega arith, rw (classes e) u)

module _ (c a : Automaton) (tc : Total c) (ta : Total a) (π : ℕ → ℕ) (p : Projects c a π) where
  -- the states that one of X is mapped to
  abbrev Image : States → States
  Image X r = (q : ℕ) × (q < c.states) × (π q ≡ r) × X q

  abbrev Rests : List ℕ → Type 0
  Rests w = (q : ℕ) → q < c.states → Winning c w q → Winning a w (π q)

  abbrev Releases : List ℕ → Type 0
  Releases w = (q : ℕ) → q < c.states → Intermediate c w q → Intermediate a w (π q)

  -- the image of S is a set of accepting states that every uncontrollable symbol leads into it or
  -- into I, and S of the other automaton is the largest one
  image_rests : (w : List ℕ) → Releases w → Rests w
  image_rests w releases q l h =
      (sets_are a w).largest ta (Image (Winning c w))
      (λ r _ x. subst (Final a) x.2 (p.final x.0 x.1 ((sets_are c w).accepting x.0 x.3).1))
      (λ r e _ x u.
      let g = p.free e u in
      let s = step c x.0 e in
      let on : π s ≡ step a r e = p.steps x.0 e x.1 g.0 ∙ ap (λ z. step a z e) x.2 in
      either ((sets_are c w).leads x.0 e x.3 g)
      (λ y. inl (s, tc x.0 e, on, y))
      (λ y. inr (subst (Intermediate a w) on (releases s (tc x.0 e) y))))
      (π q) (p.below q l) (q, l, refl, h)

  -- along the buffer
  projected : (w : List ℕ) → AllOf (λ e. e < c.symbols) w → Rests w × Releases w
  projected [] b =
      let none : Releases [] = λ q _ h. absurd (none-intermediate c q h) in
      (image_rests [] none, none)
  projected (e ∷ w) b =
      let k = projected w b.1 in
      let releases : Releases (e ∷ w) = λ q l h.
      let f = intermediate-first c e w q h in
      first-intermediate a e w (π q) (p.below q l)
      (subst (Union (Winning a w) (Intermediate a w)) (p.steps q e l b.0)
      (either f.1 (λ x. inl (k.0 (step c q e) (tc q e) x)) (λ y. inr (k.1 (step c q e) (tc q e) y)))) in
      (image_rests (e ∷ w) releases, releases)

pub images_rest : ImagesRest
images_rest c a vc va π p w b q l =
    let k = projected c a (total c vc) (total a va) π p w b in
    (k.0 q l, λ h. either h (λ x. inl (k.0 q l x)) (λ y. inr (k.1 q l y)), k.1 q l)
