-- With n rounds the two questions agree with the sets.
use Prim.Native.Nat.{ℕ, zero, suc, ◌+◌, ◌<◌, ◌≤◌}
use mathlib.Core.Path.{◌≡◌, sym, ◌∙◌, ap₂}
use mathlib.Core.Bool.{Bool, true, false, ◌||◌}
use mathlib.Core.List.{List, [], ◌∷◌}
use native.Mathlib.Omega.{arith}
use Rattle.base.specs.Masks.{has}
use Rattle.base.specs.Rows.{first}
use Rattle.base.proofs.Bools.{by, either, clash, and_both, and-right_false, or_some, or_left, or_right, same_test}
use Rattle.base.proofs.Ranges.{each_all, each_false, count-max}
use Rattle.automaton.specs.declared.Automaton.{Automaton}
use Rattle.automaton.specs.Automaton.{controllable, uncontrollable, accepts, step, valid}
use Rattle.automaton.proofs.Facts.{valid_facts}
use Rattle.solver_sets.specs.Sets.{sets_for}
use Rattle.solver_sets.specs.Definition6.{Uncontrollable}
use Rattle.solver_sets.specs.Claims.{Winning}
use Rattle.solver_sets.proofs.Total.{Total, total}
use Rattle.solver_sets.proofs.Largest.{sets_are}
use Rattle.solver_sets.proofs.Growth.{none-intermediate, intermediate-first, first-intermediate}
use Rattle.configuration.specs.declared.Configuration.{Configuration}
use Rattle.configuration.specs.Configuration.{held_events, consistent}
use Rattle.configuration.proofs.Facts.{consistent_facts}
use Rattle.game.specs.Game.{rests_by, releases, may_rest, can_rest, game_refusal, verdict}
use Rattle.game.specs.Claims.{Agrees, VerdictAgrees}

-- resting, where what releasing comes to is the intermediate set
module _ (a : Automaton) (t : Total a) (w : List ℕ) (released : ℕ → Bool)
    (is : (q : ℕ) → q < a.states → released q ≡ has (sets_for a w).intermediate q) where
  abbrev turn : ℕ → ℕ → ℕ → Bool
  turn r q e = controllable a e || (rests_by a released r (step a q e) || released (step a q e))

  -- whatever the rounds, the winning states rest
  winning-rests : (r q : ℕ) → Winning a w q → rests_by a released r q ≡ true
  unfolding rests_by uncontrollable
  winning-rests zero q h = ((sets_are a w).accepting q h).1
  winning-rests (suc r) q h =
      and_both ((sets_are a w).accepting q h).1
      (each_all a.symbols (turn r q) λ e l.
      by (controllable a e) (or_left (rests_by a released r (step a q e) || released (step a q e)))
      (λ c. or_right (controllable a e)
      (either ((sets_are a w).leads q e h (l, rw c))
      (λ s. or_left (released (step a q e)) (winning-rests r (step a q e) s))
      (λ i. or_right (rests_by a released r (step a q e)) (is (step a q e) (t q e) ∙ i)))))

  -- a state that was struck in round r does not rest with r rounds or more
  abbrev Restless : ℕ → ℕ → Type 0
  Restless r q = (k : ℕ) → r ≤ k → rests_by a released k q ≡ false

  restless_first : (q : ℕ) → accepts a q ≡ false → Restless 0 q
  unfolding rests_by
  restless_first q h zero l = h
  restless_first q h (suc k) l = rw h

  restless_back : (r q e : ℕ) → Uncontrollable a e → has (sets_for a w).intermediate (step a q e) ≡ false → Restless r (step a q e) → Restless (r + 1) q
  unfolding rests_by uncontrollable
  restless_back r q e u i h zero l = absurd (omega arith)
  restless_back r q e u i h (suc k) l =
      let c : controllable a e ≡ false = by (controllable a e) (λ d. absurd (clash u.1 (rw d))) (λ d. d) in
      and-right_false (accepts a q)
      (each_false a.symbols (turn k q) e u.0 (rw (c, h k (omega arith), is (step a q e) (t q e) ∙ i)))

  rests_are : (q : ℕ) → q < a.states → rests_by a released a.states q ≡ has (sets_for a w).winning q
  rests_are q l =
      by (has (sets_for a w).winning q)
      (λ h. winning-rests a.states q h ∙ sym h)
      (λ h.
      let s = sets_are a w in
      s.lost t Restless
      (λ r q f k b. f k (omega arith))
      (λ q _. restless_first q)
      (λ r q e _. restless_back r q e)
      q l h a.states (omega (arith, s.few, count-max a.states (accepts a))) ∙ sym h)

-- releasing comes to rest exactly from the intermediate set
module _ (a : Automaton) (t : Total a) where
  releases_are : (w : List ℕ) (q : ℕ) → q < a.states → releases a w q ≡ has (sets_for a w).intermediate q
  unfolding releases
  releases_are [] q l = by (has (sets_for a []).intermediate q) (λ h. absurd (none-intermediate a q h)) sym
  releases_are (e ∷ w) q l =
      let p : ℕ = step a q e in
      let s : ℕ = (sets_for a w).winning in
      let i : ℕ = (sets_for a w).intermediate in
      ap₂ ◌||◌ (rests_are a t w (releases a w) (releases_are w) p (t q e)) (releases_are w p (t q e)) ∙
      same_test (has s p || has i p) (has (sets_for a (e ∷ w)).intermediate q)
      (λ h. first-intermediate a e w q l (or_some (has s p) (has i p) h))
      (λ h. either (intermediate-first a e w q h).1 (or_left (has i p)) (or_right (has s p)))

pub agrees : Agrees
unfolding may_rest can_rest
agrees a v w q l =
    let t = total a v in
    let may = rests_are a t w (releases a w) (releases_are a t w) q l in
    (may, ap₂ ◌||◌ may (releases_are a t w q l))

-- a call that no row refuses
module _ (a : Automaton) (c : Configuration) where
  not-refused : game_refusal a c ≡ 0 → (valid a ≡ true) × (consistent a c ≡ true)
  unfolding game_refusal first
  not-refused h =
      by (valid a)
      (λ v. by (consistent a c)
      (λ k. (v, k))
      (λ k. absurd (let z : 13 ≡ 0 = rw (v, k) at h in omega arith)))
      (λ v. absurd (let z : 11 ≡ 0 = rw v at h in omega arith))

pub verdict-agrees : VerdictAgrees
unfolding verdict
verdict-agrees a c h =
    let p = not-refused a c h in
    let k = consistent_facts a c (valid_facts a p.0) p.1 in
    rw h (agrees a p.0 (held_events c) c.state k.state-below)
