-- Coming to rest: where some front part of the buffer brings the monitor to rest, the longest
-- does.
use Prim.Native.Nat.{ℕ, zero, suc, ◌<◌, ◌≤◌}
use mathlib.Core.Path.{◌≡◌}
use mathlib.Core.Logic.{inl, inr}
use mathlib.Core.Bool.{true}
use mathlib.Core.List.{List, [], ◌∷◌}
use native.Mathlib.Omega.{arith}
use lib.ListN.{length, take, drop}
use Rattle.base.proofs.Bools.{by, either}
use Rattle.automaton.specs.declared.Automaton.{Automaton}
use Rattle.automaton.specs.Automaton.{controllable, uncontrollable, step, reached}
use Rattle.solver_sets.specs.Definition6.{States, Union}
use Rattle.solver_sets.specs.Claims.{Winning, Intermediate}
use Rattle.solver_sets.proofs.Total.{Total}
use Rattle.solver_sets.proofs.Largest.{sets_are}
use Rattle.solver_sets.proofs.Growth.{none-intermediate, intermediate-first, first-intermediate, winning-end}
use Rattle.monitor_rule.specs.Step.{by_sets, qualifies, remaining, arrival, effect}
use Rattle.monitor_rule.proofs.Longest.{release-longest}

module _ (a : Automaton) where
  -- it can come to rest: at once, or when it has released
  abbrev pub Comes : List ℕ → States
  Comes w = Union (Winning a w) (Intermediate a w)

  -- then some front part qualifies, ..
  comes_by : (w : List ℕ) (q : ℕ) → Comes w q → (k : ℕ) × (k ≤ length w) × (qualifies (by_sets a) a q w k ≡ true)
  unfolding qualifies by_sets reached
  comes_by [] q c = either c (λ h. (0, omega arith, h)) (λ h. absurd (none-intermediate a q h))
  comes_by (e ∷ w) q c =
      either c
      (λ h. (0, omega arith, h))
      (λ h. let r = comes_by w (step a q e) (intermediate-first a e w q h).1 in (suc r.0, omega arith, r.2))

  -- .. and then only
  pub by_comes : Total a → (w : List ℕ) (k q : ℕ) → q < a.states → Winning a (drop k w) (reached a q (take k w)) → Comes w q
  unfolding reached
  by_comes t w zero q l h = inl h
  by_comes t [] (suc k) q l h = inl h
  by_comes t (e ∷ w) (suc k) q l h = inr (first-intermediate a e w q l (by_comes t w k (step a q e) (t q e) h))

  -- an accepted event leaves a winning monitor where it can come to rest
  arrival_comes : Total a → (q : ℕ) (w : List ℕ) (e : ℕ) → e < a.symbols → Winning a w q → Comes (arrival a q w e).buffer (arrival a q w e).state
  unfolding arrival remaining uncontrollable
  arrival_comes t q w e l h =
      by (controllable a e)
      (λ c. rw c (inl (winning-end a t w e q h)))
      (λ c. rw c ((sets_are a w).leads q e h (l, rw c)))

  -- and it does
  pub effect-wins : Total a → (q : ℕ) (w : List ℕ) (e : ℕ) → e < a.symbols → Winning a w q
      → Winning a (effect (by_sets a) a q w e).buffer (effect (by_sets a) a q w e).state
  unfolding effect qualifies by_sets
  effect-wins t q w e l h =
      let x = arrival a q w e in
      let r = comes_by x.buffer x.state (arrival_comes t q w e l h) in
      (release-longest (by_sets a) a x.state x.buffer r.0 r.1 r.2).0
