-- Laws of one round.
use Prim.Native.Nat.{ℕ, ◌^◌, ◌<◌, ◌≤◌}
use mathlib.Core.Path.{◌≡◌}
use mathlib.Core.Logic.{◌⊎◌, inl, inr}
use mathlib.Core.Bool.{Bool, true, false, ◌&&◌, ◌||◌}
use Rattle.base.specs.Each.{count}
use Rattle.base.specs.Masks.{has}
use Rattle.base.proofs.Bools.{by, either, clash, and_left, and_right, and_both, and_none, or_some, or_left, or_right, or_neither}
use Rattle.base.proofs.Ranges.{each_at, each_all, each_fails}
use Rattle.base.proofs.Masks.{mask_in, in-mask, mask-out, mask_lt, mask-part, fewer_states}
use Rattle.automaton.specs.declared.Automaton.{Automaton}
use Rattle.automaton.specs.Automaton.{controllable, uncontrollable, step}
use Rattle.solver_sets.specs.Sets.{admits, stays, refine}
use Rattle.solver_sets.specs.Definition6.{States, Union, Uncontrollable}

-- the states of a set
abbrev pub Has : ℕ → States
Has x q = has x q ≡ true

-- X ⊆ Y, as sets of states
abbrev pub Part : ℕ → ℕ → Type 0
Part x y = (q : ℕ) → Has x q → Has y q

module _ (a : Automaton) (i home x q : ℕ) where
  -- one symbol's test
  pub admits-some : (e : ℕ) → admits a i home x q e ≡ true → Union (Has x) (Has i) (step a q e)
  unfolding admits
  admits-some e h = or_some (has x (step a q e)) (has i (step a q e)) h

  pub some-admits : (e : ℕ) → Union (Has x) (Has i) (step a q e) → admits a i home x q e ≡ true
  unfolding admits
  some-admits e h = either h (or_left (has i (step a q e))) (or_right (has x (step a q e)))

  pub admits-none : (e : ℕ) → admits a i home x q e ≡ false → (has x (step a q e) ≡ false) × (has i (step a q e) ≡ false)
  unfolding admits
  admits-none e h = or_neither (has x (step a q e)) (has i (step a q e)) h

  abbrev passes : ℕ → Bool
  passes e = controllable a e || admits a i home x q e

  -- all of them
  pub stays_at : stays a i home x q ≡ true → (e : ℕ) → Uncontrollable a e → admits a i home x q e ≡ true
  unfolding stays uncontrollable
  stays_at h e u =
      either (or_some (controllable a e) (admits a i home x q e) (each_at a.symbols passes h e u.0))
      (λ c. absurd (clash u.1 (rw c)))
      (λ d. d)

  pub all-stays : ((e : ℕ) → Uncontrollable a e → admits a i home x q e ≡ true) → stays a i home x q ≡ true
  unfolding stays uncontrollable
  all-stays h =
      each_all a.symbols passes λ e l.
      by (controllable a e) (or_left (admits a i home x q e)) (λ c. or_right (controllable a e) (h e (l, rw c)))

  pub stays-not : stays a i home x q ≡ false → (e : ℕ) × Uncontrollable a e × (admits a i home x q e ≡ false)
  unfolding stays uncontrollable
  stays-not h =
      let f = each_fails a.symbols passes h in
      let n = or_neither (controllable a f.0) (admits a i home x q f.0) f.2 in
      (f.0, (f.1, rw n.0), n.1)

module _ (a : Automaton) (i home x : ℕ) where
  abbrev left : ℕ → Bool
  left q = has x q && stays a i home x q

  pub refine_lt : refine a i home x < 2 ^ a.states
  unfolding refine
  refine_lt = mask_lt a.states left

  pub refine_le : refine a i home x ≤ x
  unfolding refine
  refine_le = mask-part a.states x (stays a i home x)

  pub refine_in : (q : ℕ) → Has (refine a i home x) q → (q < a.states) × Has x q × (stays a i home x q ≡ true)
  unfolding refine
  refine_in q h =
      let m = mask_in a.states left q h in
      (m.0, and_left (has x q) (stays a i home x q) m.1, and_right (has x q) (stays a i home x q) m.1)

  pub in-refine : (q : ℕ) → q < a.states → Has x q → stays a i home x q ≡ true → Has (refine a i home x) q
  unfolding refine
  in-refine q l h s = in-mask a.states left q l (and_both h s)

  -- a state that is not left: it was not there, or an uncontrollable symbol leads out
  pub refine-out : (q : ℕ) → q < a.states → has (refine a i home x) q ≡ false
      → (has x q ≡ false) ⊎ ((e : ℕ) × Uncontrollable a e × (admits a i home x q e ≡ false))
  unfolding refine
  refine-out q l h =
      either (and_none (has x q) (stays a i home x q) (mask-out a.states left q l h)) inl (λ s. inr (stays-not a i home x q s))

  -- a round that strikes leaves fewer states
  pub refine_fewer : x < 2 ^ a.states → (refine a i home x ≡ x → ⊥) → count a.states (has (refine a i home x)) < count a.states (has x)
  refine_fewer b ne = fewer_states a.states x (refine a i home x) b refine_lt (λ q h. (refine_in q h).1) ne
