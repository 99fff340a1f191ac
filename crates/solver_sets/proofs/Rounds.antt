-- Rounds until one strikes nothing.
use Prim.Native.Nat.{ℕ, zero, suc, ◌+◌, ◌<◌, ◌≤◌}
use mathlib.Core.Path.{◌≡◌, refl, sym, ◌∙◌, ap}
use native.Mathlib.Nat.{add-zero}
use native.Mathlib.Omega.{arith}
use lib.Dec.{eqb}
use borrow.Author.Tests.{eqb-true, eqb-false, eq-eqb, ne_eqb}
use Rattle.base.proofs.Bools.{by}
use Rattle.solver_sets.specs.Sets.{Settled, again, settle}

-- r more rounds
abbrev pub more : ℕ → Settled → Settled
more r s = record { set = s.set; rounds = r + s.rounds }

equal : {s t : Settled} → s.set ≡ t.set → s.rounds ≡ t.rounds → s ≡ t
equal a b = λ j. record { set = a j; rounds = b j }

-- a loop of rounds: what is settled on from the start is what is settled on from here, with the
-- rounds that struck
pub record Refining (round : ℕ → ℕ) (from set rounds : ℕ) : Type 0 where
  pub so_far : settle round from from ≡ more rounds (settle round set set)
  pub few : rounds + set ≤ from

module _ (round : ℕ → ℕ) where
  pub settle_stops : (k x : ℕ) → round x ≡ x → settle round k x ≡ record { set = x; rounds = 0 }
  unfolding settle
  settle_stops zero x h = refl
  settle_stops (suc k) x h = rw (eq-eqb (round x) x h)

  pub settle_removes : (k x : ℕ) → (round x ≡ x → ⊥) → settle round (suc k) x ≡ again (settle round k (round x))
  unfolding settle
  settle_removes k x h = rw (ne_eqb (round x) x h)

  -- what holds of the start and is kept by a round that strikes holds of the settled set
  pub settle_keeps : (P : ℕ → ℕ → Type 0) → ((r x : ℕ) → (round x ≡ x → ⊥) → P r x → P (r + 1) (round x)) → (k r x : ℕ) → P r x
      → P (r + (settle round k x).rounds) (settle round k x).set
  unfolding settle
  settle_keeps P keep zero r x h = rw (add-zero r) h
  settle_keeps P keep (suc k) r x h =
      by (eqb (round x) x)
      (λ e. rw (e, add-zero r) h)
      (λ e.
      let one : r + ((settle round k (round x)).rounds + 1) ≡ r + 1 + (settle round k (round x)).rounds = omega arith in
      rw (e, one) (settle_keeps P keep k (r + 1) (round x) (keep r x (eqb-false (round x) x e) h)))

  pub refine-none : (x : ℕ) → Refining round x x 0
  refine-none x = record { so_far = equal refl (omega arith); few = omega arith }

  module _ (less : (x : ℕ) → round x ≤ x) where
    -- the fuel does not matter where there is enough
    pub settle_fuel : (k m x : ℕ) → x ≤ k → x ≤ m → settle round k x ≡ settle round m x
    settle_fuel zero m x a b =
        let e : round x ≡ x = omega (arith, less x) in
        settle_stops 0 x e ∙ sym (settle_stops m x e)
    settle_fuel (suc k) zero x a b =
        let e : round x ≡ x = omega (arith, less x) in
        settle_stops (suc k) x e ∙ sym (settle_stops 0 x e)
    settle_fuel (suc k) (suc m) x a b =
        by (eqb (round x) x)
        (λ e. let f = eqb-true (round x) x e in settle_stops (suc k) x f ∙ sym (settle_stops (suc m) x f))
        (λ e. let f = eqb-false (round x) x e in
        settle_removes k x f ∙ ap again (settle_fuel k m (round x) (omega (arith, less x)) (omega (arith, less x))) ∙ sym (settle_removes m x f))

    -- the settled set: a round strikes nothing of it
    pub settle_fixed : (k x : ℕ) → x ≤ k → round (settle round k x).set ≡ (settle round k x).set
    settle_fixed zero x h = let e : round x ≡ x = omega (arith, less x) in rw (settle_stops 0 x e) e
    settle_fixed (suc k) x h =
        by (eqb (round x) x)
        (λ e. let f = eqb-true (round x) x e in rw (settle_stops (suc k) x f) f)
        (λ e. let f = eqb-false (round x) x e in rw (settle_removes k x f) (settle_fixed k (round x) (omega (arith, less x))))

    module _ (from set rounds kept : ℕ) (s : Refining round from set rounds) (one : kept ≡ round set) where
      pub refine_smaller : (kept ≡ set → ⊥) → kept < set
      refine_smaller h = omega (arith, less set, h)

      pub refine-more : (kept ≡ set → ⊥) → Refining round from kept (rounds + 1)
      refine-more h =
          let fall = refine_smaller h in
          let turn = settle_fuel set (suc set) set (omega arith) (omega arith) ∙ settle_removes set set (λ e. h (one ∙ e)) in
          let later : settle round set (round set) ≡ settle round kept kept = rw (← one) (settle_fuel set kept kept (omega arith) (omega arith)) in
          record {
            so_far = s.so_far ∙ ap (more rounds) (turn ∙ ap again later) ∙ equal refl (omega arith);
            few = omega arith;
          }

      pub refine-done : kept ≡ set → record { set = set; rounds = rounds } ≡ settle round from from
      refine-done h = sym (s.so_far ∙ ap (more rounds) (settle_stops set set (sym one ∙ h)) ∙ equal refl (omega arith))
