-- One round, and how many rounds there are.
use Prim.Native.Nat.{ℕ, ◌+◌, ◌-◌, ◌^◌, ◌<◌, ◌≤◌}
use mathlib.Core.Path.{◌≡◌, refl, sym, ◌∙◌}
use mathlib.Core.List.{List}
use mathlib.Core.Bool.{Bool, true, false, ◌&&◌, ◌||◌, and-true}
use native.Mathlib.Nat.{mod-le, mod-eq_of_lt}
use native.Mathlib.Omega.{arith}
use lib.Bits.{bit_or}
use lib.Dec.{eqb, leb}
use lib.ListN.{get_or}
use borrow.Author.Tests.{le-leb, lt-leb, leb-true, leb-false, eqb-true, eqb-false}
use Rattle.base.specs.Each.{each, count}
use Rattle.base.specs.Masks.{has, mask}
use Rattle.base.proofs.Bools.{by, and_left, and_both}
use Rattle.base.proofs.Ranges.{each_more, each_false, count-max}
use Rattle.base.proofs.Masks.{has-nothing, mask_lt, mask_in, mask-part, mask-has, mask-same, mask-without, fewer_states}
use Rattle.solver_sets.proofs.Rounds.{settle_keeps}
use Rattle.automaton.specs.Arrays.{goes}
use Rattle.solver_rounds.specs.Rounds.{leads, left_of, settled_on, predecessors}

-- the scan of a state's symbols
module _ (next free : List ℕ) (x q : ℕ) where
  abbrev into : ℕ → Bool
  into k = has x (goes next q (get_or free k 0))

  pub scan_none : leads next free 0 x q ≡ true
  unfolding leads each
  scan_none = refl

  pub scan_more : (k : ℕ) → leads next free k x q ≡ true → into k ≡ true → leads next free (k + 1) x q ≡ true
  unfolding leads
  scan_more k h g = each_more k into ∙ and_both h g

  -- a bad symbol
  pub scan_fails : (k u : ℕ) → k < u → into k ≡ false → leads next free u x q ≡ false
  unfolding leads
  scan_fails k u l h = each_false u into k l h

-- what a round leaves
module _ (next free : List ℕ) (n u i : ℕ) where
  abbrev round : ℕ → ℕ
  round = left_of next free n u i

  abbrev left : ℕ → ℕ → Bool
  left x q = has x q && leads next free u (bit_or x i) q

  pub left_le : (x : ℕ) → round x ≤ x
  unfolding left_of
  left_le x = mask-part n x (leads next free u (bit_or x i))

  pub left_lt : (x : ℕ) → round x < 2 ^ n
  unfolding left_of
  left_lt x = mask_lt n (left x)

  left_in : (x q : ℕ) → has (round x) q ≡ true → has x q ≡ true
  unfolding left_of
  left_in x q h = and_left (has x q) (leads next free u (bit_or x i) q) (mask_in n (left x) q h).1

  -- what is left of x when the states below q are looked at
  pub left_to : ℕ → ℕ → ℕ → Bool
  left_to x q p = has x p && (leb q p || leads next free u (bit_or x i) p)

  pub record Leaving (x q set : ℕ) : Type 0 where
    pub left_is : set ≡ mask n (left_to x q)

  leave_other : (x q p : ℕ) → (p ≡ q → ⊥) → left_to x q p ≡ left_to x (q + 1) p
  unfolding left_to
  leave_other x q p h =
      by (leb q p)
      (λ e. let l : q + 1 ≤ p = omega (arith, leb-true q p e) in rw (e, le-leb (q + 1) p l))
      (λ e. let l : p < q + 1 = omega (arith, leb-false q p e) in rw (e, lt-leb (q + 1) p l))

  pub leave_none : (x : ℕ) → x < 2 ^ n → Leaving x 0 x
  unfolding left_to
  leave_none x h = record {
    left_is = sym (mod-eq_of_lt h) ∙ sym (mask-has n x) ∙ mask-same n (has x) (left_to x 0)
        (λ p _. let l : 0 ≤ p = omega arith in rw (le-leb 0 p l) (sym (and-true (has x p))));
  }

  module _ (x q set : ℕ) (s : Leaving x q set) where
    -- it stays, or it was not there
    pub leave_stays : leads next free u (bit_or x i) q ≡ true → Leaving x (q + 1) set
    unfolding left_to
    leave_stays h = record {
      left_is = s.left_is ∙ mask-same n (left_to x q) (left_to x (q + 1))
          (λ p _. by (eqb p q)
          (λ e. let l : q ≤ q = omega arith in let m : q < q + 1 = omega arith in rw (eqb-true p q e, le-leb q q l, lt-leb (q + 1) q m, h))
          (λ e. leave_other x q p (eqb-false p q e)));
    }

    pub leave_absent : has x q ≡ false → Leaving x (q + 1) set
    unfolding left_to
    leave_absent h = record {
      left_is = s.left_is ∙ mask-same n (left_to x q) (left_to x (q + 1))
          (λ p _. by (eqb p q) (λ e. rw (eqb-true p q e, h)) (λ e. leave_other x q p (eqb-false p q e)));
    }

    -- it is taken out
    module _ (l : q < n) (h : has x q ≡ true) (f : leads next free u (bit_or x i) q ≡ false) where
      taken : set ≡ mask n (left_to x (q + 1)) + 2 ^ q
      unfolding left_to
      taken =
          let a : q ≤ q = omega arith in
          let b : q < q + 1 = omega arith in
          s.left_is ∙ mask-without n (left_to x q) (left_to x (q + 1)) q l (rw (h, le-leb q q a)) (rw (h, lt-leb (q + 1) q b, f)) (leave_other x q)

      pub leave_room : {b : ℕ} → b ≡ 2 ^ q → b ≤ set
      leave_room e = omega (arith, taken)

      pub leave_taken : {b : ℕ} → b ≡ 2 ^ q → Leaving x (q + 1) (set - b)
      leave_taken e = record { left_is = omega (arith, taken) }

    pub leave_all : q ≡ n → set ≡ left_of next free n u i x
    unfolding left_of left_to
    leave_all e = s.left_is ∙ mask-same n (left_to x q) (left x) (λ p l. let m : p < q = omega arith in rw (lt-leb q p m))

  -- the rounds are at most the states
  pub settled-few : (x : ℕ) → x < 2 ^ n → (settled_on next free n u i x).rounds ≤ n
  unfolding settled_on
  settled-few x small =
      omega (
        arith,
        (settle_keeps round (λ r y. (y < 2 ^ n) × (r + count n (has y) ≤ n))
            (λ r y ne h. (left_lt y, omega (arith, h.1, fewer_states n y (round y) h.0 (left_lt y) (left_in y) ne)))
            x 0 x (small, omega (arith, count-max n (has x)))).1,
      )

-- nothing leads into the empty set
pub predecessors-none : (next : List ℕ) (n e : ℕ) → predecessors next n e 0 ≡ 0
unfolding predecessors
predecessors-none next n e =
    let none = mask-same n (λ q. has 0 (goes next q e)) (has 0) (λ q _. has-nothing (goes next q e) ∙ sym (has-nothing q)) in
    omega (arith, none, mask-has n 0, mod-le 0 (2 ^ n))
