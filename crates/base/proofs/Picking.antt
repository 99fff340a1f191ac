-- Laws of `those`, of a loop that keeps them in an array, and of the last of a list.
use Prim.Native.Nat.{ℕ, zero, suc, ◌+◌, ◌<◌, ◌≤◌}
use mathlib.Core.Path.{◌≡◌, refl, ◌∙◌, ap, ap₂}
use mathlib.Core.Logic.{◌⊎◌, inl, inr}
use mathlib.Core.Bool.{Bool, true, false, cond}
use mathlib.Core.List.{List, [], ◌∷◌, ◌++◌, append-nil}
use native.Mathlib.Numerals.{add-one}
use native.Mathlib.Omega.{arith}
use lib.ListN.{length, get_or, set, take, length-append, get_or-append}
use lib.Seq.{get_or-append_seam, take-suc}
use lib.Dec.{eqb, ltb}
use borrow.Author.Tests.{eqb-true, eqb-false, ltb-true, ltb-false}
use Rattle.base.specs.Each.{those, last_or}
use Rattle.base.specs.Pad.{pad}
use Rattle.base.proofs.Bools.{by, either, clash}
use Rattle.base.proofs.Padding.{pad-set}

last_end : (d : ℕ) (xs : List ℕ) (x : ℕ) → last_or d (xs ++ x ∷ []) ≡ x
unfolding last_or
last_end d [] x = refl
last_end d (y ∷ xs) x = last_end y xs x

-- the last of the first n + 1 elements
pub last-first : (d : ℕ) (xs : List ℕ) (n : ℕ) → n < length xs → last_or d (take (n + 1) xs) ≡ get_or xs n 0
last-first d xs n h = rw (add-one n, take-suc xs n 0 h) (last_end d (take n xs) (get_or xs n 0))

-- the same test below n
pub those-same : (n : ℕ) (p r : ℕ → Bool) → ((k : ℕ) → k < n → p k ≡ r k) → those n p ≡ those n r
unfolding those
those-same zero p r h = refl
those-same (suc n) p r h =
    ap₂ ◌++◌ (those-same n p r (λ k l. h k (omega arith))) (ap (λ b. cond b (n ∷ []) []) (h n (omega arith)))

-- one more number, as a loop goes: the list has it too, or stays
module _ (n : ℕ) (p : ℕ → Bool) where
  pub those-taken : p n ≡ true → those (n + 1) p ≡ those n p ++ n ∷ []
  unfolding those
  those-taken h = rw (add-one n, h)

  pub those-passed : p n ≡ false → those (n + 1) p ≡ those n p
  unfolding those
  those-passed h = rw (add-one n, h) (append-nil (those n p))

pub those-few : (n : ℕ) (p : ℕ → Bool) → length (those n p) ≤ n
unfolding those
those-few zero p = omega arith
those-few (suc n) p =
    by (p n)
    (λ e. rw (e, length-append (those n p) (n ∷ [])) (omega (arith, those-few n p)))
    (λ e. rw (e, append-nil (those n p)) (omega (arith, those-few n p)))

-- a number below n that p holds of stands behind all such smaller ones
pub those-has : (n : ℕ) (p : ℕ → Bool) (k : ℕ) → k < n → p k ≡ true
    → (length (those k p) < length (those n p)) × (get_or (those n p) (length (those k p)) 0 ≡ k)
unfolding those
those-has zero p k l h = absurd (omega arith)
those-has (suc n) p k l h =
    by (eqb k n)
    (λ e.
    let f = eqb-true k n e in
    rw (f, rw f at h, length-append (those n p) (n ∷ [])) (omega arith, get_or-append_seam (those n p) n [] 0))
    (λ e.
    let g = those-has n p k (omega (arith, eqb-false k n e)) h in
    by (p n)
    (λ t. rw (t, length-append (those n p) (n ∷ []), get_or-append (those n p) (n ∷ []) 0 (length (those k p)) g.0) (omega (arith, g.0), g.1))
    (λ t. rw (t, append-nil (those n p)) g))

-- each number of the list is below n, and p holds of it; the list rises
module _ (n : ℕ) (p : ℕ → Bool) where
  those-inside : (i : ℕ) → i < length (those n p) → get_or (those n p ++ n ∷ []) i 0 ≡ get_or (those n p) i 0
  those-inside i = get_or-append (those n p) (n ∷ []) 0 i

  those-behind : (i : ℕ) → i ≡ length (those n p) → get_or (those n p ++ n ∷ []) i 0 ≡ n
  those-behind i e = rw e (get_or-append_seam (those n p) n [] 0)

pub those-holds : (n : ℕ) (p : ℕ → Bool) (i : ℕ) → i < length (those n p) → (get_or (those n p) i 0 < n) × (p (get_or (those n p) i 0) ≡ true)
unfolding those
those-holds zero p i l = absurd (omega arith)
those-holds (suc n) p i l =
    by (p n)
    (λ t.
    let l' : i < length (those n p ++ n ∷ []) = rw t at l in
    rw t (by (ltb i (length (those n p)))
    (λ u. let g = those-holds n p i (ltb-true i (length (those n p)) u) in
    rw (those-inside n p i (ltb-true i (length (those n p)) u)) (omega (arith, g.0), g.1))
    (λ u. rw (those-behind n p i (omega (arith, ltb-false i (length (those n p)) u, l', length-append (those n p) (n ∷ [])))) (omega arith, t))))
    (λ t.
    let l' : i < length (those n p) = rw (t, append-nil (those n p)) at l in
    let g = those-holds n p i l' in
    rw (t, append-nil (those n p)) (omega (arith, g.0), g.1))

pub those_rise : (n : ℕ) (p : ℕ → Bool) (i j : ℕ) → i < j → j < length (those n p) → get_or (those n p) i 0 < get_or (those n p) j 0
unfolding those
those_rise zero p i j r l = absurd (omega arith)
those_rise (suc n) p i j r l =
    by (p n)
    (λ t.
    let l' : j < length (those n p ++ n ∷ []) = rw t at l in
    rw t (by (ltb j (length (those n p)))
    (λ u.
    let h = ltb-true j (length (those n p)) u in
    rw (those-inside n p j h, those-inside n p i (omega arith)) (those_rise n p i j r h))
    (λ u.
    let e : j ≡ length (those n p) = omega (arith, ltb-false j (length (those n p)) u, l', length-append (those n p) (n ∷ [])) in
    rw (those-behind n p j e, those-inside n p i (omega arith)) (those-holds n p i (omega arith)).0)))
    (λ t.
    let l' : j < length (those n p) = rw (t, append-nil (those n p)) at l in
    rw (t, append-nil (those n p)) (those_rise n p i j r l'))

-- A loop that keeps the numbers below n of which a test holds, in an array that was 0: the array,
-- and how many they are.
pub record Picked (size : ℕ) (p : ℕ → Bool) (n : ℕ) (list : List ℕ) (count : ℕ) : Type 0 where
  pub stored : list ≡ pad size (those n p)
  pub counted : count ≡ length (those n p)

module _ {size : ℕ} {p : ℕ → Bool} {n : ℕ} {list : List ℕ} {count : ℕ} (g : Picked size p n list count) where
  pub picked_room : count ≤ n
  picked_room = omega (arith, g.counted, those-few n p)

  pub picked_more : n < size → p n ≡ true → Picked size p (n + 1) (set list count n) (count + 1)
  picked_more l h =
      record {
        stored = rw (g.stored, g.counted, those-taken n p h) (pad-set size (those n p) n (omega (arith, those-few n p)));
        counted = rw (those-taken n p h, length-append (those n p) (n ∷ [])) (omega (arith, g.counted));
      }

  pub picked_same : p n ≡ false → Picked size p (n + 1) list count
  picked_same h = record { stored = rw (those-passed n p h) g.stored; counted = rw (those-passed n p h) g.counted }

-- one more number: the last is it, or stays
module _ (d n : ℕ) (p : ℕ → Bool) where
  last-suc : last_or d (those (suc n) p) ≡ cond (p n) n (last_or d (those n p))
  unfolding those
  last-suc = by (p n) (λ e. rw e (last_end d (those n p) n)) (λ e. rw (e, append-nil (those n p)))

  pub last_taken : p n ≡ true → last_or d (those (n + 1) p) ≡ n
  last_taken h = ap (last_or d) (those-taken n p h) ∙ last_end d (those n p) n

-- the largest number below n that p holds of
pub record Greatest (n : ℕ) (p : ℕ → Bool) (k : ℕ) : Type 0 where
  pub below : k < n
  pub holds : p k ≡ true
  pub most : (j : ℕ) → j < n → p j ≡ true → j ≤ k

-- it is the last of those; d where there is none
pub last-those : (d n : ℕ) (p : ℕ → Bool)
    → Greatest n p (last_or d (those n p)) ⊎ (((j : ℕ) → j < n → p j ≡ false) × (last_or d (those n p) ≡ d))
unfolding those last_or
last-those d zero p = inr (λ j l. absurd (omega arith), refl)
last-those d (suc n) p =
    by (p n)
    (λ e.
    let last : last_or d (those (suc n) p) ≡ n = last-suc d n p ∙ rw e in
    inl (rw last (record { below = omega arith; holds = e; most = λ j l _. omega arith })))
    (λ e.
    let last : last_or d (those (suc n) p) ≡ last_or d (those n p) = last-suc d n p ∙ rw e in
    rw last (either (last-those d n p)
    (λ g. inl (record {
      below = omega (arith, g.below);
      holds = g.holds;
      most = λ j l h. by (eqb j n)
          (λ f. absurd (clash h (ap p (eqb-true j n f) ∙ e)))
          (λ f. g.most j (omega (arith, eqb-false j n f)) h);
    }))
    (λ g. inr (
      λ j l. by (eqb j n) (λ f. ap p (eqb-true j n f) ∙ e) (λ f. g.0 j (omega (arith, eqb-false j n f))),
      g.1,
    ))))
