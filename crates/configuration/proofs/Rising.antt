-- Places in the input that rise strictly below a count, and a position whose places and counts fit
-- together.
use Prim.Native.Nat.{ℕ, zero, suc, ◌+◌, ◌<◌}
use mathlib.Core.Path.{◌≡◌, refl}
use mathlib.Core.List.{List, [], ◌∷◌, ◌++◌}
use native.Mathlib.Omega.{arith}
use lib.Dec.{ltb}
use lib.ListN.{length, get_or, drop, length-append, length-drop, get_or-append}
use lib.Seq.{get_or-drop, get_or-append_seam}
use borrow.Author.Tests.{ltb-true, ltb-false}
use Rattle.base.proofs.Bools.{by}
use Rattle.configuration.specs.Configuration.{Position, empty_at}

pub record Rising (n : ℕ) (ps : List ℕ) : Type 0 where
  pub below : (i : ℕ) → i < length ps → get_or ps i 0 < n
  pub rises : (i : ℕ) → suc i < length ps → get_or ps i 0 < get_or ps (suc i) 0

-- any two of them
pub rising-between : (n : ℕ) (ps : List ℕ) → Rising n ps → (i j : ℕ) → i < j → j < length ps → get_or ps i 0 < get_or ps j 0
rising-between n ps r i zero l b = absurd (omega arith)
rising-between n ps r i (suc j) l b =
    by (ltb i j)
    (λ u. let before = rising-between n ps r i j (ltb-true i j u) (omega arith) in omega (arith, before, r.rises j b))
    (λ u. let e : i ≡ j = omega (arith, ltb-false i j u) in rw e (r.rises j b))

pub rising_none : (n : ℕ) → Rising n []
rising_none n = record { below = λ i l. absurd (omega arith); rises = λ i l. absurd (omega arith) }

-- below a greater count
pub rising-more : (n : ℕ) (ps : List ℕ) → Rising n ps → Rising (n + 1) ps
rising-more n ps r = record { below = λ i l. omega (arith, r.below i l); rises = r.rises }

-- what is left after a front part
pub rising-drop : (k n : ℕ) (ps : List ℕ) → Rising n ps → Rising n (drop k ps)
rising-drop k n ps r =
    record {
      below = λ i l. rw (get_or-drop k ps i 0) (r.below (k + i) (omega (arith, length-drop k ps)));
      rises = λ i l.
          let e : k + suc i ≡ suc (k + i) = omega arith in
          rw (get_or-drop k ps i 0, get_or-drop k ps (suc i) 0, e) (r.rises (k + i) (omega (arith, length-drop k ps)));
    }

-- a newcomer behind them has the count itself for its place
module _ (n : ℕ) (ps : List ℕ) (r : Rising n ps) where
  end_at : (i : ℕ) → i < length (ps ++ n ∷ [])
      → (get_or (ps ++ n ∷ []) i 0 < n + 1) × ((i < length ps → ⊥) → get_or (ps ++ n ∷ []) i 0 ≡ n)
  end_at i l =
      by (ltb i (length ps))
      (λ u.
      let b = ltb-true i (length ps) u in
      rw (get_or-append ps (n ∷ []) 0 i b) (omega (arith, r.below i b), λ z. absurd (z b)))
      (λ u.
      let e : i ≡ length ps = omega (arith, ltb-false i (length ps) u, length-append ps (n ∷ [])) in
      rw (e, get_or-append_seam ps n [] 0) (omega arith, λ z. refl))

  pub rising_end : Rising (n + 1) (ps ++ n ∷ [])
  rising_end =
      record {
        below = λ i l. (end_at i l).0;
        rises = λ i l.
            let b : i < length ps = omega (arith, length-append ps (n ∷ [])) in
            rw (get_or-append ps (n ∷ []) 0 i b)
            (by (ltb (suc i) (length ps))
            (λ u. let c = ltb-true (suc i) (length ps) u in rw (get_or-append ps (n ∷ []) 0 (suc i) c) (r.rises i c))
            (λ u. rw ((end_at (suc i) l).1 (λ c. let d = ltb-false (suc i) (length ps) u in omega arith)) (r.below i b)));
      }

-- each held event has a place, the places rise below the input count, and the output count with
-- the held events is the input count
pub record Placed (p : Position) : Type 0 where
  pub each-has : length p.places ≡ length p.buffer
  pub rising : Rising p.received p.places
  pub sum : p.emitted + length p.buffer ≡ p.received

pub empty-placed : (q : ℕ) → Placed (empty_at q)
empty-placed q = record { each-has = refl; rising = rising_none 0; sum = refl }
