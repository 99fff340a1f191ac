-- Laws of the numbers of buffers, and of the sets that a table has at them.
use Prim.Native.Nat.{ℕ, zero, suc, ◌+◌, ◌-◌, ◌*◌, ◌^◌, ◌<◌, ◌≤◌}
use mathlib.Core.Path.{◌≡◌, refl, sym, ◌∙◌, ap, ap₂}
use mathlib.Core.List.{List, [], ◌∷◌, ◌++◌}
use native.Mathlib.Nat.{mul-le-mul, pow-le-pow_left, pow-le-pow_right, pow-suc, pow-zero, add_comm}
use native.Mathlib.Omega.{arith}
use lib.ListN.{length, get_or, set, drop, replicate, length-drop, length-replicate, replicate-append-replicate}
use lib.Seq.{set_at, drop-cons, drop-length}
use Rattle.base.specs.Masks.{has}
use Rattle.base.specs.Pad.{pad}
use Rattle.base.proofs.Padding.{pad-inside, repeat_end}
use Rattle.monitor_rule.specs.Fronts.{index_in, rest_in, winning_sets}

-- powers of 8 up to the sixth
pub eight : (l : ℕ) → l ≤ 6 → 8 ^ l ≤ 262144
eight l h = let p : 8 ^ l ≤ 8 ^ 6 = pow-le-pow_right (omega arith) h in omega (arith, p)

module _ (ranks : List ℕ) (k : ℕ) (high : (e : ℕ) → get_or ranks e 0 ≤ 8) (radix : k ≤ 8) where
  pub weight_small : (l : ℕ) → k ^ l ≤ 8 ^ l
  weight_small l = pow-le-pow_left radix l

  pub index-small : (w : List ℕ) → index_in ranks k w ≤ 2 * 8 ^ length w
  unfolding index_in
  index-small [] = omega arith
  index-small (e ∷ w) =
      let p : get_or ranks e 0 * k ^ length w ≤ 8 * 8 ^ length w = mul-le-mul (high e) (weight_small (length w)) in
      omega (arith, p, index-small w, pow-suc 8 (length w))

-- what is left after a front part has no greater number
pub index-drop : (ranks : List ℕ) (k : ℕ) (w : List ℕ) (i : ℕ) → index_in ranks k (drop i w) ≤ index_in ranks k w
unfolding index_in
index-drop ranks k w zero = omega arith
index-drop ranks k [] (suc i) = omega arith
index-drop ranks k (e ∷ w) (suc i) = omega (arith, index-drop ranks k w i)

-- The loop that reads the sets for all that is left of a buffer, from its end on.
pub record Reading (t ranks : List ℕ) (k : ℕ) (w winning : List ℕ) (index weight i : ℕ) : Type 0 where
  pub within : i ≤ length w
  pub index_is : index ≡ index_in ranks k (drop i w)
  pub weight_is : weight ≡ k ^ length (drop i w)
  pub stored : winning ≡ replicate i 0 ++ (winning_sets t ranks k (drop i w) ++ replicate (6 - length w) 0)

-- one more set before those that are stored
stored-before : (i : ℕ) (s : ℕ) (l : List ℕ) → set (replicate (suc i) 0 ++ l) i s ≡ replicate i 0 ++ s ∷ l
stored-before i s l =
    ap (λ x. set x i s) (sym (repeat_end i 0 l)) ∙
    set_at (replicate i 0) 0 l s i (length-replicate {A = ℕ} i 0)

module _ (t ranks : List ℕ) (k : ℕ) (w : List ℕ) where
  pub reading_begins : (n : ℕ) → length w ≡ n → n ≤ 6 → Reading t ranks k w (set (replicate 7 0) n (get_or t 0 0)) 0 1 n
  unfolding index_in winning_sets
  reading_begins n e h =
      let none : drop n w ≡ [] = ap (λ i. drop i w) (sym e) ∙ drop-length w in
      let f : suc n + (6 - length w) ≡ 7 = omega arith in
      let zeros = replicate-append-replicate {A = ℕ} (suc n) (6 - length w) 0 ∙ ap (λ i. replicate {A = ℕ} i 0) f in
      record {
        within = omega arith;
        index_is = rw none;
        weight_is = rw none (sym (pow-zero k));
        stored = rw none (ap (λ x. set x n (get_or t 0 0)) (sym zeros) ∙ stored-before n (get_or t 0 0) (replicate (6 - length w) 0));
      }

  module _ {winning : List ℕ} {index weight i : ℕ} (g : Reading t ranks k w winning index weight i) where
    module _ (high : (e : ℕ) → get_or ranks e 0 ≤ 8) (radix : k ≤ 8) (short : length w ≤ 6) where
      left-short : length (drop i w) ≤ 6
      left-short = rw (length-drop i w) (omega arith)

      pub weight_bound : weight ≤ 262144
      weight_bound = omega (arith, g.weight_is, weight_small ranks k high radix (length (drop i w)), eight (length (drop i w)) left-short)

      pub index_bound : index ≤ 524288
      index_bound = omega (arith, g.index_is, index-small ranks k high radix (drop i w), eight (length (drop i w)) left-short)

      pub grown_bound : (r : ℕ) → r ≤ 8 → r * weight ≤ 2097152
      grown_bound r h = let p : r * weight ≤ 8 * 262144 = mul-le-mul h weight_bound in omega (arith, p)

    module _ (e : ℕ) (h : 0 < i) (f : e ≡ get_or w (i - 1) 0) where
      one_more : drop (i - 1) w ≡ e ∷ drop i w
      one_more =
          let s : suc (i - 1) ≡ i = omega arith in
          drop-cons w (i - 1) 0 (omega (arith, g.within)) ∙ ap₂ (λ x n. x ∷ drop n w) (sym f) s

      -- the number of one more event before what is left
      pub index_grown : index + get_or ranks e 0 * weight ≡ index_in ranks k (drop (i - 1) w)
      unfolding index_in
      index_grown =
          rw one_more
          (ap₂ (λ x y. x + get_or ranks e 0 * y) g.index_is g.weight_is ∙ add_comm (index_in ranks k (drop i w)) (get_or ranks e 0 * k ^ length (drop i w)))

      pub reading-goes_on : (s : ℕ) → s ≡ get_or t (2 * index_in ranks k (drop (i - 1) w)) 0
          → Reading t ranks k w (set winning (i - 1) s) (index + get_or ranks e 0 * weight) (weight * k) (i - 1)
      unfolding winning_sets
      reading-goes_on s es =
          let j : suc (i - 1) ≡ i = omega arith in
          let tail = winning_sets t ranks k (drop i w) ++ replicate (6 - length w) 0 in
          let es' : s ≡ get_or t (2 * index_in ranks k (e ∷ drop i w)) 0 = rw one_more at es in
          record {
            within = omega (arith, g.within);
            index_is = index_grown;
            weight_is = rw one_more (rw (pow-suc k (length (drop i w)), g.weight_is));
            stored =
                ap (λ x. set x (i - 1) s) (g.stored ∙ ap (λ n. replicate n 0 ++ tail) (sym j)) ∙
                stored-before (i - 1) s tail ∙
                rw (one_more, es');
          }

sets-length : (t ranks : List ℕ) (k : ℕ) (w : List ℕ) → length (winning_sets t ranks k w) ≡ suc (length w)
unfolding winning_sets
sets-length t ranks k [] = refl
sets-length t ranks k (e ∷ w) = ap suc (sets-length t ranks k w)

pub reading-done : {t ranks : List ℕ} {k : ℕ} {w winning : List ℕ} {index weight i : ℕ} → Reading t ranks k w winning index weight i → i ≡ 0
    → winning ≡ pad 7 (winning_sets t ranks k w)
unfolding pad
reading-done {t} {ranks} {k} {w} g z =
    let f : 6 - length w ≡ 7 - length (winning_sets t ranks k w) = omega (arith, sets-length t ranks k w) in
    rw (z, f) at g.stored

-- what stands at a place
set_in : (t ranks : List ℕ) (k : ℕ) (w : List ℕ) (i : ℕ) → i ≤ length w → get_or (winning_sets t ranks k w) i 0 ≡ get_or t (2 * index_in ranks k (drop i w)) 0
unfolding winning_sets
set_in t ranks k [] zero h = refl
set_in t ranks k [] (suc i) h = absurd (omega arith)
set_in t ranks k (e ∷ w) zero h = refl
set_in t ranks k (e ∷ w) (suc i) h = set_in t ranks k w i (omega arith)

pub winning-set : (t ranks : List ℕ) (k : ℕ) (w winning : List ℕ) → winning ≡ pad 7 (winning_sets t ranks k w) → (i : ℕ) → i ≤ length w → (q : ℕ)
    → has (get_or winning i 0) q ≡ rest_in t ranks k (drop i w) q
unfolding rest_in
winning-set t ranks k w winning e i h q =
    ap (λ x. has x q)
    (ap (λ x. get_or x i 0) e ∙ pad-inside 7 (winning_sets t ranks k w) i (omega (arith, sets-length t ranks k w)) ∙ set_in t ranks k w i h)
