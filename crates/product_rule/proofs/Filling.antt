-- Laws of making the product's record.
use Prim.Native.Nat.{ℕ, zero, suc, ◌+◌, ◌*◌, ◌/◌, ◌%◌, ◌<◌, ◌≤◌}
use mathlib.Core.Path.{◌≡◌, refl, sym, ◌∙◌, ap}
use mathlib.Core.Bool.{Bool, cond, ◌&&◌, and_assoc, and-true}
use mathlib.Core.List.{List, [], ◌∷◌}
use native.Mathlib.Omega.{arith}
use lib.ListN.{length, get_or, set, take}
use lib.Seq.{sets}
use lib.Dec.{eqb}
use lib.Pointwise.{pointwise}
use Rattle.base.specs.Each.{each}
use Rattle.base.specs.Pad.{pad}
use Rattle.base.specs.Tabulate.{tabulate, blocks}
use Rattle.base.proofs.Padding.{pad-length, pad-set, pad-more}
use Rattle.base.proofs.Stores.{sets_more}
use Rattle.base.proofs.Tabulation.{tabulate-length, tabulate-more, blocks-length, blocks_more}
use Rattle.automaton.specs.Arrays.{goes}
use Rattle.product_rule.specs.Pairs.{pair, both_accept, pair_flags, pair_next, pair_states, same_classes}

-- the first of the numbers below m + 1, and the rest
each_front : (p : ℕ → Bool) (m : ℕ) → each (suc m) p ≡ (p 0 && each m (λ k. p (suc k)))
unfolding each
each_front p zero = sym (and-true (p 0))
each_front p (suc m) = ap (λ b. b && p (suc m)) (each_front p m) ∙ and_assoc (p 0) (each m (λ k. p (suc k))) (p (suc m))

-- the same classes, as two slices that are equal
pub slices_alike : (m : ℕ) (first second : List ℕ) → m ≤ length first → m ≤ length second
    → pointwise eqb (take m first) (take m second) ≡ same_classes first second m
unfolding same_classes each
slices_alike zero first second h g = refl
slices_alike (suc m) [] second h g = absurd (omega arith)
slices_alike (suc m) (x ∷ first) [] h g = absurd (omega arith)
slices_alike (suc m) (x ∷ first) (y ∷ second) h g =
    ap (λ b. eqb x y && b) (slices_alike m first second (omega arith) (omega arith)) ∙
    sym (each_front (λ e. eqb (get_or (x ∷ first) e 0) (get_or (y ∷ second) e 0)) m)

-- one more flag
module _ (first second : List ℕ) (n r : ℕ) (flags : List ℕ) (so_far : flags ≡ pad 32 (pair_flags first second n r)) where
  pub flags_more : r < 32 → (v : ℕ) → v ≡ cond (both_accept first second (r / n) (r % n)) 1 0
      → set flags r v ≡ pad 32 (pair_flags first second n (r + 1))
  unfolding pair_flags
  flags_more h v e =
      let f : ℕ → ℕ = λ r. cond (both_accept first second (r / n) (r % n)) 1 0 in
      let long : length (tabulate r f) ≡ r = tabulate-length r f in
      rw (so_far, e, tabulate-more r f)
      (ap (λ i. set (pad 32 (tabulate r f)) i (f r)) (sym long) ∙ pad-set 32 (tabulate r f) (f r) (omega arith))

-- one more next state of a pair
module _ (first second : List ℕ) (n p q at e : ℕ) (out next : List ℕ) (so_far : next ≡ sets out at (pair_next first second n e p q)) where
  pub next_more : (v : ℕ) → v ≡ pair n (goes first p e) (goes second q e) → set next (at + e) v ≡ sets out at (pair_next first second n (e + 1) p q)
  unfolding pair_next
  next_more v s =
      let f : ℕ → ℕ = λ e. pair n (goes first p e) (goes second q e) in
      rw (so_far, s, tabulate-more e f) (sets_more out at e (f e) (tabulate e f) (tabulate-length e f))

-- one more pair's next states
module _ (first second : List ℕ) (n m r : ℕ) (next : List ℕ) (narrow : m ≤ 16) (so_far : next ≡ pad 512 (pair_states first second n m r)) where
  pub states-more : r < 32 → sets next (r * 16) (pair_next first second n m (r / n) (r % n)) ≡ pad 512 (pair_states first second n m (r + 1))
  unfolding pair_states pair_next
  states-more h =
      let list : ℕ → List ℕ = λ r. tabulate m (λ e. pair n (goes first (r / n) e) (goes second (r % n) e)) in
      let f : ℕ → List ℕ = λ r. pad 16 (list r) in
      let short : (r : ℕ) → length (list r) ≡ m = λ r. tabulate-length m (λ e. pair n (goes first (r / n) e) (goes second (r % n) e)) in
      let long : length (blocks r f) ≡ r * 16 = blocks-length 16 f (λ r. pad-length 16 (list r) (omega (arith, short r))) r in
      rw (so_far, blocks_more r f)
      (ap (λ i. sets (pad 512 (blocks r f)) i (list r)) (sym long) ∙
      pad-more 512 (blocks r f) (list r) 16 (omega (arith, short r)) (omega arith))
