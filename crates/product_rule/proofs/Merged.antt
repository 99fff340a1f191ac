-- The product is the two merged, and no other record is.
use Prim.Native.Nat.{ℕ, ◌*◌, ◌/◌, ◌%◌, ◌<◌, ◌≤◌, min}
use mathlib.Core.Path.{◌≡◌, refl, sym, ◌∙◌, ap}
use mathlib.Core.Logic.Iff
use mathlib.Core.Logic.{◌⊎◌, inl, inr, ◌↔◌}
use mathlib.Core.Bool.{Bool, cond, ◌&&◌}
use mathlib.Core.List.{List, [], ◌∷◌}
use native.Mathlib.Nat.{mul-pos, le_antisymm, min-le_left, min-le_right, min-eq_left, min-eq_right}
use native.Mathlib.Omega.{arith}
use lib.Dec.{eqb, ltb, leb}
use borrow.Author.Tests.{eqb-true, eqb-false, ltb-true, ltb-false, leb-true, leb-false}
use Rattle.base.proofs.Bools.{by, either, and-pair, and_both, flag_low, flag_tests}
use Rattle.automaton.specs.declared.Automaton.{Automaton}
use Rattle.automaton.specs.Arrays.{accepting_at}
use Rattle.automaton.specs.Automaton.{class, flag, controllable, controllables, accepts, step}
use Rattle.automaton.proofs.Facts.{Valid, valid_facts, valid_of}
use Rattle.automaton.proofs.Equality.{same_record}
use Rattle.solver_sets.specs.Table.{Controllable}
use Rattle.solver_sets.specs.Definition6.{Final}
use Rattle.product_rule.specs.Pairs.{pair, both_accept}
use Rattle.product_rule.specs.Product.{Product, pairs_count, product_of, product_refusal, product_answer}
use Rattle.product_rule.specs.Claims.{Matching, Merges, ProductAnswered, ProductAnsweredAsWorded, ProductAsWorded, StatesArePairs, HeldByBoth}
use Rattle.product_rule.proofs.Pairs.{pair-first, pair-second, pair-below, first_below, second_below, pair_parts, of_pairs}
use Rattle.product_rule.proofs.Arrays.{flags_at, flags_past, flags_size, next-at, next_no_symbol, next_no_pair, states-size}
use Rattle.product_rule.proofs.Rows.{product-rows_as_worded, answer-made, answer-refused, only_row}

-- the smaller of two numbers is one of them
min-one : (m n : ℕ) → (min m n ≡ m) ⊎ (min m n ≡ n)
min-one m n = by (leb m n) (λ h. inl (min-eq_left (leb-true m n h))) (λ h. let l = leb-false m n h in inr (min-eq_right (omega arith)))

-- the product of two records that no row refuses
module _ (a b : Automaton) (k : Matching a b) (few : pairs_count a b ≤ 32) where
  abbrev va : Valid a
  va = valid_facts a k.first-valid

  abbrev vb : Valid b
  vb = valid_facts b k.second-valid

  abbrev c : Automaton
  c = product_of a b

  abbrev n : ℕ
  n = b.states

  abbrev pairs : ℕ
  pairs = pairs_count a b

  abbrev both : ℕ → Bool
  both r = both_accept a.accepting b.accepting (r / n) (r % n)

  -- its initial state
  initial-pair : c.initial ≡ pair n a.initial b.initial
  unfolding product_of
  initial-pair = refl

  -- its capacity
  capacity_most : (c.capacity ≤ a.capacity) × (c.capacity ≤ b.capacity)
  unfolding product_of
  capacity_most = (min-le_left a.capacity b.capacity, min-le_right a.capacity b.capacity)

  capacity_either : (c.capacity ≡ a.capacity) ⊎ (c.capacity ≡ b.capacity)
  unfolding product_of
  capacity_either = min-one a.capacity b.capacity

  -- its flags
  flag_at : (r : ℕ) → r < pairs → flag c r ≡ cond (both r) 1 0
  unfolding product_of
  flag_at r l = flags_at a.accepting b.accepting n pairs r l

  flag-past : (r : ℕ) → pairs ≤ r → flag c r ≡ 0
  unfolding product_of
  flag-past r l = flags_past a.accepting b.accepting n pairs r l

  flag_high : (r : ℕ) → flag c r ≤ 1
  flag_high r =
      by (ltb r pairs)
      (λ u. rw (flag_at r (ltb-true r pairs u)) (flag_low (both r)))
      (λ u. omega (arith, flag-past r (ltb-false r pairs u)))

  accepts-at : (p q : ℕ) → p < a.states → q < n → accepts c (pair n p q) ≡ (accepts a p && accepts b q)
  unfolding accepts
  accepts-at p q lp lq =
      ap (λ x. eqb x 1) (flag_at (pair n p q) (pair-below n p q lq a.states lp)) ∙
      flag_tests (both (pair n p q)) ∙
      (λ i. accepting_at a.accepting (pair-first n p q lq i) && accepting_at b.accepting (pair-second n p q lq i))

  -- its steps
  module _ (r e : ℕ) where
    step-at : r < pairs → e < a.symbols → step c r e ≡ pair n (step a (r / n) e) (step b (r % n) e)
    unfolding product_of step
    step-at l h = next-at a.next b.next n pairs a.symbols va.symbols-high r e l h

    step_no_pair : pairs ≤ r → step c r e ≡ 0
    unfolding product_of step
    step_no_pair l = next_no_pair a.next b.next n pairs a.symbols va.symbols-high r e l

    step_no_symbol : a.symbols ≤ e → e < 16 → step c r e ≡ 0
    unfolding product_of step
    step_no_symbol h s =
        by (ltb r pairs)
        (λ u. next_no_symbol a.next b.next n pairs a.symbols va.symbols-high r e (ltb-true r pairs u) h s)
        (λ u. step_no_pair (ltb-false r pairs u))

    step-below : r < pairs → e < a.symbols → step c r e < pairs
    step-below l h =
        let lp = va.step-below (r / n) e (first_below a.states n r l) h in
        let lq = vb.step-below (r % n) e (second_below a.states n r l) (omega (arith, k.same_number)) in
        rw (step-at l h) (pair-below n (step a (r / n) e) (step b (r % n) e) lq a.states lp)

  step_of : (p q e : ℕ) → p < a.states → q < n → e < a.symbols → step c (pair n p q) e ≡ pair n (step a p e) (step b q e)
  step_of p q e lp lq le =
      step-at (pair n p q) e (pair-below n p q lq a.states lp) le ∙
      (λ i. pair n (step a (pair-first n p q lq i) e) (step b (pair-second n p q lq i) e))

  -- it passes row 11
  made-valid : Valid c
  unfolding product_of controllables
  made-valid =
      record {
        classes-length = va.classes-length;
        accepting-length = flags_size a.accepting b.accepting n pairs few;
        next-length = states-size a.next b.next n pairs a.symbols va.symbols-high few;
        states-low = mul-pos va.states-low vb.states-low;
        states-high = few;
        symbols_low = va.symbols_low;
        symbols-high = va.symbols-high;
        capacity-low = either capacity_either (λ h. omega (arith, va.capacity-low)) (λ h. omega (arith, vb.capacity-low));
        capacity-high = omega (arith, capacity_most.0, va.capacity-high);
        initial-below = rw initial-pair (pair-below n a.initial b.initial vb.initial-below a.states va.initial-below);
        class-high = va.class-high;
        class-unused = va.class-unused;
        controllables-high = va.controllables-high;
        flag_high = flag_high;
        flag-unused = flag-past;
        step-below = step-below;
        step-no-state = λ r e l _. step_no_pair r e l;
        step_no_symbol = step_no_symbol;
      }

  -- the classes are the same at every place, as unused ones hold 0
  same-class-at : (e : ℕ) → class a e ≡ class b e
  same-class-at e =
      by (ltb e a.symbols)
      (λ u. k.same_class e (ltb-true e a.symbols u))
      (λ u. let l = ltb-false e a.symbols u in va.class-unused e l ∙ sym (vb.class-unused e (omega (arith, k.same_number))))

  merges : Merges a b c
  unfolding product_of
  merges =
      record {
        passes = valid_of c made-valid;
        states = refl;
        symbols = (refl, k.same_number);
        classes = λ e. (refl, same-class-at e);
        capacity_most = capacity_most;
        capacity_either = capacity_either;
        initial = initial-pair;
        accepting = λ p q lp lq. (
          λ h. and-pair (accepts a p) (accepts b q) (sym (accepts-at p q lp lq) ∙ h),
          λ (fa, fb). accepts-at p q lp lq ∙ and_both fa fb,
        );
        next = step_of;
      }

-- the capacity is no larger than that of another such record, which is one of the parts'
no_larger : {a b c d : Automaton} → Merges a b c → Merges a b d → c.capacity ≤ d.capacity
no_larger mc md =
    let (first, second) = mc.capacity_most in
    either md.capacity_either (λ h. omega arith) (λ h. omega arith)

-- two records that are the two merged are one
only_one : (a b c d : Automaton) → Merges a b c → Merges a b d → c ≡ d
only_one a b c d mc md =
    let n = mc.states in
    let m = mc.symbols.0 in
    same_record c d (valid_facts c mc.passes) (valid_facts d md.passes) (n ∙ sym md.states) (m ∙ sym md.symbols.0)
    (le_antisymm (no_larger mc md) (no_larger md mc)) (mc.initial ∙ sym md.initial)
    (λ e _. (mc.classes e).0 ∙ sym (md.classes e).0)
    (λ r l. of_pairs a.states b.states r (omega arith) (λ r. Final c r ↔ Final d r)
    (λ p q lp lq. Iff.trans (mc.accepting p q lp lq) (Iff.symm (md.accepting p q lp lq))))
    (λ r e l h. of_pairs a.states b.states r (omega arith) (λ r. step c r e ≡ step d r e)
    (λ p q lp lq. mc.next p q e lp lq (omega arith) ∙ sym (md.next p q e lp lq (omega arith))))

pub product_merges : (a b : Automaton) → product_refusal a b ≡ 0 → Merges a b (product_of a b)
product_merges a b z = let (k, few) = (product-rows_as_worded a b).none.0 z in merges a b k few

pub product_as_worded : ProductAsWorded
product_as_worded a b z =
    let m = product_merges a b z in
    (m, λ c k. only_one a b c (product_of a b) k m)

-- the whole answer
answered : (a b : Automaton) → ProductAnswered a b (product_answer a b)
answered a b =
    by (eqb (product_refusal a b) 0)
    (λ e.
    let z = eqb-true (product_refusal a b) 0 e in
    rw (answer-made a b z)
    (record { rows = rw z at (product-rows_as_worded a b); made = λ _. product_merges a b z; refused = λ n. absurd (n refl) }))
    (λ e.
    let z = eqb-false (product_refusal a b) 0 e in
    rw (answer-refused a b z) (record { rows = product-rows_as_worded a b; made = λ n. absurd (z n); refused = λ _. refl }))

only-answer : (a b : Automaton) (x y : Product) → ProductAnswered a b x → ProductAnswered a b y → x ≡ y
only-answer a b x y rx ry =
    let row : x.refusal ≡ y.refusal = only_row rx.rows ry.rows in
    let same : x.automaton ≡ y.automaton =
    by (eqb x.refusal 0)
    (λ e. let z = eqb-true x.refusal 0 e in only_one a b x.automaton y.automaton (rx.made z) (ry.made (sym row ∙ z)))
    (λ e. let n = eqb-false x.refusal 0 e in rx.refused n ∙ sym (ry.refused (λ z. n (row ∙ z)))) in
    λ i. record { refusal = row i; automaton = same i }

pub product-answered_as_worded : ProductAnsweredAsWorded
product-answered_as_worded a b = (answered a b, λ x k. only-answer a b x (product_answer a b) k (answered a b))

-- the states are the pairs
pub states_are_pairs : StatesArePairs
states_are_pairs a b z r l =
    let h : r < a.states * b.states = omega (arith, (product_merges a b z).states) in
    (first_below a.states b.states r h, second_below a.states b.states r h, pair_parts a.states b.states r h)

-- over the same symbols, of the same classes, the same lists are controllable
same-controllable : (c a : Automaton) → c.symbols ≡ a.symbols → ((e : ℕ) → class c e ≡ class a e) → (w : List ℕ) → Controllable c w → Controllable a w
unfolding controllable
same-controllable c a symbols classes [] h = tt
same-controllable c a symbols classes (e ∷ w) h =
    ((omega (arith, h.0.0), rw (classes e) at h.0.1), same-controllable c a symbols classes w h.1)

pub held-by_both : HeldByBoth
held-by_both a b z w =
    let c = product_of a b in
    let m = product_merges a b z in
    let (first, second) = m.capacity_most in (
      λ (h, l). (
        (same-controllable c a m.symbols.0 (λ e. (m.classes e).0) w h, omega arith),
        (same-controllable c b m.symbols.1 (λ e. (m.classes e).1) w h, omega arith),
      ),
      λ ((h, l), (_, k)). (
        same-controllable a c (sym m.symbols.0) (λ e. sym (m.classes e).0) w h,
        either m.capacity_either (λ e. omega arith) (λ e. omega arith),
      ),
    )
