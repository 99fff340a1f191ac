-- The functions alone: what events and calls make of them, and what they count.
use Prim.Native.Nat.{ℕ, ◌+◌, ◌<◌, ◌≤◌}
use mathlib.Core.Path.{◌≡◌, refl, sym, ◌∙◌, ap}
use mathlib.Core.Logic.{inl, inr}
use mathlib.Core.Bool.{true, false, cond}
use mathlib.Core.List.{List, [], ◌∷◌}
use native.Mathlib.Omega.{arith}
use lib.Dec.{eqb, ltb}
use borrow.Author.Tests.{eqb-true, eqb-false, ltb-true, ltb-false, eq-eqb, ne_eqb, lt-ltb, le-ltb, le-leb, lt-leb}
use Rattle.base.proofs.Bools.{by, either, or_some, or_left, or_right, or_neither}
use Rattle.automaton.specs.declared.Automaton.{Automaton}
use Rattle.enforcement.specs.Store.{refusal_at, store, store_all, refused_of}
use Rattle.enforcement.proofs.Alone.{store-append}
use Rattle.clients_answers.specs.Listed.{events_of}
use Rattle.clients_answers.specs.Claims.{WrongCount, RightCount}
use Rattle.enforcement_clients.specs.ClientCalls.{ClientCall, events_by}
use Rattle.enforcement_clients.specs.Functions.{Functions, fed_own, bad_count, refusal_of, fed_in, absentees, refused_day}
use Rattle.enforcement_clients.specs.Functions.{lent_of, fed, fed_all, events_in, events_to}
use Rattle.enforcement_clients.proofs.Sums.{sum_same, sum_more, sum-none}

-- row 20's test
module _ (n : ℕ) where
  pub count-wrong : bad_count n ≡ true → WrongCount n
  unfolding bad_count
  count-wrong b = either (or_some (eqb n 0) (ltb 500 n) b) (λ z. inl (eqb-true n 0 z)) (λ m. inr (ltb-true 500 n m))

  pub count-right : bad_count n ≡ false → RightCount n
  unfolding bad_count
  count-right b =
      let c = or_neither (eqb n 0) (ltb 500 n) b in
      let some = eqb-false n 0 c.0 in
      let few = ltb-false 500 n c.1 in
      (omega arith, omega arith)

  pub wrong_bad : WrongCount n → bad_count n ≡ true
  unfolding bad_count
  wrong_bad w = either w (λ z. or_left (ltb 500 n) (eq-eqb n 0 z)) (λ m. or_right (eqb n 0) (lt-ltb 500 n m))

  pub right_good : RightCount n → bad_count n ≡ false
  unfolding bad_count
  right_good (some, few) = rw (ne_eqb n 0 (λ z. omega arith), le-ltb 500 n few)

-- events with their clients' numbers
module _ (a : Automaton) (n : ℕ) (ss : Functions) where
  pub fed-below : (xs : List (ℕ × ℕ)) (g : ℕ) → g < n → fed_own a n ss xs g ≡ store_all a (ss g) (events_of g xs)
  unfolding fed_own
  fed-below xs g l = rw (lt-ltb g n l)

  pub fed_above : (xs : List (ℕ × ℕ)) (g : ℕ) → n ≤ g → fed_own a n ss xs g ≡ ss g
  unfolding fed_own
  fed_above xs g l = rw (le-ltb g n l)

  pub fed-none : (g : ℕ) → fed_own a n ss [] g ≡ ss g
  unfolding events_of store_all
  fed-none g = by (ltb g n) (λ h. fed-below [] g (ltb-true g n h)) (λ h. fed_above [] g (ltb-false g n h))

  -- one event: for its client's function, and for no other
  pub fed_itself : (i e : ℕ) → i < n → fed_own a n ss ((i, e) ∷ []) i ≡ store a (ss i) e
  unfolding events_of store_all
  fed_itself i e l = fed-below ((i, e) ∷ []) i l ∙ rw (eq-eqb i i refl)

  pub fed-other : (i e g : ℕ) → (g ≡ i → ⊥) → fed_own a n ss ((i, e) ∷ []) g ≡ ss g
  unfolding events_of store_all
  fed-other i e g m =
      by (ltb g n)
      (λ h. fed-below ((i, e) ∷ []) g (ltb-true g n h) ∙ rw (ne_eqb i g (λ q. m (sym q))))
      (λ h. fed_above ((i, e) ∷ []) g (ltb-false g n h))

  -- one for a client that is not there: for none
  pub fed-absent : (i e g : ℕ) → n ≤ i → fed_own a n ss ((i, e) ∷ []) g ≡ ss g
  fed-absent i e g l =
      by (eqb g i)
      (λ q. let z = eqb-true g i q in fed_above ((i, e) ∷ []) g (omega arith))
      (λ q. fed-other i e g (eqb-false g i q))

  -- one after the other
  pub fed-first : (x : ℕ × ℕ) (xs : List (ℕ × ℕ)) (g : ℕ) → fed_own a n ss (x ∷ xs) g ≡ fed_own a n (fed_own a n ss (x ∷ [])) xs g
  unfolding fed_own events_of store_all
  fed-first x xs g = by (ltb g n) (λ l. by (eqb x.0 g) (λ q. rw (l, q)) (λ q. rw (l, q))) (λ l. rw l)

-- what they refuse of a list of events, with the first and after it
module _ (a : Automaton) (n : ℕ) (ss : Functions) (i e : ℕ) (xs : List (ℕ × ℕ)) where
  abbrev next : Functions
  next = fed_own a n ss ((i, e) ∷ [])

  other-refuses : (g : ℕ) → (g ≡ i → ⊥) → refused_of a (ss g) (events_of g ((i, e) ∷ xs)) ≡ refused_of a (next g) (events_of g xs)
  unfolding events_of
  other-refuses g m = rw (fed-other a n ss i e g m, ne_eqb i g (λ q. m (sym q)))

  own-refuses : i < n
      → refused_of a (ss i) (events_of i ((i, e) ∷ xs)) ≡ cond (eqb (refusal_at a (ss i) e) 0) 0 1 + refused_of a (next i) (events_of i xs)
  unfolding events_of refused_of
  own-refuses l = rw (fed_itself a n ss i e l, eq-eqb i i refl)

  no_absent : i < n → absentees n ((i, e) ∷ xs) ≡ absentees n xs
  unfolding absentees
  no_absent l = rw (lt-leb n i l) (omega arith)

  one-absent : n ≤ i → absentees n ((i, e) ∷ xs) ≡ 1 + absentees n xs
  unfolding absentees
  one-absent l = rw (le-leb n i l)

  pub day-counts : i < n → refused_day a n ss ((i, e) ∷ xs) ≡ cond (eqb (refusal_at a (ss i) e) 0) 0 1 + refused_day a n next xs
  unfolding refused_day
  day-counts l =
      let s = sum_more n i (cond (eqb (refusal_at a (ss i) e) 0) 0 1)
      (λ g. refused_of a (ss g) (events_of g ((i, e) ∷ xs))) (λ g. refused_of a (next g) (events_of g xs)) l (λ g b m. other-refuses g m) (own-refuses l) in
      omega (arith, s, no_absent l)

  pub day-absent : n ≤ i → refused_day a n ss ((i, e) ∷ xs) ≡ 1 + refused_day a n next xs
  unfolding refused_day
  day-absent l =
      let s = sum_same n (λ g. refused_of a (ss g) (events_of g ((i, e) ∷ xs))) (λ g. refused_of a (next g) (events_of g xs))
      (λ g b. other-refuses g (λ q. absurd (omega arith))) in
      omega (arith, s, one-absent l)

pub day-none : (a : Automaton) (n : ℕ) (ss : Functions) → refused_day a n ss [] ≡ 0
unfolding refused_day absentees events_of refused_of
day-none a n ss = omega (arith, sum-none n)

-- a call
module _ (a : Automaton) (n : ℕ) (ss : Functions) (x : ClientCall) (g : ℕ) where
  pub fed-passes : eqb (refusal_of n ss x) 0 ≡ true → fed_in a n ss x g ≡ fed_own a n ss (events_by x) g
  unfolding fed_in
  fed-passes h = rw h

  pub fed-refuses : eqb (refusal_of n ss x) 0 ≡ false → fed_in a n ss x g ≡ ss g
  unfolding fed_in
  fed-refuses h = rw h

  -- those that it does not lend
  pub fed_beyond : n ≤ g → fed_in a n ss x g ≡ ss g
  fed_beyond l = by (eqb (refusal_of n ss x) 0) (λ h. fed-passes h ∙ fed_above a n ss (events_by x) g l) fed-refuses

  -- what it brings a function
  fed-feeds : fed_in a n ss x g ≡ store_all a (ss g) (events_in n ss g x)
  unfolding fed_in fed_own events_in store_all
  fed-feeds = by (eqb (refusal_of n ss x) 0) (λ r. by (ltb g n) (λ l. rw (r, l)) (λ l. rw (r, l))) (λ r. rw r)

-- all calls
pub function-is : (a : Automaton) (count : ℕ) (xs : List ClientCall) (ss : Functions) (g : ℕ)
    → fed_all a count ss xs g ≡ store_all a (ss g) (events_to a count ss g xs)
unfolding fed_all events_to store_all fed
function-is a count [] ss g = refl
function-is a count (x ∷ xs) ss g =
    let here = events_in (lent_of count x) ss g x in
    let rest = events_to a count (fed a count ss x) g xs in
    function-is a count xs (fed a count ss x) g ∙
    ap (λ s. store_all a s rest) (fed-feeds a (lent_of count x) ss x g) ∙
    sym (store-append a here rest (ss g))
