-- What a valid automaton is, as plain facts, and that `valid` decides it.
use Prim.Native.Nat.{ℕ, ◌+◌, ◌≤◌, ◌<◌}
use mathlib.Core.Path.{◌≡◌}
use mathlib.Core.List.{List}
use mathlib.Core.Bool.{Bool, true, false, ◌&&◌}
use lib.ListN.{length, get_or, get_or-eq_default}
use lib.Dec.{eqb, leb, ltb}
use native.Mathlib.Omega.{arith}
use borrow.Author.Tests.{ltb-true, leb-true, eqb-true, ltb-false, lt-ltb, le-ltb, le-leb, eq-eqb}
use Rattle.base.specs.Each.{each}
use Rattle.base.proofs.Bools.{by, either, and_left, and_right, and-pair, and_both, and_none, and-left_false, and-right_false}
use Rattle.base.proofs.Ranges.{each_at, each_all}
use Rattle.automaton.specs.Arrays.{goes, stands, places_stand}
pub use Rattle.automaton.specs.Claims.{Valid}
use Rattle.automaton.specs.Claims.{ValidAsWorded}
use Rattle.automaton.specs.Automaton.{Automaton, controllables, step, shaped, ranged, classes_stand, flags_stand, next_stand, max_class, valid}

-- a place that is used, and one that is not
module _ (used : Bool) (limit v : ℕ) where
  stands-used : used ≡ true → stands used limit v ≡ true → v < limit
  unfolding stands
  stands-used u h = ltb-true v limit (rw u at h)

  stands-unused : used ≡ false → stands used limit v ≡ true → v ≡ 0
  unfolding stands
  stands-unused u h = let l : v < 1 = ltb-true v 1 (rw u at h) in omega arith

  stands_when : (used ≡ true → v < limit) → (used ≡ false → v ≡ 0) → stands used limit v ≡ true
  unfolding stands
  stands_when f g =
      by used
      (λ u. rw u (lt-ltb v limit (f u)))
      (λ u. rw u (let e : v ≡ 0 = g u in let l : v < 1 = omega arith in lt-ltb v 1 l))

-- from 1 to a limit
abbrev within : ℕ → ℕ → Bool
within limit v = leb 1 v && leb v limit

within_low : (limit v : ℕ) → within limit v ≡ true → 1 ≤ v
within_low limit v h = leb-true 1 v (and_left (leb 1 v) (leb v limit) h)

within_high : (limit v : ℕ) → within limit v ≡ true → v ≤ limit
within_high limit v h = leb-true v limit (and_right (leb 1 v) (leb v limit) h)

within_both : (limit v : ℕ) → 1 ≤ v → v ≤ limit → within limit v ≡ true
within_both limit v l h = and_both (le-leb 1 v l) (le-leb v limit h)

-- an array of which the first n places are used
module _ (l : List ℕ) (n limit : ℕ) where
  abbrev place : ℕ → Bool
  place i = stands (ltb i n) limit (get_or l i 0)

  places-unused : places_stand l n limit ≡ true → (i : ℕ) → n ≤ i → get_or l i 0 ≡ 0
  unfolding places_stand
  places-unused h i u =
      by (ltb i (length l))
      (λ e. stands-unused (ltb i n) limit (get_or l i 0) (le-ltb i n u) (each_at (length l) place h i (ltb-true i (length l) e)))
      (λ e. get_or-eq_default l 0 (ltb-false i (length l) e))

  places_high : 1 ≤ limit → n ≤ length l → places_stand l n limit ≡ true → (i : ℕ) → get_or l i 0 < limit
  unfolding places_stand
  places_high o s h i =
      by (ltb i n)
      (λ u.
      let r : i < n = ltb-true i n u in
      stands-used (ltb i n) limit (get_or l i 0) u (each_at (length l) place h i (omega arith)))
      (λ u. omega (arith, places-unused h i (ltb-false i n u)))

  places_when : ((i : ℕ) → i < n → get_or l i 0 < limit) → ((i : ℕ) → n ≤ i → get_or l i 0 ≡ 0) → places_stand l n limit ≡ true
  unfolding places_stand
  places_when f g =
      each_all (length l) place
      (λ i _. stands_when (ltb i n) limit (get_or l i 0) (λ u. f i (ltb-true i n u)) (λ u. g i (ltb-false i n u)))

-- the next states
module _ (n m : ℕ) (next : List ℕ) where
  abbrev used : ℕ → ℕ → Bool
  used q e = ltb q n && ltb e m

  abbrev placed : ℕ → ℕ → Bool
  placed q e = stands (used q e) n (goes next q e)

  next-at : next_stand n m next ≡ true → (q e : ℕ) → q < 32 → e < 16 → placed q e ≡ true
  unfolding next_stand
  next-at h q e lq le = each_at 16 (placed q) (each_at 32 (λ q. each 16 (placed q)) h q lq) e le

  next-used : next_stand n m next ≡ true → (q e : ℕ) → q < 32 → e < 16 → used q e ≡ true → goes next q e < n
  next-used h q e lq le u = stands-used (used q e) n (goes next q e) u (next-at h q e lq le)

  -- past the last state too
  next-unused : next_stand n m next ≡ true → length next ≡ 512 → (q e : ℕ) → e < 16 → used q e ≡ false → goes next q e ≡ 0
  next-unused h long q e le u =
      by (ltb q 32)
      (λ lq. stands-unused (used q e) n (goes next q e) u (next-at h q e (ltb-true q 32 lq) le))
      (λ lq. get_or-eq_default next 0 (omega (arith, ltb-false q 32 lq)))

module _ (a : Automaton) where
  pub valid_facts : valid a ≡ true → Valid a
  unfolding valid shaped ranged classes_stand flags_stand step controllables
  valid_facts h =
      let p1 = and-pair (shaped a) _ h in
      let p2 = and-pair (ranged a.states a.symbols a.capacity a.initial) _ p1.1 in
      let p3 = and-pair (classes_stand max_class a.symbols a.classes) _ p2.1 in
      let p4 = and-pair (flags_stand a.states a.accepting) _ p3.1 in
      let l1 = and-pair (eqb (length a.classes) 16) _ p1.0 in
      let l2 = and-pair (eqb (length a.accepting) 32) _ l1.1 in
      let r1 = and-pair (within 32 a.states) _ p2.0 in
      let r2 = and-pair (within 16 a.symbols) _ r1.1 in
      let r3 = and-pair (within 6 a.capacity) _ r2.1 in
      let c1 = and-pair (places_stand a.classes a.symbols (max_class + 1)) _ p3.0 in
      let long-c : length a.classes ≡ 16 = eqb-true _ _ l1.0 in
      let long-f : length a.accepting ≡ 32 = eqb-true _ _ l2.0 in
      let long-n : length a.next ≡ 512 = eqb-true _ _ l2.1 in
      let states : a.states ≤ 32 = within_high 32 a.states r1.0 in
      let symbols : a.symbols ≤ 16 = within_high 16 a.symbols r2.0 in
      record {
        classes-length = long-c;
        accepting-length = long-f;
        next-length = long-n;
        states-low = within_low 32 a.states r1.0;
        states-high = states;
        symbols_low = within_low 16 a.symbols r2.0;
        symbols-high = symbols;
        capacity-low = within_low 6 a.capacity r3.0;
        capacity-high = within_high 6 a.capacity r3.0;
        initial-below = ltb-true a.initial a.states r3.1;
        class-high = λ e. omega (arith, places_high a.classes a.symbols (max_class + 1) (omega arith) (omega arith) c1.0 e);
        class-unused = places-unused a.classes a.symbols (max_class + 1) c1.0;
        controllables-high = leb-true (controllables a) 8 c1.1;
        flag_high = λ q. omega (arith, places_high a.accepting a.states 2 (omega arith) (omega arith) p4.0 q);
        flag-unused = places-unused a.accepting a.states 2 p4.0;
        step-below = λ q e lq le.
            next-used a.states a.symbols a.next p4.1 q e (omega arith) (omega arith) (and_both (lt-ltb q a.states lq) (lt-ltb e a.symbols le));
        step-no-state = λ q e lq le.
            next-unused a.states a.symbols a.next p4.1 long-n q e le (and-left_false (ltb e a.symbols) (le-ltb q a.states lq));
        step_no_symbol = λ q e lq le.
            next-unused a.states a.symbols a.next p4.1 long-n q e le (and-right_false (ltb q a.states) (le-ltb e a.symbols lq));
      }

  pub valid_of : Valid a → valid a ≡ true
  unfolding valid shaped ranged classes_stand flags_stand next_stand step controllables
  valid_of v =
      and_both
      (and_both (eq-eqb _ _ v.classes-length) (and_both (eq-eqb _ _ v.accepting-length) (eq-eqb _ _ v.next-length)))
      (and_both
      (and_both (within_both 32 a.states v.states-low v.states-high)
      (and_both (within_both 16 a.symbols v.symbols_low v.symbols-high)
      (and_both (within_both 6 a.capacity v.capacity-low v.capacity-high)
      (lt-ltb a.initial a.states v.initial-below))))
      (and_both
      (and_both
      (places_when a.classes a.symbols (max_class + 1) (λ e _. omega (arith, v.class-high e)) v.class-unused)
      (le-leb (controllables a) 8 v.controllables-high))
      (and_both
      (places_when a.accepting a.states 2 (λ q _. omega (arith, v.flag_high q)) v.flag-unused)
      (each_all 32 (λ q. each 16 (placed a.states a.symbols a.next q)) λ q _. each_all 16 (placed a.states a.symbols a.next q) λ e le.
      stands_when (used a.states a.symbols a.next q e) a.states (goes a.next q e)
      (λ u. v.step-below q e (ltb-true q a.states (and_left (ltb q a.states) (ltb e a.symbols) u)) (ltb-true e a.symbols (and_right (ltb q a.states) (ltb e a.symbols) u)))
      (λ u. either (and_none (ltb q a.states) (ltb e a.symbols) u)
      (λ w. v.step-no-state q e (ltb-false q a.states w) le)
      (λ w. v.step_no_symbol q e (ltb-false e a.symbols w) le))))))

-- a next state is a state, at an unused place too
pub step_high : {a : Automaton} → Valid a → (q e : ℕ) → e < 16 → step a q e < a.states
step_high {a} v q e l =
    by (ltb q a.states)
    (λ u. by (ltb e a.symbols)
    (λ w. v.step-below q e (ltb-true q a.states u) (ltb-true e a.symbols w))
    (λ w. omega (arith, v.step_no_symbol q e (ltb-false e a.symbols w) l)))
    (λ u. omega (arith, v.step-no-state q e (ltb-false q a.states u) l))

pub valid_as_worded : ValidAsWorded
valid_as_worded a = (valid_facts a, valid_of a)
