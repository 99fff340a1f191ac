-- Lists and next states in the parts in which loops go through them, and row 11.
use Prim.Native.Nat.{ℕ, ◌+◌, ◌-◌, ◌*◌, ◌<◌, ◌≤◌}
use mathlib.Core.Path.{◌≡◌, sym, ◌∙◌, ap, ap₂}
use mathlib.Core.Bool.{Bool, true, false, cond, ◌&&◌}
use mathlib.Core.List.{List, ◌++◌}
use native.Mathlib.Nat.{zero-add}
use native.Mathlib.Omega.{arith}
use lib.ListN.{length, get_or, replicate, length-replicate, get_or-replicate, get_or-append}
use lib.Seq.{get_or-append-add}
use lib.Dec.{leb, ltb}
use borrow.Author.Tests.{lt-ltb, le-ltb, le-leb, lt-leb, eq-eqb, leb-true, ltb-true, ltb-false}
use Rattle.base.specs.Each.{each}
use Rattle.base.proofs.Bools.{by, and_left, and_right, and_both}
use Rattle.base.proofs.Ranges.{each_split, each_same, each-pairs}
use Rattle.automaton.specs.Arrays.{controllable_in, goes, stands, places_stand, below_from, next_limits, state_below, states_below}
use Rattle.automaton.specs.Automaton.{Automaton, shaped, ranged, classes_stand, flags_stand, next_stand, max_class, tables_stand, valid}

-- the used places, then the others
places_are : (l : List ℕ) (used limit : ℕ) → used ≤ length l
    → places_stand l used limit ≡ (below_from l 0 used limit && below_from l used (length l - used) 1)
unfolding places_stand below_from stands
places_are l used limit h =
    let e : length l ≡ used + (length l - used) = omega arith in
    let p : ℕ → Bool = λ i. ltb (get_or l i 0) (cond (ltb i used) limit 1) in
    ap (λ k. each k p) e ∙
    each_split used (length l - used) p ∙
    ap₂ ◌&&◌
    (each_same used p (λ i. ltb (get_or l (0 + i) 0) limit) (λ i k. rw (lt-ltb i used k, zero-add i)))
    (each_same (length l - used) (λ i. p (used + i)) (λ i. ltb (get_or l (used + i) 0) 1)
    (λ i k. let g : used ≤ used + i = omega arith in rw (le-ltb (used + i) used g)))

module _ (l : List ℕ) (used limit : ℕ) (h : used ≤ length l) where
  pub places_fall : below_from l 0 used limit ≡ false → false ≡ places_stand l used limit
  places_fall b = sym (places_are l used limit h ∙ rw b)

  pub places-unused : below_from l 0 used limit ≡ true → below_from l used (length l - used) 1 ≡ places_stand l used limit
  places-unused b = sym (places_are l used limit h ∙ rw b)

-- the limits of a state's places
limits_used : (n m e : ℕ) → e < m → m ≤ 16 → get_or (next_limits n m) e 0 ≡ n
unfolding next_limits
limits_used n m e h k =
    let g : e < length (replicate m n) = rw (length-replicate m n) h in
    get_or-append (replicate m n) (replicate (16 - m) 1) 0 e g ∙ get_or-replicate m e n 0 h

limits_unused : (n m e : ℕ) → m ≤ e → e < 16 → get_or (next_limits n m) e 0 ≡ 1
unfolding next_limits
limits_unused n m e h k =
    let a : e ≡ length (replicate m n) + (e - m) = rw (length-replicate m n) (omega arith) in
    ap (λ i. get_or (replicate m n ++ replicate (16 - m) 1) i 0) a ∙
    get_or-append-add (replicate m n) (replicate (16 - m) 1) (e - m) 0 ∙
    get_or-replicate (16 - m) (e - m) 1 0 (omega arith)

-- the places of a used state
state-used : (next : List ℕ) (n m q : ℕ) → m ≤ 16 → q < n
    → each 16 (λ e. stands (ltb q n && ltb e m) n (goes next q e)) ≡ state_below next q (next_limits n m)
unfolding state_below stands
state-used next n m q h k =
    each_same 16 (λ e. ltb (goes next q e) (cond (ltb q n && ltb e m) n 1)) (λ e. ltb (goes next q e) (get_or (next_limits n m) e 0))
    (λ e l. ap (λ x. ltb (goes next q e) x) (rw (lt-ltb q n k)
    (by (ltb e m)
    (λ t. rw t (sym (limits_used n m e (ltb-true e m t) h)))
    (λ t. rw t (sym (limits_unused n m e (ltb-false e m t) l))))))

-- places of an unused state, as they follow one another
place-unused : (next : List ℕ) (n m q e : ℕ) → stands (ltb (n + q) n && ltb e m) n (goes next (n + q) e) ≡ ltb (get_or next (n * 16 + (q * 16 + e)) 0) 1
unfolding stands
place-unused next n m q e =
    let h : n ≤ n + q = omega arith in
    let i : (n + q) * 16 + e ≡ n * 16 + (q * 16 + e) = omega arith in
    rw (le-ltb (n + q) n h, i)

-- the places of the states, then the others
states_are : (next : List ℕ) (n m : ℕ) → n ≤ 32 → m ≤ 16
    → next_stand n m next ≡ (states_below next n (next_limits n m) && below_from next (n * 16) (512 - n * 16) 1)
unfolding next_stand states_below below_from
states_are next n m h k =
    let e : 32 ≡ n + (32 - n) = omega arith in
    let places : (32 - n) * 16 ≡ 512 - n * 16 = omega arith in
    let p : ℕ → Bool = λ q. each 16 (λ e. stands (ltb q n && ltb e m) n (goes next q e)) in
    let zeros : ℕ → Bool = λ i. ltb (get_or next (n * 16 + i) 0) 1 in
    ap (λ x. each x p) e ∙
    each_split n (32 - n) p ∙
    ap₂ ◌&&◌
    (each_same n p (λ q. state_below next q (next_limits n m)) (λ q l. state-used next n m q k l))
    (each_same (32 - n) (λ q. p (n + q)) (λ q. each 16 (λ e. zeros (q * 16 + e)))
    (λ q l. each_same 16 (λ e. stands (ltb (n + q) n && ltb e m) n (goes next (n + q) e)) (λ e. zeros (q * 16 + e)) (λ e _. place-unused next n m q e)) ∙
    each-pairs 16 (32 - n) zeros ∙
    ap (λ c. each c zeros) places)

module _ (n m : ℕ) (next : List ℕ) (h : n ≤ 32) (k : m ≤ 16) where
  pub next_falls : states_below next n (next_limits n m) ≡ false → false ≡ next_stand n m next
  next_falls b = sym (states_are next n m h k ∙ rw b)

  pub next-unused : states_below next n (next_limits n m) ≡ true → below_from next (n * 16) (512 - n * 16) 1 ≡ next_stand n m next
  next-unused b = sym (states_are next n m h k ∙ rw b)

-- rows 7 to 9, in their order
module _ (n m : ℕ) (classes flags next : List ℕ) where
  pub tables-classes : places_stand classes m (max_class + 1) ≡ false → false ≡ tables_stand n m classes flags next
  unfolding classes_stand
  tables-classes c = rw c

  module _ (c : places_stand classes m (max_class + 1) ≡ true) where
    pub tables_ninth : 8 < controllable_in classes m → false ≡ tables_stand n m classes flags next
    unfolding classes_stand
    tables_ninth k = rw (c, lt-leb (controllable_in classes m) 8 k)

    module _ (k : controllable_in classes m ≤ 8) where
      pub tables_flags : places_stand flags n 2 ≡ false → false ≡ tables_stand n m classes flags next
      unfolding classes_stand flags_stand
      tables_flags f = rw (c, le-leb (controllable_in classes m) 8 k, f)

      pub tables-next : places_stand flags n 2 ≡ true → next_stand n m next ≡ tables_stand n m classes flags next
      unfolding classes_stand flags_stand
      tables-next f = rw (c, le-leb (controllable_in classes m) 8 k, f)

module _ (a : Automaton) where
  abbrev in-ranges : Bool
  in-ranges = ranged a.states a.symbols a.capacity a.initial

  pub ranged-small : in-ranges ≡ true → (a.states ≤ 32) × (a.symbols ≤ 16)
  unfolding ranged
  ranged-small h =
      let n = leb 1 a.states && leb a.states 32 in
      let m = leb 1 a.symbols && leb a.symbols 16 in
      let later = (leb 1 a.capacity && leb a.capacity 6) && ltb a.initial a.states in (
        leb-true a.states 32 (and_right (leb 1 a.states) (leb a.states 32) (and_left n (m && later) h)),
        leb-true a.symbols 16 (and_right (leb 1 a.symbols) (leb a.symbols 16) (and_left m later (and_right n (m && later) h))),
      )

  pub shapes : length a.classes ≡ 16 → length a.accepting ≡ 32 → length a.next ≡ 512 → shaped a ≡ true
  unfolding shaped
  shapes c f n = and_both (eq-eqb _ 16 c) (and_both (eq-eqb _ 32 f) (eq-eqb _ 512 n))

  module _ (s : shaped a ≡ true) where
    pub refuses : in-ranges ≡ false → false ≡ valid a
    unfolding valid
    refuses h = rw (s, h)

    pub passes : in-ranges ≡ true → tables_stand a.states a.symbols a.classes a.accepting a.next ≡ valid a
    unfolding valid
    passes h = sym (rw (s, h))
