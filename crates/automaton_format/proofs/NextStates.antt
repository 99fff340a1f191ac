-- The next states: read state by state and kept in 16 places for each state.
use Prim.Native.Nat.{ℕ, zero, suc, ◌+◌, ◌*◌, ◌<◌, ◌≤◌}
use mathlib.Core.Path.{◌≡◌, refl, sym, ◌∙◌, ap, subst}
use mathlib.Core.List.{List, [], ◌++◌, append_assoc, append-nil}
use lib.ListN.{length, get_or, take, drop, length-append, length-drop, take-append-drop, drop_of_length-le, get_or-append}
use lib.Seq.{length-take-le, get_or-take, get_or-drop, get_or-append-add, take-append-le, drop-append-le, take-take, drop_at, drop-drop}
use lib.Dec.{eqb}
use native.Mathlib.Omega.{arith}
use borrow.Author.Tests.{eqb-false}
use Rattle.base.specs.Pad.{pad}
use Rattle.base.proofs.Bools.{by}
use Rattle.base.proofs.Padding.{pad-length, pad-inside, pad-outside, pad-take, take-pad}
use Rattle.varint.specs.Varint.{Number}
use Rattle.automaton_format.specs.Reading.{Numbers, numbers, next_states}
use Rattle.automaton_format.specs.Writing.{next_numbers}
use Rattle.automaton_format.proofs.Follows.{done, Follows, Passes, all_unrefused, follows_append, follows_split, numbers-done, numbers-all}

-- the first state, and those after it
pub next-first : (next : List ℕ) (m k : ℕ) → next_numbers next m (suc k) ≡ take m next ++ next_numbers (drop 16 next) m k
unfolding next_numbers
next-first next m zero = sym (append-nil (take m next))
next-first next m (suc k) =
    let e : suc k * 16 ≡ 16 + k * 16 = omega arith in
    rw (e, ← drop-drop (k * 16) 16 next)
    (ap (λ l. l ++ take m (drop (k * 16) (drop 16 next))) (next-first next m k) ∙
    append_assoc (take m next) (next_numbers (drop 16 next) m k) (take m (drop (k * 16) (drop 16 next))))

-- what stands after the states does not matter
pub next_prefix : (l later : List ℕ) (m k : ℕ) → m ≤ 16 → k * 16 ≤ length l → next_numbers (l ++ later) m k ≡ next_numbers l m k
unfolding next_numbers
next_prefix l later m zero small h = refl
next_prefix l later m (suc k) small h =
    let inside : m ≤ length (drop (k * 16) l) = rw (length-drop (k * 16) l) (omega arith) in
    rw (
      next_prefix l later m k small (omega arith),
      drop-append-le (k * 16) l later (omega arith),
      take-append-le m (drop (k * 16) l) later inside,
    )

-- of the places of a state the first m pass the check, and the others are 0
abbrev pub Place : ℕ → (ℕ → ℕ) → ℕ → ℕ → Type 0
Place m check e v = (e < m → check v ≡ 0) × (m ≤ e → v ≡ 0)

-- k states of 16 places
pub record StatesPass (m : ℕ) (check : ℕ → ℕ) (k : ℕ) (l : List ℕ) : Type 0 where
  pub states-long : length l ≡ k * 16
  pub place : (q e : ℕ) → q < k → e < 16 → Place m check e (get_or l (q * 16 + e) 0)

module _ (m : ℕ) (check : ℕ → ℕ) (small : m ≤ 16) where
  states-later : (k : ℕ) (l : List ℕ) → StatesPass m check (suc k) l → StatesPass m check k (drop 16 l)
  states-later k l r =
      record {
        states-long = length-drop 16 l ∙ omega (arith, r.states-long);
        place = λ q e lq le.
            let s : 16 + (q * 16 + e) ≡ suc q * 16 + e = omega arith in
            rw (get_or-drop 16 l (q * 16 + e) 0, s) (r.place (suc q) e (omega arith) le);
      }

  module _ (k : ℕ) (block later : List ℕ) (long : length block ≡ m) (p : Passes (λ _. check) [] block) (r : StatesPass m check k later) where
    cons-place : (q e : ℕ) → q < suc k → e < 16 → Place m check e (get_or (pad 16 block ++ later) (q * 16 + e) 0)
    cons-place zero e lq le =
        let s : 0 * 16 + e ≡ e = omega arith in
        let t : length (pad 16 block) ≡ 16 = pad-length 16 block (omega arith) in
        rw (s, get_or-append (pad 16 block) later 0 e (omega arith))
        (λ u. rw (pad-inside 16 block e (omega arith)) (p e (omega arith)), λ u. pad-outside 16 block e (omega arith))
    cons-place (suc q) e lq le =
        let t : length (pad 16 block) ≡ 16 = pad-length 16 block (omega arith) in
        let s : suc q * 16 + e ≡ length (pad 16 block) + (q * 16 + e) = omega arith in
        rw (s, get_or-append-add (pad 16 block) later (q * 16 + e) 0) (r.place q e (omega arith) le)

    states-cons : StatesPass m check (suc k) (pad 16 block ++ later)
    states-cons =
        record {
          states-long = length-append (pad 16 block) later ∙ omega (arith, pad-length 16 block (omega arith), r.states-long);
          place = cons-place;
        }

  -- the first state
  module _ (k : ℕ) (l : List ℕ) (r : StatesPass m check (suc k) l) where
    state-place : (e : ℕ) → e < 16 → Place m check e (get_or l e 0)
    state-place e h = let s : 0 * 16 + e ≡ e = omega arith in rw s at (r.place 0 e (omega arith) h)

    state-length : length (take m l) ≡ m
    state-length = length-take-le m l (omega (arith, r.states-long))

    state-passes : Passes (λ _. check) [] (take m l)
    state-passes i h =
        let b : i < m = omega (arith, state-length) in
        rw (get_or-take m l i 0 b) ((state-place i (omega arith)).0 b)

    state-padded : pad 16 (take m l) ≡ take 16 l
    state-padded =
        let long : length (take 16 l) ≡ 16 = length-take-le 16 l (omega (arith, r.states-long)) in
        rw (← take-take m 16 l small)
        (pad-take 16 m (take 16 l) long small (λ i u v. rw (get_or-take 16 l i 0 v) ((state-place i v).1 u)))

  module _ (from : ℕ → Number) where
    pub next-states-done : (k : ℕ) (l before : List ℕ) (at stop : ℕ) → StatesPass m check k l → Follows from (next_numbers l m k) at stop
        → next_states from check m k before at ≡ done (before ++ l) stop
    unfolding next_states next_numbers
    next-states-done zero l before at stop r f =
        let e : l ≡ [] = drop_of_length-le l {i = 0} (omega (arith, r.states-long)) in
        rw (e, append-nil before, f)
    next-states-done (suc k) l before at stop r f =
        let s = follows_split from (take m l) (next_numbers (drop 16 l) m k) at stop (rw (next-first l m k) at f) in
        let n : numbers from (λ _. check) m [] at ≡ done (take m l) s.0
        = rw (state-length k l r) at (numbers-done from (λ _. check) (take m l) [] at s.0 s.1 (state-passes k l r)) in
        rw (n, state-padded k l r)
        (next-states-done k (drop 16 l) (before ++ take 16 l) s.0 stop (states-later k l r) s.2 ∙
        rw (append_assoc before (take 16 l) (drop 16 l), take-append-drop 16 l))

-- what was read of k states where nothing was refused
record StatesRead (from : ℕ → Number) (m : ℕ) (check : ℕ → ℕ) (before : List ℕ) (k : ℕ) (all : List ℕ) (at stop : ℕ) : Type 0 where
  vs : List ℕ
  all_eq : before ++ vs ≡ all
  passing : StatesPass m check k vs
  follows : Follows from (next_numbers vs m k) at stop

module _ (m : ℕ) (check : ℕ → ℕ) (small : m ≤ 16) (from : ℕ → Number) where
  next-states-cons : {before block all : List ℕ} {k at mid stop : ℕ} → numbers from (λ _. check) m [] at ≡ done block mid
      → StatesRead from m check (before ++ pad 16 block) k all mid stop → StatesRead from m check before (suc k) all at stop
  next-states-cons {before} {block} {all} {k} {at} {mid} {stop} h r =
      let s = numbers-all from (λ _. check) m block at mid h in
      let long : length block ≡ m = s.0 in
      let padded : length (pad 16 block) ≡ 16 = pad-length 16 block (omega arith) in
      let first : take m (pad 16 block ++ r.vs) ≡ block = take-append-le m (pad 16 block) r.vs (omega arith) ∙ rw (← long) (take-pad 16 block) in
      record {
        vs = pad 16 block ++ r.vs;
        all_eq = sym (append_assoc before (pad 16 block) r.vs) ∙ r.all_eq;
        passing = states-cons m check small k block r.vs long s.2 r.passing;
        follows =
            rw (next-first (pad 16 block ++ r.vs) m k, first, drop_at (pad 16 block) r.vs 16 padded)
            (follows_append from block (next_numbers r.vs m k) at mid stop s.1 r.follows);
      }

  next-states-read : (k : ℕ) (before all : List ℕ) (at stop : ℕ) → next_states from check m k before at ≡ done all stop
      → StatesRead from m check before k all at stop
  unfolding next_states next_numbers
  next-states-read zero before all at stop h =
      record {
        vs = [];
        all_eq = append-nil before ∙ ap (λ n. n.values) h;
        follows = ap (λ n. n.place) h;
        passing = record { states-long = refl; place = λ q e lq le. absurd (omega arith) };
      }
  next-states-read (suc k) before all at stop h =
      let block : Numbers = numbers from (λ _. check) m [] at in
      by (eqb block.refusal 0)
      (λ r. next-states-cons (all_unrefused block r) (next-states-read k (before ++ pad 16 block.values) all block.place stop (rw r at h)))
      (λ r. absurd (eqb-false block.refusal 0 r (ap (λ m. m.refusal) (rw r at h))))

  -- where nothing stands before them
  pub next-states-all : (k : ℕ) (vs : List ℕ) (at stop : ℕ) → next_states from check m k [] at ≡ done vs stop
      → StatesPass m check k vs × Follows from (next_numbers vs m k) at stop
  next-states-all k vs at stop h =
      let s = next-states-read k [] vs at stop h in
      subst (λ l. StatesPass m check k l × Follows from (next_numbers l m k) at stop) s.all_eq (s.passing, s.follows)
