-- A loop that writes the sets of the buffers length by length.
use Prim.Native.Nat.{ℕ, suc, ◌+◌, ◌*◌, ◌^◌, ◌<◌, ◌≤◌}
use mathlib.Core.Path.{◌≡◌, refl, sym, ◌∙◌, ap}
use mathlib.Core.List.{List, ◌++◌, map, map-append}
use mathlib.Core.Bool.{true}
use native.Mathlib.Numerals.{add-one}
use native.Mathlib.Nat.{zero-add, pow-zero, pow-suc}
use native.Mathlib.Omega.{arith}
use lib.ListN.{length, set, drop, length-map, length-set}
use lib.Seq.{sets-eq, set-set, set_comm, drop-set-lt}
use Rattle.base.specs.Masks.{mask}
use Rattle.automaton.specs.declared.Automaton.{Automaton}
use Rattle.automaton.specs.Arrays.{controllable_in, accepting_at}
use Rattle.automaton.specs.Automaton.{controllables, valid}
use Rattle.automaton.proofs.Facts.{Valid, valid_facts}
use Rattle.solver_sets.specs.declared.Sets.{Sets}
use Rattle.solver_sets.specs.declared.Settled.{Settled}
use Rattle.solver_sets.specs.Sets.{accepting_set, settled, sets_of, empty_sets, sets_for}
use Rattle.solver_sets.specs.Table.{shorter, buffers_count, buffers_at, buffers_to, pairs, rounds_sum, table, rounds}
use Rattle.solver_sets.proofs.Numbering.{buffers_at-length, buffers_to-length}
use Rattle.solver_sets.proofs.Tables.{table-length}
use Rattle.automaton_symbols.specs.declared.Symbols.{Symbols}
use Rattle.solver_rounds.specs.Rounds.{RefineRequires, settled_on}
use Rattle.automaton_symbols.specs.Symbols.{free_of}
use Rattle.solver_table.specs.Levels.{sets_from, level_of, stored}
use Rattle.solver_table.proofs.Filling.{sum-append, stored-append}
use Rattle.solver_rounds.proofs.Agreeing.{accepting-is, lent_fits, accepting-below, settled_is}
use Rattle.solver.proofs.Buffers.{front, next_level}
use Rattle.solver_answers.proofs.Bounds.{pow_small, shorter-small, shorter_mono, shorter-one, rounds-few}

-- what the loop has of an automaton
pub record Lent (a : Automaton) (n m b k accepting : ℕ) (free : Symbols) : Type 0 where
  pub facts : Valid a
  pub fits : RefineRequires a.next free.list n free.count
  pub states : n ≡ a.states
  pub symbols : m ≡ a.symbols
  pub capacity : b ≡ a.capacity
  pub radix : k ≡ controllables a
  pub start : accepting ≡ accepting_set a
  pub listed : free ≡ free_of a.classes a.symbols

pub lent_of : (a : Automaton) (n m b k accepting : ℕ) (free : Symbols) → valid a ≡ true → n ≡ a.states → m ≡ a.symbols → b ≡ a.capacity
    → k ≡ controllable_in a.classes m → accepting ≡ mask n (accepting_at a.accepting) → free ≡ free_of a.classes m
    → Lent a n m b k accepting free
unfolding free_of controllables
lent_of a n m b k accepting free h p q r x s t =
    let l = t ∙ ap (free_of a.classes) q in
    record {
      facts = valid_facts a h;
      fits = rw (l, p) (lent_fits a h);
      states = p;
      symbols = q;
      capacity = r;
      radix = x ∙ ap (controllable_in a.classes) q;
      start = s ∙ ap (λ n. mask n (accepting_at a.accepting)) p ∙ accepting-is a;
      listed = l;
    }

module _ (a : Automaton) (n m b k accepting : ℕ) (free : Symbols) (lent : Lent a n m b k accepting free) where
  pub lent-small : accepting < 2 ^ n
  lent-small = rw (lent.start, lent.states) (accepting-below a)

  lent-front : sets_from a.next free.list n free.count accepting ≡ front a
  unfolding free_of
  lent-front = rw (lent.listed, lent.states, lent.start)

  pub lent-settled : settled_on a.next free.list n free.count 0 accepting ≡ settled a 0 (λ x. x)
  unfolding free_of
  lent-settled = rw (lent.listed, lent.states, lent.start) (settled_is a 0 (λ x. x))

  lent_level : (t : List ℕ) (from count : ℕ)
      → level_of (sets_from a.next free.list n free.count accepting) a.classes m t from count ≡ level_of (front a) a.classes a.symbols t from count
  lent_level t from count = rw (lent-front, lent.symbols)

-- the table has the sets of the buffers up to length l, and the last of these stand at the end
pub record Lengthening (a : Automaton) (t₀ : List ℕ) (l : ℕ) (t : List ℕ) (from count sum : ℕ) : Type 0 where
  pub same : length t ≡ length t₀
  pub written : t ≡ stored t₀ 0 (map (sets_for a) (buffers_to a l))
  pub place : from ≡ 2 * shorter (controllables a) l
  pub counted : count ≡ controllables a ^ l
  pub summed : sum ≡ rounds_sum (map (sets_for a) (buffers_to a l))

-- there is the empty buffer at least
pub some-buffer : (a : Automaton) → 1 ≤ buffers_count a
unfolding buffers_count
some-buffer a = omega (arith, shorter-one (controllables a), shorter_mono (controllables a) 1 (suc a.capacity) (omega arith))

module _ (a : Automaton) (t : List ℕ) (r : Settled) where
  -- the table with the sets of the empty buffer
  abbrev pub begun : List ℕ
  begun = set (set t 0 r.set) 1 0

  twice : set (set begun 0 r.set) 1 0 ≡ begun
  twice = rw (set_comm (set t 0 r.set) 1 0 0 r.set (λ e. omega arith), set-set t 0 r.set r.set) (set-set (set t 0 r.set) 1 0 0)

  pub length_none : r ≡ settled a 0 (λ x. x) → Lengthening a begun 0 begun 0 1 r.rounds
  unfolding buffers_to buffers_at sets_for empty_sets sets_of pairs rounds_sum shorter
  length_none h = record {
    same = refl;
    written = sym (rw (← h) twice);
    place = refl;
    counted = sym (pow-zero (controllables a));
    summed = rw (← h) (omega arith);
  }

  pub begun-length : length begun ≡ length t
  begun-length = simp length-set

  pub begun-later : drop (2 * buffers_count a) begun ≡ drop (2 * buffers_count a) t
  begun-later =
      drop-set-lt (2 * buffers_count a) (set t 0 r.set) 1 0 (omega (arith, some-buffer a)) ∙
      drop-set-lt (2 * buffers_count a) t 0 r.set (omega (arith, some-buffer a))

module _ (a : Automaton) (n m b k accepting : ℕ) (free : Symbols) (lent : Lent a n m b k accepting free)
    (t₀ : List ℕ) (room : 2 * buffers_count a ≤ length t₀) (l : ℕ) (t : List ℕ) (from count sum : ℕ) (s : Lengthening a t₀ l t from count sum)
  where
    abbrev c : ℕ
    c = controllables a

    -- any sum of rounds is small
    pub length-fits : l ≤ b → sum ≤ 58720256
    length-fits h =
        let v = lent.facts in
        omega (arith, lent.capacity, s.summed, rounds-few a v (buffers_to a l), buffers_to-length a l, shorter-small c (suc l) v.controllables-high (omega (arith, lent.capacity, v.capacity-high)))

    pub length-all : l ≡ b → (t ≡ table a ++ drop (2 * buffers_count a) t₀) × (sum ≡ rounds a)
    unfolding table rounds
    length-all h =
        let ss = map (sets_for a) (buffers_to a a.capacity) in
        let e : length (pairs ss) ≡ 2 * buffers_count a = table-length a in
        let g = h ∙ lent.capacity in (
          s.written ∙ ap (λ l. stored t₀ 0 (map (sets_for a) (buffers_to a l))) g ∙ sets-eq (pairs ss) t₀ 0 (omega arith) ∙ rw (zero-add (length (pairs ss)), e),
          s.summed ∙ ap (λ l. rounds_sum (map (sets_for a) (buffers_to a l))) g,
        )

    -- the next length is still within the capacity
    module _ (h : l < b) where
      longer_room : 2 * shorter c (suc (suc l)) ≤ length t₀
      unfolding buffers_count
      longer_room = omega (arith, lent.capacity, shorter_mono c (suc (suc l)) (suc a.capacity) (omega (arith, lent.capacity)))

      pub length-small : count ≤ 262144
      length-small =
          let v = lent.facts in
          omega (arith, s.counted, pow_small c l v.controllables-high (omega (arith, lent.capacity, v.capacity-high)))

      pub length-place : from + 2 * count ≤ 3670016
      unfolding shorter
      length-place =
          let v = lent.facts in
          omega (arith, s.place, s.counted, lent.capacity, v.capacity-high, shorter-small c (suc l) v.controllables-high (omega (arith, lent.capacity, v.capacity-high)))

      counted_next : count * k ≡ c ^ suc l
      counted_next = rw (s.counted, lent.radix) (sym (pow-suc c l))

      pub length-next : count * k ≤ 262144
      length-next =
          let v = lent.facts in
          omega (arith, counted_next, pow_small c (suc l) v.controllables-high (omega (arith, lent.capacity, v.capacity-high)))

      abbrev behind : List Sets
      behind = level_of (sets_from a.next free.list n free.count accepting) a.classes m t from count

      abbrev level : List Sets
      level = map (sets_for a) (buffers_at a (suc l))

      level_is : behind ≡ level
      unfolding shorter
      level_is =
          lent_level a n m b k accepting free lent t from count ∙
          rw (s.written, s.place, s.counted) (next_level a t₀ l (omega (arith, longer_room)))

      level_length : length level ≡ c ^ suc l
      level_length = rw (length-map (buffers_at a (suc l)) (sets_for a)) (buffers_at-length a (suc l))

      pub length-room : from + 2 * count + 2 * length behind ≤ length t
      unfolding shorter
      length-room = rw level_is (omega (arith, level_length, s.place, s.counted, s.same, longer_room))

      pub length_more : (t' : List ℕ) (more : ℕ) → length t' ≡ length t → t' ≡ stored t (from + 2 * count) behind → more ≡ rounds_sum behind
          → Lengthening a t₀ (l + 1) t' (from + 2 * count) (count * k) (sum + more)
      unfolding buffers_to shorter
      length_more t' more long put add =
          let so_far = map (sets_for a) (buffers_to a l) in
          let both = map-append (sets_for a) (buffers_to a l) (buffers_at a (suc l)) in
          let at : from + 2 * count ≡ 0 + 2 * length so_far = rw (length-map (buffers_to a l) (sets_for a)) (omega (arith, s.place, s.counted, buffers_to-length a l)) in
          rw (add-one l) (record {
            same = long ∙ s.same;
            written = rw (both, put, level_is, at, s.written) (stored-append t₀ 0 so_far level);
            place = omega (arith, s.place, s.counted);
            counted = counted_next;
            summed = rw (both, sum-append so_far level) (omega (arith, s.summed, add, ap rounds_sum level_is));
          })
