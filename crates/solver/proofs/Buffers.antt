-- Symbol by symbol and length by length, the table comes to hold the sets of every buffer.
use Prim.Native.Nat.{ℕ, zero, suc, ◌+◌, ◌*◌, ◌^◌, ◌<◌, ◌≤◌}
use mathlib.Core.Path.{◌≡◌, refl, sym, ◌∙◌, ap, ap₂}
use mathlib.Core.List.{List, [], ◌∷◌, ◌++◌, map, map-map, map-append, append-nil, append_assoc}
use native.Mathlib.Omega.{arith}
use lib.Bits.{bit_or}
use lib.ListN.{length, get_or, take, drop, length-map, get_or-append, get_or-map}
use lib.Seq.{sets-eq, take-suc, take-length}
use Rattle.base.specs.Each.{those}
use Rattle.base.specs.Pad.{pad}
use Rattle.base.proofs.Bools.{by}
use Rattle.automaton.specs.declared.Automaton.{Automaton}
use Rattle.automaton.specs.Arrays.{controllable_at}
use Rattle.automaton.specs.Automaton.{controllable, controllables}
use Rattle.solver_sets.specs.declared.Sets.{Sets}
use Rattle.solver_sets.specs.Sets.{accepting_set, sets_of, empty_sets, into, sets_for}
use Rattle.solver_sets.specs.Table.{shorter, controllable_to, extended, buffers_at, buffers_to, pairs}
use Rattle.solver_sets.proofs.Numbering.{buffers_at-length, buffers_to-length, level_at}
use Rattle.solver_sets.proofs.Tables.{pairs-length, pairs-at}
use Rattle.solver_rounds.specs.Rounds.{settled_on}
use Rattle.automaton_symbols.specs.Symbols.{free_to}
use Rattle.solver_rounds.proofs.Agreeing.{settled_is, predecessors-is}
use Rattle.solver_table.specs.Levels.{sets_from, goal_at, symbol_sets, level_of, stored}

extended-append : (xs ys : List ℕ) (ws : List (List ℕ)) → extended (xs ++ ys) ws ≡ extended xs ws ++ extended ys ws
unfolding extended
extended-append [] ys ws = refl
extended-append (x ∷ xs) ys ws =
    ap (λ l. map (λ w. x ∷ w) ws ++ l) (extended-append xs ys ws) ∙ sym (append_assoc (map (λ w. x ∷ w) ws) (extended xs ws) (extended ys ws))

module _ (a : Automaton) where
  abbrev free : List ℕ
  free = free_to a.classes a.symbols

  -- the sets of a buffer that begins with a symbol
  abbrev pub front : ℕ → ℕ → Sets
  front = sets_from a.next (pad 16 free) a.states (length free) (accepting_set a)

  sets_from-is : (e : ℕ) (w : List ℕ) → front e (bit_or (sets_for a w).winning (sets_for a w).intermediate) ≡ sets_for a (e ∷ w)
  unfolding sets_from sets_for sets_of
  sets_from-is e w =
      let i = predecessors-is a e (sets_for a w) in
      let r = ap (λ i. settled_on a.next (pad 16 free) a.states (length free) i (accepting_set a)) i ∙ settled_is a (into a e (sets_for a w)) (λ x. (empty_sets a).winning) in
      λ j. record { winning = (r j).set; intermediate = i j; rounds = (r j).rounds }

  -- the sets of the buffers ws stand from a place on
  abbrev Stands : List ℕ → ℕ → List (List ℕ) → Type 0
  Stands t from ws =
      (j : ℕ) → j < length ws
      → (get_or t (from + 2 * j) 0 ≡ (sets_for a (get_or ws j [])).winning) × (get_or t (from + 2 * j + 1) 0 ≡ (sets_for a (get_or ws j [])).intermediate)

  module _ (t : List ℕ) (from : ℕ) (ws : List (List ℕ)) (h : Stands t from ws) where
    front-is : (e j : ℕ) → j < length ws → front e (goal_at t from j) ≡ sets_for a (e ∷ get_or ws j [])
    unfolding goal_at
    front-is e j l =
        ap₂ (λ s i. front e (bit_or s i)) (h j l).0 (h j l).1 ∙ sets_from-is e (get_or ws j [])

    symbol_to : (e j : ℕ) → j ≤ length ws → symbol_sets (front e) t from j ≡ map (λ w. sets_for a (e ∷ w)) (take j ws)
    unfolding symbol_sets
    symbol_to e zero l = refl
    symbol_to e (suc j) l =
        let b : j < length ws = omega arith in
        ap₂ (λ r s. r ++ s ∷ []) (symbol_to e j (omega arith)) (front-is e j b) ∙
        rw (take-suc ws j [] b) (sym (map-append (λ w. sets_for a (e ∷ w)) (take j ws) (get_or ws j [] ∷ [])))

    symbol-is : (e : ℕ) → symbol_sets (front e) t from (length ws) ≡ map (sets_for a) (map (λ w. e ∷ w) ws)
    symbol-is e =
        symbol_to e (length ws) (omega arith) ∙ ap (map (λ w. sets_for a (e ∷ w))) (take-length ws) ∙ sym (map-map (sets_for a) (λ w. e ∷ w) ws)

    -- the sets for each controllable symbol
    level_to : (c : ℕ) → level_of front a.classes c t from (length ws) ≡ map (sets_for a) (extended (controllable_to a c) ws)
    unfolding level_of those extended controllable
    level_to zero = refl
    level_to (suc c) =
        by (controllable_at a.classes c)
        (λ b. rw (b, extended-append (controllable_to a c) (c ∷ []) ws, append-nil (map (λ w. c ∷ w) ws), map-append (sets_for a) (extended (controllable_to a c) ws) (map (λ w. c ∷ w) ws))
        (ap₂ ◌++◌ (level_to c) (symbol-is c)))
        (λ b. rw (b, append-nil (controllable_to a c), append-nil (level_of front a.classes c t from (length ws))) (level_to c))

  -- what stands in a table that has the sets of the buffers up to a length
  module _ (t₀ : List ℕ) (l : ℕ) (room : 2 * shorter (controllables a) (suc l) ≤ length t₀) where
    abbrev ss : List Sets
    ss = map (sets_for a) (buffers_to a l)

    ss_length : length ss ≡ shorter (controllables a) (suc l)
    ss_length = rw (length-map (buffers_to a l) (sets_for a)) (buffers_to-length a l)

    stored_at : (i : ℕ) → i < length (pairs ss) → get_or (stored t₀ 0 ss) i 0 ≡ get_or (pairs ss) i 0
    stored_at i h =
        ap (λ t. get_or t i 0) (sets-eq (pairs ss) t₀ 0 (omega (arith, pairs-length ss, ss_length))) ∙
        get_or-append (pairs ss) (drop (0 + length (pairs ss)) t₀) 0 i h

    set_at : (i : ℕ) → i < controllables a ^ l → get_or ss (shorter (controllables a) l + i) (sets_for a []) ≡ sets_for a (get_or (buffers_at a l) i [])
    set_at i h =
        get_or-map (sets_for a) (buffers_to a l) (shorter (controllables a) l + i) [] ∙ ap (sets_for a) (level_at a l l i (omega arith) h)

    level_stands : Stands (stored t₀ 0 ss) (2 * shorter (controllables a) l) (buffers_at a l)
    unfolding shorter
    level_stands j h =
        let b : j < controllables a ^ l = omega (arith, buffers_at-length a l) in
        let i = shorter (controllables a) l + j in
        let e : 2 * shorter (controllables a) l + 2 * j ≡ 2 * i = omega arith in
        let c : i < length ss = omega (arith, ss_length) in
        let p = pairs-at ss i (sets_for a []) c in
        let s = set_at j b in
        rw e (
          stored_at (2 * i) (omega (arith, pairs-length ss)) ∙ p.0 ∙ ap (λ s. s.winning) s,
          stored_at (2 * i + 1) (omega (arith, pairs-length ss)) ∙ p.1 ∙ ap (λ s. s.intermediate) s,
        )

    pub next_level : level_of front a.classes a.symbols (stored t₀ 0 ss) (2 * shorter (controllables a) l) (controllables a ^ l) ≡ map (sets_for a) (buffers_at a (suc l))
    unfolding buffers_at
    next_level = rw (← buffers_at-length a l) (level_to (stored t₀ 0 ss) (2 * shorter (controllables a) l) (buffers_at a l) level_stands a.symbols)
