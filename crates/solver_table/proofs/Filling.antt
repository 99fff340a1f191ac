-- The sets of the buffers that begin with one symbol, as a loop writes them.
use Prim.Native.Nat.{ℕ, zero, suc, ◌+◌, ◌*◌, ◌^◌, ◌<◌, ◌≤◌}
use mathlib.Core.Path.{◌≡◌, refl, sym, ◌∙◌, ap, ap₂}
use mathlib.Core.List.{List, [], ◌∷◌, ◌++◌}
use native.Mathlib.Nat.{zero-add}
use native.Mathlib.Numerals.{add-one}
use native.Mathlib.Omega.{arith}
use lib.Bits.{bit_or}
use lib.ListN.{length, get_or, set, length-append, length-set}
use lib.Seq.{sets as stores, get_or-set_other}
use Rattle.base.proofs.Stores.{sets_join}
use Rattle.solver_sets.specs.declared.Sets.{Sets}
use Rattle.solver_sets.specs.declared.Settled.{Settled}
use Rattle.solver_sets.specs.Table.{pairs, rounds_sum}
use Rattle.solver_sets.proofs.Tables.{pairs-length}
use Rattle.solver_rounds.specs.Rounds.{settled_on, predecessors}
use Rattle.solver_rounds.proofs.Scanning.{settled-few, predecessors-none}
use Rattle.solver_table.specs.Levels.{sets_from, goal_at, symbol_sets, stored}

-- the rounds of a buffer are few
pub sets-few : (next free : List ℕ) (n u accepting : ℕ) → n ≤ 32 → accepting < 2 ^ n → (e goal : ℕ) → (sets_from next free n u accepting e goal).rounds ≤ 32
unfolding sets_from
sets-few next free n u accepting l small e goal = omega (arith, settled-few next free n u (predecessors next n e goal) accepting small)

-- the sets of goal 0 are the empty buffer's
pub sets-none : (next free : List ℕ) (n u accepting e : ℕ) (s : Settled) → s ≡ settled_on next free n u 0 accepting
    → record { winning = s.set; intermediate = 0; rounds = s.rounds } ≡ sets_from next free n u accepting e 0
unfolding sets_from
sets-none next free n u accepting e s h = rw (h, predecessors-none next n e)

-- lists of sets, one behind the other
pub pairs-append : (ss ts : List Sets) → pairs (ss ++ ts) ≡ pairs ss ++ pairs ts
unfolding pairs
pairs-append [] ts = refl
pairs-append (s ∷ ss) ts = ap (λ l. s.winning ∷ s.intermediate ∷ l) (pairs-append ss ts)

pub sum-append : (ss ts : List Sets) → rounds_sum (ss ++ ts) ≡ rounds_sum ss + rounds_sum ts
unfolding rounds_sum
sum-append [] ts = sym (zero-add (rounds_sum ts))
sum-append (s ∷ ss) ts = omega (arith, sum-append ss ts)

pub stored-append : (t : List ℕ) (at : ℕ) (ss ts : List Sets) → stored (stored t at ss) (at + 2 * length ss) ts ≡ stored t at (ss ++ ts)
stored-append t at ss ts =
    let e : at + 2 * length ss ≡ at + length (pairs ss) = omega (arith, pairs-length ss) in
    rw (e, pairs-append ss ts) (sets_join t at (pairs ss) (pairs ts))

-- what stands before a list of stores
pub before_stores : (vs t : List ℕ) (at i : ℕ) → i < at → get_or (stores t at vs) i 0 ≡ get_or t i 0
before_stores [] t at i h = refl
before_stores (v ∷ vs) t at i h =
    before_stores vs (set t at v) (suc at) i (omega arith) ∙ get_or-set_other t at i v 0 (λ e. omega arith)

-- the sets of one symbol
pub symbol-length : (f : ℕ → Sets) (t : List ℕ) (from j : ℕ) → length (symbol_sets f t from j) ≡ j
unfolding symbol_sets
symbol-length f t from zero = refl
symbol-length f t from (suc j) =
    length-append (symbol_sets f t from j) (f (goal_at t from j) ∷ []) ∙ omega (arith, symbol-length f t from j)

pub symbol-same : (f : ℕ → Sets) (t v : List ℕ) (from j : ℕ) → ((i : ℕ) → i < from + 2 * j → get_or t i 0 ≡ get_or v i 0) → symbol_sets f t from j ≡ symbol_sets f v from j
unfolding symbol_sets goal_at
symbol-same f t v from zero h = refl
symbol-same f t v from (suc j) h =
    ap₂ (λ l x. l ++ f x ∷ []) (symbol-same f t v from j (λ i l. h i (omega arith)))
    (ap₂ bit_or (h (from + 2 * j) (omega arith)) (h (from + 2 * j + 1) (omega arith)))

pub symbol-few : (f : ℕ → Sets) → ((goal : ℕ) → (f goal).rounds ≤ 32) → (t : List ℕ) (from j : ℕ) → rounds_sum (symbol_sets f t from j) ≤ 32 * j
unfolding symbol_sets rounds_sum
symbol-few f few t from zero = omega arith
symbol-few f few t from (suc j) =
    rw (sum-append (symbol_sets f t from j) (f (goal_at t from j) ∷ [])) (omega (arith, symbol-few f few t from j, few (goal_at t from j)))

-- the sets that a loop goes on with: new ones, or those that it remembered
pub record Known (f : ℕ → Sets) (goal known : ℕ) (sets : Sets) : Type 0 where
  pub is : known ≡ goal
  pub made : sets ≡ f known

pub known-new : (f : ℕ → Sets) (goal known : ℕ) (sets r : Sets) → known ≡ goal → sets ≡ r → r ≡ f goal → Known f goal known sets
known-new f goal known sets r h e g = record { is = h; made = e ∙ g ∙ ap f (sym h) }

pub known_old : (f : ℕ → Sets) (goal known k : ℕ) (sets s : Sets) → goal ≡ k → s ≡ f k → known ≡ k → sets ≡ s → Known f goal known sets
known_old f goal known k sets s g r h e = record { is = h ∙ sym g; made = e ∙ r ∙ ap f (sym h) }

-- a loop that writes them
pub record Filling (f : ℕ → Sets) (t₀ : List ℕ) (from to j : ℕ) (t : List ℕ) (known : ℕ) (last : Sets) (rounds : ℕ) : Type 0 where
  pub same : length t ≡ length t₀
  pub written : t ≡ stored t₀ to (symbol_sets f t₀ from j)
  pub remembered : last ≡ f known
  pub summed : rounds ≡ rounds_sum (symbol_sets f t₀ from j)

pub fill_none : (f : ℕ → Sets) (t : List ℕ) (from to known : ℕ) (last : Sets) → last ≡ f known → Filling f t from to 0 t known last 0
unfolding symbol_sets pairs rounds_sum
fill_none f t from to known last h = record { same = refl; written = refl; remembered = h; summed = refl }

module _ (f : ℕ → Sets) (t₀ : List ℕ) (from to j : ℕ) (t : List ℕ) (known : ℕ) (last : Sets) (rounds : ℕ) (s : Filling f t₀ from to j t known last rounds) where
  fill_goal : from + 2 * j + 1 < to → bit_or (get_or t (from + 2 * j) 0) (get_or t (from + 2 * j + 1) 0) ≡ goal_at t₀ from j
  unfolding goal_at
  fill_goal h =
      rw s.written
      (ap₂ bit_or
      (before_stores (pairs (symbol_sets f t₀ from j)) t₀ to (from + 2 * j) (omega arith))
      (before_stores (pairs (symbol_sets f t₀ from j)) t₀ to (from + 2 * j + 1) (omega arith)))

  -- a buffer more
  module _ (h : from + 2 * j + 1 < to) (goal : ℕ) (sets : Sets) (k : Known f (bit_or (get_or t (from + 2 * j) 0) (get_or t (from + 2 * j + 1) 0)) goal sets) where
    symbol-more : symbol_sets f t₀ from (j + 1) ≡ symbol_sets f t₀ from j ++ sets ∷ []
    unfolding symbol_sets
    symbol-more = rw (add-one j) (ap (λ x. symbol_sets f t₀ from j ++ x ∷ []) (sym (k.made ∙ ap f (k.is ∙ fill_goal h))))

    pub fill_more : Filling f t₀ from to (j + 1) (set (set t (to + 2 * j) sets.winning) (to + 2 * j + 1) sets.intermediate) goal sets (rounds + sets.rounds)
    unfolding pairs rounds_sum
    fill_more = record {
      same = simp length-set s.same;
      written =
          rw (symbol-more, s.written, add-one (to + 2 * j))
          (rw (symbol-length f t₀ from j) at (stored-append t₀ to (symbol_sets f t₀ from j) (sets ∷ [])));
      remembered = k.made;
      summed = rw (symbol-more, sum-append (symbol_sets f t₀ from j) (sets ∷ [])) (omega (arith, s.summed));
    }

    pub fill_fits : ((goal : ℕ) → (f goal).rounds ≤ 32) → rounds + sets.rounds ≤ 32 * (j + 1)
    fill_fits few = omega (arith, s.summed, symbol-few f few t₀ from j, few goal, ap (λ x. x.rounds) k.made)
