-- The numbering of buffers and the table (document 01, "Where it may rest, where it must
-- release").
use Rattle.std.specs.Prelude.{ℕ, zero, suc, ◌+◌, ◌*◌, ◌^◌, ◌<◌, ◌≤◌, ◌≡◌, Bool, true, List, [], ◌∷◌, ◌++◌, map, length, get_or, ltb}
use Rattle.base.specs.All.{AllOf}
use Rattle.base.specs.Each.{count, those}
use Rattle.base.specs.Masks.{has}
use Rattle.automaton.specs.declared.Automaton.{Automaton}
use Rattle.automaton.specs.Automaton.{controllable, controllables}
use Rattle.solver_sets.specs.Sets.{Sets, sets_for}

-- the rank of a symbol among the controllable ones, in rising order
unfoldable pub rank : Automaton → ℕ → ℕ
rank a e = count e (controllable a)

-- a buffer as a number in base k, the first held event most significant
unfoldable pub in_base_k : Automaton → List ℕ → ℕ
in_base_k a [] = 0
in_base_k a (e ∷ w) = rank a e * controllables a ^ length w + in_base_k a w

-- how many buffers are shorter than l, for k controllable symbols: 1 + k + .. + k ^ (l - 1)
unfoldable pub shorter : ℕ → ℕ → ℕ
shorter k zero = 0
shorter k (suc l) = shorter k l + k ^ l

-- the number of a buffer: by length, then by value
unfoldable pub index : Automaton → List ℕ → ℕ
index a w = shorter (controllables a) (length w) + in_base_k a w

-- T, the number of buffers up to the capacity
unfoldable pub buffers_count : Automaton → ℕ
buffers_count a = shorter (controllables a) (suc a.capacity)

-- row 12: a lent table is shorter than 2T
unfoldable pub short : Automaton → List ℕ → Bool
short a t = ltb (length t) (2 * buffers_count a)

-- a list of controllable symbols
abbrev pub Controllable : Automaton → List ℕ → Type 0
Controllable a = AllOf (λ e. (e < a.symbols) × (controllable a e ≡ true))

-- a buffer (document 01's held list) up to the automaton's capacity
abbrev pub Buffer : Automaton → List ℕ → Type 0
Buffer a w = Controllable a w × (length w ≤ a.capacity)

-- the controllable symbols below c, rising
abbrev pub controllable_to : Automaton → ℕ → List ℕ
controllable_to a c = those c (controllable a)

-- each symbol in front of each buffer
unfoldable pub extended : List ℕ → List (List ℕ) → List (List ℕ)
extended [] ws = []
extended (e ∷ es) ws = map (λ w. e ∷ w) ws ++ extended es ws

-- the buffers of length l, in the order of their numbers
unfoldable pub buffers_at : Automaton → ℕ → List (List ℕ)
buffers_at a zero = [] ∷ []
buffers_at a (suc l) = extended (controllable_to a a.symbols) (buffers_at a l)

-- and all those of length at most b
unfoldable pub buffers_to : Automaton → ℕ → List (List ℕ)
buffers_to a zero = buffers_at a zero
buffers_to a (suc b) = buffers_to a b ++ buffers_at a (suc b)

-- S and I of each buffer, side by side
unfoldable pub pairs : List Sets → List ℕ
pairs [] = []
pairs (t ∷ ts) = t.winning ∷ t.intermediate ∷ pairs ts

unfoldable pub rounds_sum : List Sets → ℕ
rounds_sum [] = 0
rounds_sum (t ∷ ts) = t.rounds + rounds_sum ts

-- The table that is solved for an automaton: S of buffer j at 2j, I at 2j + 1.
unfoldable pub table : Automaton → List ℕ
table a = pairs (map (sets_for a) (buffers_to a a.capacity))

-- the rounds that struck, over all buffers
unfoldable pub rounds : Automaton → ℕ
rounds a = rounds_sum (map (sets_for a) (buffers_to a a.capacity))

-- A lent list is solved for an automaton (document 01's "solved"): it has the places below 2T, and
-- at the places of each buffer the bits below n are its sets. Nothing is said of other bits and
-- places.
pub record Solved (a : Automaton) (t : List ℕ) : Type 0 where
  pub long : 2 * buffers_count a ≤ length t
  pub winning : (w : List ℕ) → Buffer a w → (q : ℕ) → q < a.states
      → has (get_or t (2 * index a w) 0) q ≡ has (sets_for a w).winning q
  pub intermediate : (w : List ℕ) → Buffer a w → (q : ℕ) → q < a.states
      → has (get_or t (2 * index a w + 1) 0) q ≡ has (sets_for a w).intermediate q
