-- What is read from the record's arrays. Inner functions are lent these and not the record; an
-- automaton's definitions are these at its own arrays.
use Rattle.std.specs.Prelude.{ℕ, ◌+◌, ◌*◌, ◌-◌, Bool, cond, List, ◌++◌, length, get_or, replicate, eqb, ltb}
use Rattle.base.specs.Each.{each, count}

-- class 1: events of symbol e may be held back
abbrev pub controllable_at : List ℕ → ℕ → Bool
controllable_at classes e = eqb (get_or classes e 0) 1

-- how many of the first m symbols are controllable
unfoldable pub controllable_in : List ℕ → ℕ → ℕ
controllable_in classes m = count m (controllable_at classes)

-- flag 1: state q is accepting
abbrev pub accepting_at : List ℕ → ℕ → Bool
accepting_at flags q = eqb (get_or flags q 0) 1

-- the next state of q under e: 16 places are kept for each state
abbrev pub goes : List ℕ → ℕ → ℕ → ℕ
goes next q e = get_or next (q * 16 + e) 0

-- v stands at a place: below the limit where the place is used, and 0 where it is not
unfoldable pub stands : Bool → ℕ → ℕ → Bool
stands used limit v = ltb v (cond used limit 1)

-- so it is at each place of a list whose first `used` places are used
unfoldable pub places_stand : List ℕ → ℕ → ℕ → Bool
places_stand l used limit = each (length l) (λ i. stands (ltb i used) limit (get_or l i 0))

-- each of `k` places from `from` on is below the limit
unfoldable pub below_from : List ℕ → ℕ → ℕ → ℕ → Bool
below_from l from k limit = each k (λ i. ltb (get_or l (from + i) 0) limit)

-- the 16 limits of a state's next states: n for the m symbols, 1 for unused places
unfoldable pub next_limits : ℕ → ℕ → List ℕ
next_limits n m = replicate m n ++ replicate (16 - m) 1

-- state q's 16 places keep the limits
unfoldable pub state_below : List ℕ → ℕ → List ℕ → Bool
state_below next q limits = each 16 (λ e. ltb (goes next q e) (get_or limits e 0))

-- .. and those of each of the first `k` states
unfoldable pub states_below : List ℕ → ℕ → List ℕ → Bool
states_below next k limits = each k (λ q. state_below next q limits)
