-- What the inner functions of the solver hand back, over the arrays that are lent to them: the
-- next states and the first u of a list of symbols. Where that is the list of the uncontrollable
-- symbols, a round looks at no others and at one set instead of two: `leads`, `left_of`,
-- `settled_on` and `predecessors` are then `stays`, `refine`, `settled` and `into` of crate
-- `solver_sets`, which follow document 01's words (proofs/Agreeing.antt).
use Rattle.std.specs.Prelude.{ℕ, ◌<◌, ◌≤◌, Bool, ◌&&◌, List, get_or}
use Rattle.std.specs.Int.Bits.{bit_or}
use Rattle.base.specs.Each.{each}
use Rattle.base.specs.Masks.{has, mask}
use Rattle.automaton.specs.Arrays.{goes}
use Rattle.solver_sets.specs.declared.Settled.{Settled}
use Rattle.solver_sets.specs.Sets.{settle}

-- every number of a list is below a limit
abbrev pub Below : ℕ → List ℕ → Type 0
Below limit l = (i : ℕ) → get_or l i 0 < limit

-- what `refine` asks, and each function above it: n states and u symbols with which the lent
-- arrays can be indexed
pub record RefineRequires (next free : List ℕ) (n u : ℕ) : Type 0 where
  pub states : n ≤ 32
  pub symbols : u ≤ 16
  pub next-below : Below 32 next
  pub free-below : Below 16 free

-- each of the first u symbols leads from q into the set x
unfoldable pub leads : List ℕ → List ℕ → ℕ → ℕ → ℕ → Bool
leads next free u x q = each u (λ k. has x (goes next q (get_or free k 0)))

-- one round: what is left of x where each symbol has to lead into x or i
unfoldable pub left_of : List ℕ → List ℕ → ℕ → ℕ → ℕ → ℕ → ℕ
left_of next free n u i x = mask n (λ q. has x q && leads next free u (bit_or x i) q)

-- rounds from x on
unfoldable pub settled_on : List ℕ → List ℕ → ℕ → ℕ → ℕ → ℕ → Settled
settled_on next free n u i x = settle (left_of next free n u i) x x

-- the states that e takes into the set x
unfoldable pub predecessors : List ℕ → ℕ → ℕ → ℕ → ℕ
predecessors next n e x = mask n (λ q. has x (goes next q e))
