-- A set of states as a number: state q is bit q.
use Rattle.std.specs.Prelude.{ℕ, zero, suc, ◌+◌, ◌/◌, ◌%◌, ◌^◌, Bool, cond, eqb}

-- q is in the set x
unfoldable pub has : ℕ → ℕ → Bool
has x q = eqb (x / 2 ^ q % 2) 1

-- the set of the states below n of which p holds
unfoldable pub mask : ℕ → (ℕ → Bool) → ℕ
mask zero p = 0
mask (suc q) p = mask q p + cond (p q) (2 ^ q) 0
