-- Lists stored into a list.
use Prim.Native.Nat.{ℕ, suc, ◌+◌, ◌-◌}
use mathlib.Core.Path.{◌≡◌}
use mathlib.Core.List.{List, [], ◌∷◌, ◌++◌}
use native.Mathlib.Nat.{add-zero}
use native.Mathlib.Omega.{arith}
use lib.ListN.{length, set}
use lib.Seq.{sets}

-- a store after a list of stores
pub sets_more : (out : List ℕ) (from i v : ℕ) (before : List ℕ) → length before ≡ i → set (sets out from before) (from + i) v ≡ sets out from (before ++ v ∷ [])
sets_more out from i v [] h = let e : from + i ≡ from = omega arith in rw e
sets_more out from i v (b ∷ before) h =
    let e : from + i ≡ suc from + (i - 1) = omega arith in
    rw e (sets_more (set out from b) (suc from) (i - 1) v before (omega arith))

-- two lists of stores, one behind the other
pub sets_join : (out : List ℕ) (at : ℕ) (p r : List ℕ) → sets (sets out at p) (at + length p) r ≡ sets out at (p ++ r)
sets_join out at [] r = rw (add-zero at)
sets_join out at (x ∷ p) r = let e : at + suc (length p) ≡ suc at + length p = omega arith in rw e (sets_join (set out at x) (suc at) p r)
