-- How many buffers there are at most, and how many rounds.
use Prim.Native.Nat.{ℕ, zero, suc, ◌*◌, ◌^◌, ◌≤◌}
use mathlib.Core.Path.{◌≡◌}
use mathlib.Core.List.{List, [], ◌∷◌, map}
use native.Mathlib.Nat.{pow-zero, pow-le-pow_left, pow-le-pow_right}
use native.Mathlib.Omega.{arith}
use lib.Dec.{eqb}
use lib.ListN.{length}
use borrow.Author.Tests.{eqb-true, eqb-false}
use Rattle.base.proofs.Bools.{by}
use Rattle.base.proofs.Ranges.{count-max}
use Rattle.automaton.specs.declared.Automaton.{Automaton}
use Rattle.automaton.specs.Automaton.{accepts}
use Rattle.automaton.proofs.Facts.{Valid}
use Rattle.solver_sets.specs.Sets.{sets_for}
use Rattle.solver_sets.specs.Table.{shorter, rounds_sum}
use Rattle.solver_sets.proofs.Largest.{sets_are}

-- at most 8 symbols and 6 events
pub pow_small : (k l : ℕ) → k ≤ 8 → l ≤ 6 → k ^ l ≤ 262144
pow_small k l h g = let e : 8 ^ l ≤ 8 ^ 6 = pow-le-pow_right (omega arith) g in omega (arith, pow-le-pow_left h l, e)

pub shorter-small : (k l : ℕ) → k ≤ 8 → l ≤ 7 → shorter k l ≤ 262144 * l
unfolding shorter
shorter-small k zero h g = omega arith
shorter-small k (suc l) h g = omega (arith, shorter-small k l h (omega arith), pow_small k l h (omega arith))

pub shorter_mono : (k l m : ℕ) → l ≤ m → shorter k l ≤ shorter k m
unfolding shorter
shorter_mono k l zero h = let e : l ≡ 0 = omega arith in rw e (omega arith)
shorter_mono k l (suc m) h =
    by (eqb l (suc m))
    (λ b. rw (eqb-true l (suc m) b) (omega arith))
    (λ b. omega (arith, shorter_mono k l m (omega (arith, eqb-false l (suc m) b))))

pub shorter-one : (k : ℕ) → shorter k 1 ≡ 1
unfolding shorter
shorter-one k = omega (arith, pow-zero k)

module _ (a : Automaton) where
  -- the rounds of any buffers
  pub rounds-few : Valid a → (ws : List (List ℕ)) → rounds_sum (map (sets_for a) ws) ≤ 32 * length ws
  unfolding rounds_sum
  rounds-few v [] = omega arith
  rounds-few v (w ∷ ws) = omega (arith, rounds-few v ws, (sets_are a w).few, count-max a.states (accepts a), v.states-high)
