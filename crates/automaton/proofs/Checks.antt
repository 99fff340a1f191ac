-- Laws of the record's check.
use Prim.Native.Nat.{ℕ, ◌+◌, ◌<◌, ◌≤◌}
use mathlib.Core.Path.{◌≡◌}
use mathlib.Core.Bool.{Bool, true, false}
use mathlib.Core.List.{List}
use lib.ListN.{get_or}
use lib.Dec.{ltb}
use borrow.Author.Tests.{lt-ltb, le-ltb, eq-eqb, ne_eqb}
use Rattle.base.specs.Each.{each}
use Rattle.base.proofs.Ranges.{each_falls, each_keeps, count_adds, count_skips}
use Rattle.automaton.specs.Arrays.{controllable_at, controllable_in, goes, below_from, state_below, states_below}

module _ (l : List ℕ) (from i limit : ℕ) (fine : Bool) (so_far : fine ≡ below_from l from i limit) where
  pub below_falls : limit ≤ get_or l (from + i) 0 → false ≡ below_from l from (i + 1) limit
  unfolding below_from
  below_falls h = each_falls (λ i. ltb (get_or l (from + i) 0) limit) i fine so_far (le-ltb (get_or l (from + i) 0) limit h)

  pub below_keeps : get_or l (from + i) 0 < limit → fine ≡ below_from l from (i + 1) limit
  unfolding below_from
  below_keeps h = each_keeps (λ i. ltb (get_or l (from + i) 0) limit) i fine so_far (lt-ltb (get_or l (from + i) 0) limit h)

module _ (next : List ℕ) (q e : ℕ) (limits : List ℕ) where
  -- the first e symbols of a state
  unfoldable pub state_below_to : Bool
  state_below_to = each e (λ i. ltb (goes next q i) (get_or limits i 0))

module _ (next : List ℕ) (q e : ℕ) (limits : List ℕ) (fine : Bool) (so_far : fine ≡ state_below_to next q e limits) where
  pub state_falls : get_or limits e 0 ≤ goes next q e → false ≡ state_below_to next q (e + 1) limits
  unfolding state_below_to
  state_falls h =
      each_falls (λ i. ltb (goes next q i) (get_or limits i 0)) e fine so_far (le-ltb (goes next q e) (get_or limits e 0) h)

  pub state_keeps : goes next q e < get_or limits e 0 → fine ≡ state_below_to next q (e + 1) limits
  unfolding state_below_to
  state_keeps h =
      each_keeps (λ i. ltb (goes next q i) (get_or limits i 0)) e fine so_far (lt-ltb (goes next q e) (get_or limits e 0) h)

module _ (next : List ℕ) (q : ℕ) (limits : List ℕ) (fine : Bool) (so_far : fine ≡ states_below next q limits) where
  pub states_fall : state_below next q limits ≡ false → false ≡ states_below next (q + 1) limits
  unfolding states_below
  states_fall h = each_falls (λ q. state_below next q limits) q fine so_far h

  pub states_keep : state_below next q limits ≡ true → fine ≡ states_below next (q + 1) limits
  unfolding states_below
  states_keep h = each_keeps (λ q. state_below next q limits) q fine so_far h

-- one more class
module _ (classes : List ℕ) (e n : ℕ) (so_far : n ≡ controllable_in classes e) where
  pub counted : get_or classes e 0 ≡ 1 → n + 1 ≡ controllable_in classes (e + 1)
  unfolding controllable_in
  counted h = count_adds (controllable_at classes) e n so_far (eq-eqb (get_or classes e 0) 1 h)

  pub passed : (get_or classes e 0 ≡ 1 → ⊥) → n ≡ controllable_in classes (e + 1)
  unfolding controllable_in
  passed h = count_skips (controllable_at classes) e n so_far (ne_eqb (get_or classes e 0) 1 h)
