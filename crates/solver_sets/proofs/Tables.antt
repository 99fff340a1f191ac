-- The table: the sets of each buffer at its number.
use Prim.Native.Nat.{ℕ, zero, suc, ◌+◌, ◌*◌, ◌<◌}
use mathlib.Core.Path.{◌≡◌, refl, ◌∙◌, ap}
use mathlib.Core.List.{List, [], ◌∷◌, ◌++◌, map}
use native.Mathlib.Omega.{arith}
use borrow.Author.Tests.{ltb-true, lt-ltb}
use lib.ListN.{length, get_or, length-append, length-map, get_or-append, get_or-map}
use Rattle.base.specs.Masks.{has}
use Rattle.automaton.specs.declared.Automaton.{Automaton}
use Rattle.solver_sets.specs.Sets.{Sets, sets_for}
use Rattle.solver_sets.specs.Table.{index, buffers_count, short, Buffer, buffers_to, pairs, table}
use Rattle.solver_sets.specs.Claims.{ShortAsWorded, TableIsSolved}
use Rattle.solver_sets.proofs.Numbering.{buffers-length, buffer-at}

pub pairs-length : (ts : List Sets) → length (pairs ts) ≡ 2 * length ts
unfolding pairs
pairs-length [] = refl
pairs-length (t ∷ ts) = omega (arith, pairs-length ts)

-- S and I of the j-th
pub pairs-at : (ts : List Sets) (j : ℕ) (d : Sets) → j < length ts
    → (get_or (pairs ts) (2 * j) 0 ≡ (get_or ts j d).winning) × (get_or (pairs ts) (2 * j + 1) 0 ≡ (get_or ts j d).intermediate)
unfolding pairs
pairs-at [] j d h = absurd (omega arith)
pairs-at (t ∷ ts) zero d h = (refl, refl)
pairs-at (t ∷ ts) (suc j) d h =
    let e : 2 * suc j ≡ suc (suc (2 * j)) = omega arith in
    let f : 2 * suc j + 1 ≡ suc (suc (2 * j + 1)) = omega arith in
    let r = pairs-at ts j d (omega arith) in
    (rw e r.0, rw f r.1)

module _ (a : Automaton) where
  abbrev buffers : List (List ℕ)
  buffers = buffers_to a a.capacity

  pub table-length : length (table a) ≡ 2 * buffers_count a
  unfolding table
  table-length = pairs-length (map (sets_for a) buffers) ∙ rw (length-map buffers (sets_for a), buffers-length a)

  pub table_at : (w : List ℕ) → Buffer a w
      → (get_or (table a) (2 * index a w) 0 ≡ (sets_for a w).winning) × (get_or (table a) (2 * index a w + 1) 0 ≡ (sets_for a w).intermediate)
  unfolding table
  table_at w b =
      let r = buffer-at a w b in
      let l : index a w < length buffers = omega (arith, r.0, buffers-length a) in
      let e = get_or-map (sets_for a) buffers (index a w) [] ∙ ap (sets_for a) r.1 in
      let p = pairs-at (map (sets_for a) buffers) (index a w) (sets_for a []) (rw length-map l) in
      (p.0 ∙ ap (λ t. t.winning) e, p.1 ∙ ap (λ t. t.intermediate) e)

  -- whatever follows it
  before : (later : List ℕ) (j : ℕ) → j < 2 * buffers_count a → get_or (table a ++ later) j 0 ≡ get_or (table a) j 0
  before later j l = get_or-append (table a) later 0 j (omega (arith, table-length))

pub table-is-solved : TableIsSolved
table-is-solved a v = (
  table-length a,
  λ later. record {
    long = rw (length-append (table a) later) (omega (arith, table-length a));
    winning = λ w b q _. ap (λ x. has x q) (before a later (2 * index a w) (omega (arith, (buffer-at a w b).0)) ∙ (table_at a w b).0);
    intermediate = λ w b q _. ap (λ x. has x q) (before a later (2 * index a w + 1) (omega (arith, (buffer-at a w b).0)) ∙ (table_at a w b).1);
  },
)

pub short_as_worded : ShortAsWorded
unfolding short
short_as_worded a t = (ltb-true (length t) (2 * buffers_count a), lt-ltb (length t) (2 * buffers_count a))
