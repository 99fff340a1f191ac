-- The buffers of one length, from those of the length before.
use Prim.Native.Nat.{ℕ, zero, suc, ◌+◌, ◌*◌, ◌<◌, ◌≤◌}
use mathlib.Core.Path.{◌≡◌, refl, ◌∙◌, ap}
use mathlib.Core.List.{List, ◌++◌, append-nil}
use native.Mathlib.Numerals.{add-one}
use native.Mathlib.Omega.{arith}
use lib.Dec.{eqb}
use lib.ListN.{length, get_or, length-append}
use borrow.Author.Tests.{eq-eqb, ne_eqb, eqb-true, eqb-false}
use Rattle.base.proofs.Bools.{by}
use Rattle.automaton.specs.Arrays.{controllable_at}
use Rattle.solver_sets.specs.declared.Sets.{Sets}
use Rattle.solver_sets.specs.Table.{pairs, rounds_sum}
use Rattle.solver_table.specs.Levels.{symbol_sets, level_of, stored}
use Rattle.solver_table.proofs.Filling.{sum-append, stored-append, before_stores, symbol-length, symbol-same, symbol-few}

module _ (f : ℕ → ℕ → Sets) (classes t : List ℕ) (from count : ℕ) where
  abbrev level : ℕ → List Sets
  level e = level_of f classes e t from count

  abbrev of_symbol : ℕ → List Sets
  of_symbol e = symbol_sets (f e) t from count

  -- a symbol more
  level_symbol : (e : ℕ) → get_or classes e 0 ≡ 1 → level (suc e) ≡ level e ++ of_symbol e
  unfolding level_of
  level_symbol e h = rw (eq-eqb (get_or classes e 0) 1 h)

  level_pass : (e : ℕ) → (get_or classes e 0 ≡ 1 → ⊥) → level (suc e) ≡ level e
  unfolding level_of
  level_pass e h = rw (ne_eqb (get_or classes e 0) 1 h) (append-nil (level e))

  -- by whether it is controllable
  at_symbol : (P : List Sets → Type 0) (e : ℕ) → (get_or classes e 0 ≡ 1 → P (level e ++ of_symbol e)) → P (level e) → P (level (suc e))
  at_symbol P e p r =
      by (controllable_at classes e)
      (λ b. let h = eqb-true (get_or classes e 0) 1 b in rw (level_symbol e h) (p h))
      (λ b. rw (level_pass e (eqb-false (get_or classes e 0) 1 b)) r)

  grows : (e : ℕ) → length (level e) ≤ length (level (suc e))
  grows e =
      at_symbol (λ l. length (level e) ≤ length l) e (λ _. rw (length-append (level e) (of_symbol e)) (omega arith)) (omega arith)

  pub level_room : (e m : ℕ) → e < m → get_or classes e 0 ≡ 1 → length (level e) + count ≤ length (level m)
  level_room e zero l h = absurd (omega arith)
  level_room e (suc m) l h =
      by (eqb e m)
      (λ b. rw (← eqb-true e m b, level_symbol e h, length-append (level e) (of_symbol e)) (omega (arith, symbol-length (f e) t from count)))
      (λ b. omega (arith, level_room e m (omega (arith, eqb-false e m b)) h, grows m))

  pub level_few : ((e goal : ℕ) → (f e goal).rounds ≤ 32) → count ≤ 262144 → (e : ℕ) → rounds_sum (level e) ≤ 8388608 * e
  unfolding level_of rounds_sum
  level_few few small zero = omega arith
  level_few few small (suc e) =
      at_symbol (λ l. rounds_sum l ≤ 8388608 * suc e) e
      (λ _. rw (sum-append (level e) (of_symbol e)) (omega (arith, level_few few small e, symbol-few (f e) (few e) t from count)))
      (omega (arith, level_few few small e))

-- a loop that writes a level behind the one before
pub record Levelling (f : ℕ → ℕ → Sets) (classes t₀ : List ℕ) (from count e : ℕ) (t : List ℕ) (at rounds : ℕ) : Type 0 where
  pub same : length t ≡ length t₀
  pub written : t ≡ stored t₀ (from + 2 * count) (level_of f classes e t₀ from count)
  pub place : at ≡ from + 2 * count + 2 * length (level_of f classes e t₀ from count)
  pub summed : rounds ≡ rounds_sum (level_of f classes e t₀ from count)

pub level_none : (f : ℕ → ℕ → Sets) (classes t : List ℕ) (from count : ℕ) → Levelling f classes t from count 0 t (from + 2 * count) 0
unfolding level_of pairs rounds_sum
level_none f classes t from count = record { same = refl; written = refl; place = omega arith; summed = refl }

module _ (f : ℕ → ℕ → Sets) (classes t₀ : List ℕ) (from count e : ℕ) (t : List ℕ) (at rounds : ℕ) (s : Levelling f classes t₀ from count e t at rounds) where
  pub level_same : (get_or classes e 0 ≡ 1 → ⊥) → Levelling f classes t₀ from count (e + 1) t at rounds
  level_same h = rw (add-one e) (record {
    same = s.same;
    written = rw (level_pass f classes t₀ from count e h) s.written;
    place = rw (level_pass f classes t₀ from count e h) s.place;
    summed = rw (level_pass f classes t₀ from count e h) s.summed;
  })

  -- the sets of the symbol are those of the table before
  symbol-is : symbol_sets (f e) t from count ≡ symbol_sets (f e) t₀ from count
  symbol-is =
      symbol-same (f e) t t₀ from count
      (λ i l. ap (λ x. get_or x i 0) s.written ∙ before_stores (pairs (level_of f classes e t₀ from count)) t₀ (from + 2 * count) i l)

  module _ (h : get_or classes e 0 ≡ 1) (t' : List ℕ) (more : ℕ) (long : length t' ≡ length t) (put : t' ≡ stored t at (symbol_sets (f e) t from count)) (sum : more ≡ rounds_sum (symbol_sets (f e) t from count)) where
    pub level_more : Levelling f classes t₀ from count (e + 1) t' (at + 2 * count) (rounds + more)
    level_more =
        let l = level_of f classes e t₀ from count in
        let r = symbol_sets (f e) t₀ from count in
        let one = level_symbol f classes t₀ from count e h in
        rw (add-one e) (record {
          same = long ∙ s.same;
          written = rw (one, put, symbol-is, s.place, s.written) (stored-append t₀ (from + 2 * count) l r);
          place = rw (one, length-append l r) (omega (arith, s.place, symbol-length (f e) t₀ from count));
          summed = rw (one, sum-append l r) (omega (arith, s.summed, sum, ap rounds_sum symbol-is));
        })

  pub level_fits : ((e goal : ℕ) → (f e goal).rounds ≤ 32) → count ≤ 262144 → rounds ≤ 8388608 * e
  level_fits few small = omega (arith, s.summed, level_few f classes t₀ from count few small e)
