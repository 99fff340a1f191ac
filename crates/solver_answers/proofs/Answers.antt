-- What the solver's calls answer, case by case.
use Prim.Native.Nat.{ℕ, ◌+◌, ◌*◌, ◌^◌, ◌<◌, ◌≤◌}
use mathlib.Core.Path.{◌≡◌, refl, sym, ◌∙◌, ap}
use mathlib.Core.Bool.{true, false, not}
use mathlib.Core.List.{List, [], ◌∷◌, ◌++◌}
use native.Mathlib.Nat.{pow-zero, pow-suc}
use native.Mathlib.Numerals.{add-one}
use native.Mathlib.Omega.{arith}
use lib.ListN.{length, drop}
use borrow.Author.Tests.{lt-ltb, le-ltb}
use Rattle.base.proofs.Bools.{by}
use Rattle.base.proofs.Refusals.{first-stands, first_passes}
use Rattle.base.specs.Rows.{first}
use Rattle.automaton.specs.declared.Automaton.{Automaton}
use Rattle.automaton.specs.Arrays.{controllable_in}
use Rattle.automaton.specs.Automaton.{valid, controllables}
use Rattle.automaton.proofs.Facts.{valid_facts}
use Rattle.solver_sets.specs.Table.{shorter, buffers_count, table, rounds, short}
use Rattle.solver_sets.proofs.Tables.{table-is-solved}
use Rattle.solver_sets.proofs.Paper.{only_definition6}
use Rattle.solver_answers.specs.Solving.{Count, solve_refusal, solution, solved_table, count_answer}
use Rattle.solver_answers.specs.Claims.{LeavesSolved, SolvesDefinition6}
use Rattle.solver_answers.proofs.Bounds.{pow_small, shorter-small, shorter-one}

-- a loop that counts the buffers length by length
pub record Counting (k l count sum : ℕ) : Type 0 where
  pub last : count ≡ k ^ l
  pub all : sum ≡ shorter k (l + 1)

pub count-one : (k : ℕ) → Counting k 0 1 1
count-one k = record { last = sym (pow-zero k); all = sym (shorter-one k) }

module _ (k l count sum : ℕ) (s : Counting k l count sum) where
  pub count-more : Counting k (l + 1) (count * k) (sum + count * k)
  unfolding shorter
  count-more =
      let e : count * k ≡ k ^ (l + 1) = rw (s.last, add-one l) (sym (pow-suc k l)) in
      record { last = e; all = rw (add-one (l + 1)) (omega (arith, s.all, e)) }

  pub count_fits : k ≤ 8 → l < 6 → (count * k ≤ 262144) × (sum + count * k ≤ 1835008)
  count_fits h g = (
    omega (arith, count-more.last, pow_small k (l + 1) h (omega arith)),
    omega (arith, count-more.all, shorter-small k (l + 1 + 1) h (omega arith)),
  )

module _ (a : Automaton) where
  -- T, from the number of controllable symbols
  module _ (v : valid a ≡ true) (m b k : ℕ) (p : m ≡ a.symbols) (q : b ≡ a.capacity) (r : k ≡ controllable_in a.classes m) where
    radix : k ≡ controllables a
    unfolding controllables
    radix = r ∙ ap (controllable_in a.classes) p

    pub buffers-few : (k ≤ 8) × (b ≤ 6)
    buffers-few = let f = valid_facts a v in (omega (arith, radix, f.controllables-high), omega (arith, q, f.capacity-high))

    pub buffers-all : shorter k (b + 1) ≡ buffers_count a
    unfolding buffers_count
    buffers-all = rw (radix, q, add-one a.capacity)

    pub buffers_fit : shorter k (b + 1) ≤ 1835008
    buffers_fit = let f = buffers-few in omega (arith, shorter-small k (b + 1) f.0 (omega (arith, f.1)), f.1)

  pub count-refused : valid a ≡ false → record { refusal = 11; count = 0 } ≡ count_answer a
  unfolding count_answer
  count-refused h = rw h

  pub count_given : valid a ≡ true → (n : ℕ) → n ≡ buffers_count a → record { refusal = 0; count = n } ≡ count_answer a
  unfolding count_answer
  count_given h n e = rw (h, e)

  -- what the number of buffers tells
  module _ (r : Count) (e : r ≡ count_answer a) where
    pub refused-count : (r.refusal ≡ 0 → ⊥) → (valid a ≡ false) × (r.refusal ≡ 11)
    unfolding count_answer
    refused-count h =
        by (valid a)
        (λ b. absurd (h (rw (e, b))))
        (λ b. (b, rw (e, b)))

    pub given_count : r.refusal ≡ 0 → (valid a ≡ true) × (r.count ≡ buffers_count a)
    unfolding count_answer
    given_count h =
        by (valid a)
        (λ b. (b, rw (e, b)))
        (λ b. let z : 11 ≡ 0 = sym (rw (e, b)) ∙ h in absurd (omega arith))

  module _ (t : List ℕ) where
    row11 : valid a ≡ false → solve_refusal a t ≡ 11
    unfolding solve_refusal
    row11 h = first-stands 11 (not (valid a)) ((12, short a t) ∷ []) (rw h)

    row12 : valid a ≡ true → length t < 2 * buffers_count a → solve_refusal a t ≡ 12
    unfolding solve_refusal short
    row12 h l =
        first_passes 11 (not (valid a)) ((12, short a t) ∷ []) (rw h) ∙
        first-stands 12 (short a t) [] (lt-ltb (length t) (2 * buffers_count a) l)

    row0 : valid a ≡ true → 2 * buffers_count a ≤ length t → solve_refusal a t ≡ 0
    unfolding solve_refusal short first
    row0 h l =
        first_passes 11 (not (valid a)) ((12, short a t) ∷ []) (rw h) ∙
        first_passes 12 (short a t) [] (le-ltb (length t) (2 * buffers_count a) l)

    pub solve_invalid : valid a ≡ false → (record { refusal = 11; rounds = 0 } ≡ solution a t) × (t ≡ solved_table a t)
    unfolding solution solved_table
    solve_invalid h = rw (row11 h) (refl, refl)

    pub solve_short : valid a ≡ true → length t < 2 * buffers_count a → (record { refusal = 12; rounds = 0 } ≡ solution a t) × (t ≡ solved_table a t)
    unfolding solution solved_table
    solve_short h l = rw (row12 h l) (refl, refl)

    pub solve_done : valid a ≡ true → 2 * buffers_count a ≤ length t → (t' : List ℕ) (r : ℕ) → t' ≡ table a ++ drop (2 * buffers_count a) t → r ≡ rounds a
        → (record { refusal = 0; rounds = r } ≡ solution a t) × (t' ≡ solved_table a t)
    unfolding solution solved_table
    solve_done h l t' r p q = rw (row0 h l, q) (refl, p)

pub solved-valid : (a : Automaton) (t : List ℕ) → solve_refusal a t ≡ 0 → valid a ≡ true
solved-valid a t h = by (valid a) (λ b. b) (λ b. let z : 11 ≡ 0 = sym (row11 a t b) ∙ h in absurd (omega arith))

pub leaves-solved : LeavesSolved
unfolding solved_table
leaves-solved a t h = rw h ((table-is-solved a (solved-valid a t h)).1 (drop (2 * buffers_count a) t))

pub solves_definition6 : SolvesDefinition6
solves_definition6 a t h S I d w b q l =
    let s = leaves-solved a t h in
    let r = only_definition6 a (solved-valid a t h) S I d w b q l in
    let x = s.winning w b q l in
    let y = s.intermediate w b q l in
    ((λ m. x ∙ r.0.0 m, λ m. r.0.1 (sym x ∙ m)), (λ m. y ∙ r.1.0 m, λ m. r.1.1 (sym y ∙ m)))
