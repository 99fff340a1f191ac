-- Rows 11, 12 and 20, which a call over a list checks first.
use Prim.Native.Nat.{ℕ, ◌<◌}
use mathlib.Core.Path.{◌≡◌, refl, sym}
use mathlib.Core.Logic.Iff
use mathlib.Core.Logic.{◌⊎◌, inl, inr, ◌↔◌}
use mathlib.Core.Bool.{Bool, true, false, not}
use mathlib.Core.List.{List, [], ◌∷◌, ◌++◌}
use native.Mathlib.Omega.{arith}
use lib.Dec.{ltb, leb}
use borrow.Author.Tests.{ltb-true, ltb-false, leb-true, leb-false, lt-ltb, le-ltb, le-leb, lt-leb}
use Rattle.base.specs.Rows.{first}
use Rattle.base.proofs.Bools.{by, either, clash, and_both, and-left_false, and-right_false}
use Rattle.base.proofs.Refusals.{first_never, first-own, first-later, first-before, contrary}
use Rattle.automaton.specs.declared.Automaton.{Automaton}
use Rattle.automaton.specs.Automaton.{valid}
use Rattle.solver_sets.specs.Table.{short}
use Rattle.monitor_answers.specs.Answers.{table_rows}
use Rattle.monitor_answers.proofs.Turns.{Opened}
use Rattle.monitor_answers.proofs.Worded.{row_11, row_12, after_12}
use Rattle.clients_answers.specs.Clients.{max_clients, right_count, list_rows, list_refusal}
use Rattle.clients_answers.specs.Claims.{WrongCount, RightCount, ListRows, ListClear}

-- row 20's test, in words
module _ (count : ℕ) where
  abbrev taken : Bool
  taken = right_count count

  count-taken : RightCount count → taken ≡ true
  count-taken (some, few) = and_both (lt-ltb 0 count some) (le-leb count max_clients few)

  count-refused : WrongCount count → taken ≡ false
  count-refused w =
      either w
      (λ z. and-left_false (leb count max_clients) (le-ltb 0 count (omega arith)))
      (λ l. and-right_false (ltb 0 count) (lt-leb count max_clients l))

  count-cases : {R : Type 0} → (WrongCount count → R) → (RightCount count → R) → R
  count-cases wrong right =
      by (ltb 0 count)
      (λ some. by (leb count max_clients)
      (λ few. right (ltb-true 0 count some, leb-true count max_clients few))
      (λ many. wrong (inr (leb-false count max_clients many))))
      (λ none. wrong (inl (let l = ltb-false 0 count none in omega arith)))

  wrong_words : (not taken ≡ true) ↔ WrongCount count
  wrong_words =
      Iff.trans (contrary taken).0 (λ h. count-cases (λ w. w) (λ r. absurd (clash (count-taken r) h)), count-refused)

  right_words : (not taken ≡ false) ↔ RightCount count
  right_words =
      Iff.trans (contrary taken).1 (λ h. count-cases (λ w. absurd (clash h (count-refused w))) (λ r. r), count-taken)

-- a number that none of the three rows has
abbrev pub Later : ℕ → Type 0
Later n = (n ≡ 11 → ⊥) × (n ≡ 12 → ⊥) × (n ≡ 20 → ⊥)

-- that of a later row of an event or a day, or none
abbrev pub Inner : ℕ → Type 0
Inner n = (n ≡ 0) ⊎ ((12 < n) × (n < 20)) ⊎ (22 < n)

pub inner_later : (n : ℕ) → Inner n → Later n
inner_later n l =
    either l
    (λ z. (λ h. omega arith, λ h. omega arith, λ h. omega arith))
    (λ k. either k
    (λ (low, high). (λ h. omega arith, λ h. omega arith, λ h. omega arith))
    (λ beyond. (λ h. omega arith, λ h. omega arith, λ h. omega arith)))

pub inner_between : (n : ℕ) → 12 < n → n < 20 → Inner n
inner_between n low high = inr (inl (low, high))

pub inner_beyond : (n : ℕ) → 22 < n → Inner n
inner_beyond n high = inr (inr high)

-- a call that checks these rows first, and then others
module _ (a : Automaton) (t : List ℕ) (count : ℕ) where
  module _ (rows : List (ℕ × Bool)) where
    abbrev n : ℕ
    n = first (list_rows a t count ++ rows)

    abbrev wrong : Bool
    wrong = not (right_count count)

    abbrev from_20 : List (ℕ × Bool)
    from_20 = (20, wrong) ∷ rows

    pub list-passes : ListClear a t count → n ≡ first rows
    unfolding list_rows table_rows first
    list-passes k = rw (k.record_valid, k.table-long, count-taken count k.count-right)

    -- a later number is that of the rows after them
    pub list-later : {Z : Type 0} (m : ℕ) → Later m → (ListClear a t count → (first rows ≡ m) ↔ Z) → (n ≡ m) ↔ (ListClear a t count × Z)
    unfolding list_rows table_rows
    list-later m l z =
        let (n11, n12, n20) = l in
        Iff.trans
        (after_12 a t from_20 m n11 n12
        (λ v s. first-later 20 wrong rows (wrong_words count) (right_words count) m (λ h. n20 (sym h))
        (λ r. z (record { record_valid = v; table-long = s; count-right = r })))) (
          λ (v, s, (r, x)). (record { record_valid = v; table-long = s; count-right = r }, x),
          λ (k, x). (k.record_valid, k.table-long, (k.count-right, x)),
        )

    -- and if theirs are later ones, these numbers are these rows'
    pub list-rows : Later (first rows) → ListRows a t count n
    unfolding list_rows table_rows
    list-rows l =
        let (n11, n12, n20) = l in
        record {
          row_11 = row_11 a t from_20 (first_never 20 wrong rows 11 (λ h. omega arith) n11);
          row_12 = row_12 a t from_20 (first_never 20 wrong rows 12 (λ h. omega arith) n12);
          row-20 = after_12 a t from_20 20 (λ h. omega arith) (λ h. omega arith)
              (λ v s. first-own 20 wrong rows (wrong_words count) (right_words count) n20);
        }

  -- with no rows after them
  pub list-wrong : (valid a ≡ true) × (short a t ≡ false) × WrongCount count → list_refusal a t count ≡ 20
  unfolding list_refusal list_rows table_rows first
  list-wrong w = (list-rows [] (inner_later 0 (inl refl))).row-20.1 w

  pub clear_list : ListClear a t count → list_refusal a t count ≡ 0
  unfolding list_refusal list_rows table_rows first
  clear_list k = list-passes [] k

  pub list_clear : list_refusal a t count ≡ 0 → ListClear a t count
  unfolding list_refusal list_rows table_rows first
  list_clear z = ((list-later [] 0 (inner_later 0 (inl refl)) (λ k. Iff.rfl)).0 z).0

  -- no other number
  pub list-number : (list_refusal a t count ≡ 0 → ⊥) → (list_refusal a t count ≡ 11) ⊎ (list_refusal a t count ≡ 12) ⊎ (list_refusal a t count ≡ 20)
  unfolding list_refusal list_rows table_rows first
  list-number z =
      by (valid a)
      (λ v. by (short a t)
      (λ s. inr (inl (rw (v, s))))
      (λ s. by (right_count count) (λ c. absurd (z (rw (v, s, c)))) (λ c. inr (inr (rw (v, s, c))))))
      (λ v. inl (rw v))

  pub clear_opened : ListClear a t count → Opened a t
  clear_opened k = record { record_valid = k.record_valid; table-long = k.table-long }

  -- a row that stands also stands before further rows
  pub list-stands : (rows : List (ℕ × Bool)) → (list_refusal a t count ≡ 0 → ⊥) → first (list_rows a t count ++ rows) ≡ list_refusal a t count
  unfolding list_refusal
  list-stands rows n = first-before (list_rows a t count) rows n
