-- The rows of the product and its answer, in document 02's words.
use Prim.Native.Nat.{ℕ, ◌<◌, ◌≤◌}
use mathlib.Core.Path.{◌≡◌, refl, sym, ◌∙◌}
use mathlib.Core.Logic.Iff
use mathlib.Core.Logic.{◌⊎◌, inl, inr, ◌↔◌}
use mathlib.Core.Bool.{Bool, true, false, not}
use mathlib.Core.List.{List, [], ◌∷◌}
use native.Mathlib.Omega.{arith}
use lib.Dec.{eqb, ltb}
use borrow.Author.Tests.{eqb-true, eqb-false, eq-eqb, ne_eqb, ltb-true, ltb-false, lt-ltb, le-ltb}
use Rattle.base.specs.Rows.{first}
use Rattle.base.proofs.Bools.{by, either, clash, and-pair, and_both, and_none, and-left_false, and-right_false}
use Rattle.base.proofs.Ranges.{each_at, each_all, each_fails, each_false}
use Rattle.base.proofs.Refusals.{first-stands, first_passes, first_never, first-own, first-later, contrary}
use Rattle.automaton.specs.declared.Automaton.{Automaton}
use Rattle.automaton.specs.Automaton.{class, valid, blank}
use Rattle.product_rule.specs.Pairs.{same_classes}
use Rattle.product_rule.specs.Product.{pairs_count, product_of, same_symbols, product_refusal, product_answer}
use Rattle.product_rule.specs.Claims.{SymbolsDiffer, Matching, ProductRows, ProductRowsAsWorded}

module _ (a b : Automaton) where
  -- the same number of symbols, of the same classes
  abbrev SymbolsSame : Type 0
  SymbolsSame = (a.symbols ≡ b.symbols) × ((e : ℕ) → e < a.symbols → class a e ≡ class b e)

  abbrev same_at : ℕ → Bool
  same_at e = eqb (class a e) (class b e)

  abbrev classes-same : Bool
  classes-same = same_classes a.classes b.classes a.symbols

  same_in_words : (same_symbols a b ≡ true) ↔ SymbolsSame
  unfolding same_symbols same_classes
  same_in_words = (
    λ h. let p = and-pair (eqb a.symbols b.symbols) classes-same h in
        (eqb-true _ _ p.0, λ e l. eqb-true (class a e) (class b e) (each_at a.symbols same_at p.1 e l)),
    λ (n, c). and_both (eq-eqb _ _ n) (each_all a.symbols same_at (λ e l. eq-eqb (class a e) (class b e) (c e l))),
  )

  differ_in_words : (same_symbols a b ≡ false) ↔ SymbolsDiffer a b
  unfolding same_symbols same_classes
  differ_in_words = (
    λ h. either (and_none (eqb a.symbols b.symbols) classes-same h)
        (λ n. inl (eqb-false _ _ n))
        (λ c. let f = each_fails a.symbols same_at c in inr (f.0, f.1, eqb-false _ _ f.2)),
    λ d. either d
        (λ n. and-left_false classes-same (ne_eqb _ _ n))
        (λ (e, l, c). and-right_false (eqb a.symbols b.symbols) (each_false a.symbols same_at e l (ne_eqb _ _ c))),
  )

  -- row 24 in words, where it stands and where it is passed
  differ : (not (same_symbols a b) ≡ true) ↔ SymbolsDiffer a b
  differ = Iff.trans (contrary (same_symbols a b)).0 differ_in_words

  same : (not (same_symbols a b) ≡ false) ↔ SymbolsSame
  same = Iff.trans (contrary (same_symbols a b)).1 same_in_words

  -- row 25
  abbrev many : Bool
  many = ltb 32 (pairs_count a b)

  too_many : (many ≡ true) ↔ (32 < pairs_count a b)
  too_many = (ltb-true 32 (pairs_count a b), lt-ltb 32 (pairs_count a b))

  not_many : (many ≡ false) ↔ (pairs_count a b ≤ 32)
  not_many = (ltb-false 32 (pairs_count a b), le-ltb 32 (pairs_count a b))

  -- the rows from 25 on, from 24 on, and from the second 11 on
  abbrev from_25 : List (ℕ × Bool)
  from_25 = (25, many) ∷ []

  abbrev from_24 : List (ℕ × Bool)
  from_24 = (24, not (same_symbols a b)) ∷ from_25

  abbrev second_11 : List (ℕ × Bool)
  second_11 = (11, not (valid b)) ∷ from_24

  -- another number than 11 is that of the rows after both 11s
  after_11 : {Z : Type 0} (m : ℕ) → (11 ≡ m → ⊥) → ((first from_24 ≡ m) ↔ Z) → (product_refusal a b ≡ m) ↔ ((valid a ≡ true) × (valid b ≡ true) × Z)
  unfolding product_refusal
  after_11 m other z =
      Iff.trans
      (first-later 11 (not (valid a)) second_11 (contrary (valid a)).0 (contrary (valid a)).1 m other
      (λ _. first-later 11 (not (valid b)) from_24 (contrary (valid b)).0 (contrary (valid b)).1 m other (λ _. z)))
      (λ (va, (vb, x)). (va, vb, x), λ (va, vb, x). (va, (vb, x)))

  -- and another than 24 that of the row after it
  after_24 : {Z : Type 0} (m : ℕ) → (11 ≡ m → ⊥) → (24 ≡ m → ⊥) → ((first from_25 ≡ m) ↔ Z) → (product_refusal a b ≡ m) ↔ (Matching a b × Z)
  after_24 m n11 n24 z =
      Iff.trans (after_11 m n11 (first-later 24 (not (same_symbols a b)) from_25 differ same m n24 (λ _. z))) (
        λ (va, vb, ((n, c), x)). (record { first-valid = va; second-valid = vb; same_number = n; same_class = c }, x),
        λ (k, x). (k.first-valid, k.second-valid, ((k.same_number, k.same_class), x)),
      )

  -- 11 stands for the first or for the second; no later row gives it
  not_11 : first from_24 ≡ 11 → ⊥
  unfolding first
  not_11 = first_never 24 (not (same_symbols a b)) from_25 11 (λ h. omega arith) (first_never 25 many [] 11 (λ h. omega arith) (λ h. omega arith))

  row_11 : (product_refusal a b ≡ 11) ↔ ((valid a ≡ false) ⊎ (valid b ≡ false))
  unfolding product_refusal
  row_11 =
      let passed : valid a ≡ true → first ((11, not (valid a)) ∷ second_11) ≡ first second_11 = λ v.
      first_passes 11 (not (valid a)) second_11 ((contrary (valid a)).1.1 v) in
      let second = first-own 11 (not (valid b)) from_24 (contrary (valid b)).0 (contrary (valid b)).1 not_11 in (
        λ h. by (valid a) (λ v. inr (second.0 (sym (passed v) ∙ h))) inl,
        λ x. by (valid a)
            (λ v. passed v ∙ second.1 (either x (λ f. absurd (clash v f)) (λ f. f)))
            (λ f. first-stands 11 (not (valid a)) second_11 ((contrary (valid a)).0.1 f)),
      )

  row_24 : (first from_24 ≡ 24) ↔ SymbolsDiffer a b
  unfolding first
  row_24 = first-own 24 (not (same_symbols a b)) from_25 differ same (first_never 25 many [] 24 (λ h. omega arith) (λ h. omega arith))

  row_25 : (first from_25 ≡ 25) ↔ (32 < pairs_count a b)
  unfolding first
  row_25 = first-own 25 many [] too_many not_many (λ h. omega arith)

  none : (first from_25 ≡ 0) ↔ (pairs_count a b ≤ 32)
  unfolding first
  none = Iff.trans (first-later 25 many [] too_many not_many 0 (λ h. omega arith) (λ _. Iff.rfl)) (λ (l, _). l, λ l. (l, refl))

  -- there is no other number
  known : (product_refusal a b ≡ 0) ⊎ (product_refusal a b ≡ 11) ⊎ (product_refusal a b ≡ 24) ⊎ (product_refusal a b ≡ 25)
  unfolding first product_refusal
  known =
      by (valid a)
      (λ va. by (valid b)
      (λ vb. by (same_symbols a b)
      (λ s. by many (λ m. rw (va, vb, s, m) (inr (inr (inr refl)))) (λ m. rw (va, vb, s, m) (inl refl)))
      (λ s. rw (va, vb, s) (inr (inr (inl refl)))))
      (λ vb. rw (va, vb) (inr (inl refl))))
      (λ va. rw va (inr (inl refl)))

pub product-rows_as_worded : ProductRowsAsWorded
product-rows_as_worded a b =
    record {
      row_11 = row_11 a b;
      row_24 = after_11 a b 24 (λ h. omega arith) (row_24 a b);
      row_25 = after_24 a b 25 (λ h. omega arith) (λ h. omega arith) (row_25 a b);
      none = after_24 a b 0 (λ h. omega arith) (λ h. omega arith) (none a b);
      known = known a b;
    }

-- where no row stands
pub matching : (a b : Automaton) → product_refusal a b ≡ 0 → Matching a b
matching a b z = ((product-rows_as_worded a b).none.0 z).0

-- the answer, where no row refuses and where one does
pub answer-made : (a b : Automaton) → product_refusal a b ≡ 0 → product_answer a b ≡ record { refusal = 0; automaton = product_of a b }
unfolding product_answer
answer-made a b z = rw z

pub answer-refused : (a b : Automaton) → (product_refusal a b ≡ 0 → ⊥) → product_answer a b ≡ record { refusal = product_refusal a b; automaton = blank }
unfolding product_answer
answer-refused a b z = rw (ne_eqb (product_refusal a b) 0 z)

-- the rows in words settle the number
pub only_row : {a b : Automaton} {m n : ℕ} → ProductRows a b m → ProductRows a b n → m ≡ n
only_row r t =
    either r.known (λ e. e ∙ sym (t.none.1 (r.none.0 e)))
    (λ k. either k (λ e. e ∙ sym (t.row_11.1 (r.row_11.0 e)))
    (λ k. either k (λ e. e ∙ sym (t.row_24.1 (r.row_24.0 e))) (λ e. e ∙ sym (t.row_25.1 (r.row_25.0 e)))))
