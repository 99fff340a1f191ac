-- What is written on every input, as worded.
use Prim.Native.Nat.{ℕ, ◌+◌, ◌≤◌}
use mathlib.Core.Path.{◌≡◌, refl, sym, ◌∙◌, ap}
use mathlib.Core.Bool.{true}
use mathlib.Core.Logic.{◌⊎◌, inl, inr}
use mathlib.Core.List.{List, [], ◌∷◌}
use native.Mathlib.Omega.{arith}
use lib.ListN.{length, drop}
use lib.Dec.{eqb, ltb}
use borrow.Author.Tests.{ltb-true, ltb-false, eqb-true, eqb-false}
use Rattle.base.proofs.Bools.{by, either}
use Rattle.automaton.specs.declared.Automaton.{Automaton}
use Rattle.automaton.specs.Automaton.{valid}
use Rattle.automaton_format.specs.Reading.{parsed, parse}
use Rattle.automaton_format.specs.Writing.{record_numbers, record_bytes}
use Rattle.automaton_format.specs.Opening.{opening}
use Rattle.automaton_format.proofs.Trips.{read-is-valid, written_reads_back}
use Rattle.automaton_format.proofs.Outcomes.{record-bytes}
use Rattle.automaton_format.proofs.Openings.{opening-valid}
use Rattle.text.specs.Decimal.{ascii}
use Rattle.text_lines.specs.Lines.{fault_line, refusal_line}
use Rattle.product_rule.specs.Product.{product_of, product_refusal, product_answer}
use Rattle.product_rule.proofs.Rows.{product-rows_as_worded, answer-made, answer-refused}
use Rattle.product_merge.specs.Outputs.{Output, written, said, merged_records, merging, merge_output, merge_note}
use Rattle.product_merge.specs.Claims.{Writes, Says, BytesOrLine, TwoSheets, MergeRowsAsWorded}
use Rattle.product_merge.proofs.Records.{record_fits, product-valid, answer-valid, records_refused, records_merged}
use Rattle.product_merge.proofs.Merging.{merge_long, merge_first, merge_second, merge_both}

-- a line, and a sheet, have bytes
some : (x : ℕ) (l : List ℕ) → x ∷ l ≡ [] → ⊥
some x l e = let n : length (x ∷ l) ≡ 0 = ap length e in omega arith

refusal-some : (row : ℕ) → refusal_line row ≡ [] → ⊥
unfolding refusal_line ascii
refusal-some row e = some _ _ e

fault-some : (row at : ℕ) → fault_line row at ≡ [] → ⊥
unfolding fault_line ascii
fault-some row at e = some _ _ e

record_some : (c : Automaton) → valid c ≡ true → record_bytes c ≡ [] → ⊥
unfolding record_numbers
record_some c v e = some _ _ (sym (record-bytes c [] v) ∙ e)

-- every output is the bytes of a record that passes row 11, or a line
abbrev Ends : Output → Type 0
Ends o = ((c : Automaton) × (valid c ≡ true) × (o ≡ written (record_bytes c))) ⊎ ((l : List ℕ) × (l ≡ [] → ⊥) × (o ≡ said l))

records_end : (a b : Automaton) → Ends (merged_records a b)
records_end a b =
    let p = product_answer a b in
    by (eqb p.refusal 0)
    (λ e. let z = eqb-true p.refusal 0 e in inl (p.automaton, answer-valid a b p refl z, records_merged a b p refl z))
    (λ e. inr (refusal_line p.refusal, refusal-some p.refusal, records_refused a b p refl (eqb-false p.refusal 0 e)))

merging-ends : (s : List ℕ) → Ends (merging s)
merging-ends s =
    let p = opening s in
    let q = parse (drop p.place s) in
    by (ltb 60000 (length s))
    (λ h. inr (refusal_line 18, refusal-some 18, merge_long s (ltb-true 60000 (length s) h)))
    (λ h.
    let few = ltb-false 60000 (length s) h in
    by (eqb p.refusal 0)
    (λ e.
    let z = eqb-true p.refusal 0 e in
    by (eqb q.refusal 0)
    (λ f. rw (merge_both s few p refl z q refl (eqb-true q.refusal 0 f)) (records_end p.automaton q.automaton))
    (λ f. inr (_, fault-some q.refusal (p.place + q.place), merge_second s few p refl z q refl (eqb-false q.refusal 0 f))))
    (λ e. inr (_, fault-some p.refusal p.place, merge_first s few p refl (eqb-false p.refusal 0 e))))

-- standard output and standard error by themselves
module _ (s : List ℕ) where
  writes : (bytes : List ℕ) → merging s ≡ written bytes → Writes s bytes
  unfolding merge_output merge_note
  writes bytes e = (ap (λ o. o.bytes) e, ap (λ o. o.note) e)

  says : (l : List ℕ) → merging s ≡ said l → Says s l
  unfolding merge_output merge_note
  says l e = (ap (λ o. o.bytes) e, ap (λ o. o.note) e)

pub bytes-or-line : BytesOrLine
bytes-or-line s =
    either (merging-ends s)
    (λ (c, v, e). let (o, n) = writes s (record_bytes c) e in inl (λ h. record_some c v (sym o ∙ h), n))
    (λ (l, f, e). let (o, n) = says s l e in inr (o, λ h. f (sym n ∙ h)))

-- two records, by the row of their product
module _ (a b : Automaton) where
  refused-by : (n : ℕ) → (n ≡ 0 → ⊥) → product_refusal a b ≡ n → merged_records a b ≡ said (refusal_line n)
  refused-by n z e =
      let y : product_refusal a b ≡ 0 → ⊥ = λ h. z (sym e ∙ h) in
      records_refused a b _ (sym (answer-refused a b y)) y ∙ ap (λ k. said (refusal_line k)) e

  merged_by : product_refusal a b ≡ 0 → merged_records a b ≡ written (record_bytes (product_of a b))
  merged_by e = records_merged a b _ (sym (answer-made a b e)) refl

  -- .. of an input
  module _ (s : List ℕ) (t : TwoSheets s a b) where
    both-valid : (valid a ≡ true) × (valid b ≡ true)
    both-valid = (
      rw t.first.1 at (opening-valid s t.first.0),
      read-is-valid (drop (opening s).place s) b t.second,
    )

    records_of : merging s ≡ merged_records a b
    records_of =
        let q = parse (drop (opening s).place s) in
        merge_both s t.few (opening s) refl t.first.0 q refl (ap (λ x. x.refusal) t.second) ∙
        (λ i. merged_records (t.first.1 i) (t.second i).automaton)

    two-refused : (n : ℕ) → (n ≡ 0 → ⊥) → product_refusal a b ≡ n → Says s (refusal_line n)
    two-refused n z e = says s (refusal_line n) (records_of ∙ refused-by n z e)

    two-merged : product_refusal a b ≡ 0 → Writes s (record_bytes (product_of a b)) × (parse (merge_output s) ≡ parsed (product_of a b))
    two-merged e =
        let w = writes s (record_bytes (product_of a b)) (records_of ∙ merged_by e) in
        (w, ap parse w.0 ∙ written_reads_back (product_of a b) (product-valid a b e))

output-fits : (s : List ℕ) → length (merge_output s) ≤ 564
output-fits s =
    either (merging-ends s)
    (λ (c, v, e). rw (writes s (record_bytes c) e).0 (record_fits c v))
    (λ (l, f, e). rw (says s l e).0 (omega arith))

pub merge_rows_as_worded : MergeRowsAsWorded
merge_rows_as_worded s =
    let p = opening s in
    let q = parse (drop p.place s) in
    record {
      row-18 = λ h. says s _ (merge_long s h);
      first-fault = λ h z. says s _ (merge_first s h p refl z);
      second-fault = λ h z y. says s _ (merge_second s h p refl z q refl y);
      row_24 = λ a b t d.
          let (va, vb) = both-valid a b s t in
          two-refused a b s t 24 (λ h. omega arith) ((product-rows_as_worded a b).row_24.1 (va, vb, d));
      row_25 = λ a b t k h. two-refused a b s t 25 (λ h. omega arith) ((product-rows_as_worded a b).row_25.1 (k, h));
      merged = λ a b t k h. two-merged a b s t ((product-rows_as_worded a b).none.1 (k, h));
      never-11 = λ a b t. both-valid a b s t;
      never-16 = output-fits s;
    }
