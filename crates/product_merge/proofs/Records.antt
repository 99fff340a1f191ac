-- Laws of merging two records: what the product is, and that its bytes have room.
use Prim.Native.Nat.{ℕ, ◌+◌, ◌*◌, ◌≤◌}
use mathlib.Core.Path.{◌≡◌, sym, ◌∙◌, ap}
use mathlib.Core.Bool.{true}
use mathlib.Core.List.{List, []}
use native.Mathlib.Omega.{arith}
use lib.ListN.{length}
use lib.Seq.{sets}
use borrow.Author.Tests.{eq-eqb, ne_eqb}
use Rattle.automaton.specs.declared.Automaton.{Automaton}
use Rattle.automaton.specs.Automaton.{valid}
use Rattle.automaton.proofs.Facts.{valid_facts}
use Rattle.automaton_format.specs.Writing.{Written}
use Rattle.automaton_format.specs.Writing.{record_bytes, write_answer, write_buffer}
use Rattle.automaton_format.proofs.Storing.{numbers-length, states-small}
use Rattle.automaton_format.proofs.Outcomes.{record-bytes, write_fits}
use Rattle.text.specs.Decimal.{Appended}
use Rattle.text.proofs.Appending.{nothing}
use Rattle.text_lines.specs.Lines.{refusal_line}
use Rattle.product_rule.specs.Product.{Product, product_of, product_refusal, product_answer}
use Rattle.product_rule.proofs.Merged.{product_merges, product-answered_as_worded}
use Rattle.product_merge.specs.Outputs.{Output, written, said, merged_records}

-- two buffers, after nothing or something was put into each
abbrev pub Put : Output → List ℕ → List ℕ → List ℕ → List ℕ → ℕ → ℕ → Type 0
Put o out note out' note' n m = Appended out 0 o.bytes out' n × Appended note 0 o.note note' m

pub same-put : {u o : Output} {out note out' note' : List ℕ} {n m : ℕ} → u ≡ o → Put o out note out' note' n m → Put u out note out' note' n m
same-put e x = rw e x

pub untouched : (out : List ℕ) {n : ℕ} → n ≡ 0 → Appended out 0 [] out n
untouched out e = rw e (nothing out)

-- a record that passes row 11 is written in 564 bytes at most, so row 16 does not stop it
module _ (c : Automaton) (v : valid c ≡ true) where
  bytes-length : length (record_bytes c) ≡ 4 + c.symbols + c.states + c.states * c.symbols
  bytes-length = ap length (record-bytes c [] v) ∙ numbers-length c (valid_facts c v)

  pub record_fits : length (record_bytes c) ≤ 564
  record_fits =
      let f = valid_facts c v in
      omega (arith, bytes-length, f.symbols-high, f.states-high, states-small c.states c.symbols f.states-high f.symbols-high)

  pub record_passes : (out : List ℕ) → length out ≡ 564 → (write_answer c out).refusal ≡ 0
  record_passes out k = ap (λ x. x.refusal) (sym (write_fits c out v (omega (arith, bytes-length, record_fits, k))).0)

  pub record_stored : (out : List ℕ) → length out ≡ 564 → (w : Written) → w ≡ write_answer c out → (out' : List ℕ) → out' ≡ write_buffer c out
      → Appended out 0 (record_bytes c) out' w.length
  record_stored out k w ew out' eo =
      let f = write_fits c out v (omega (arith, bytes-length, record_fits, k)) in
      let l : w.length ≡ 4 + c.symbols + c.states + c.states * c.symbols = ap (λ x. x.length) (ew ∙ sym f.0) in
      record {
        content = eo ∙ sym f.1 ∙ ap (λ x. sets out 0 x) (sym (record-bytes c out v));
        place = omega (arith, l, bytes-length);
        inside = omega (arith, l, bytes-length, record_fits, k);
      }

module _ (a b : Automaton) where
  -- the product, where it is made, passes row 11
  pub product-valid : product_refusal a b ≡ 0 → valid (product_of a b) ≡ true
  product-valid z = (product_merges a b z).passes

  module _ (p : Product) (e : p ≡ product_answer a b) where
    pub answer-valid : p.refusal ≡ 0 → valid p.automaton ≡ true
    answer-valid z = rw e ((product-answered_as_worded a b).0.made (rw e at z)).passes

    pub records_refused : (p.refusal ≡ 0 → ⊥) → merged_records a b ≡ said (refusal_line p.refusal)
    unfolding merged_records
    records_refused z = rw e (rw (ne_eqb (product_answer a b).refusal 0 (rw e at z)))

    pub records_merged : p.refusal ≡ 0 → merged_records a b ≡ written (record_bytes p.automaton)
    unfolding merged_records
    records_merged z = rw e (rw (eq-eqb (product_answer a b).refusal 0 (rw e at z)))
