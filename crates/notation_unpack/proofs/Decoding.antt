-- Laws of reading numbers one after the other.
use Prim.Native.Nat.{ℕ, zero, suc, ◌<◌, ◌≤◌}
use mathlib.Core.Path.{◌≡◌, refl, sym, ◌∙◌, ap}
use mathlib.Core.List.{List, []}
use lib.ListN.{length}
use lib.Dec.{ltb, eqb}
use borrow.Author.Tests.{lt-ltb, le-ltb, ltb-true, ltb-false, eq-eqb, ne_eqb, eqb-true, eqb-false}
use Rattle.base.proofs.Bools.{by}
use Rattle.varint.specs.Varint.{Number, value, read}
use Rattle.varint.proofs.Trips.{read-after, read-inside}
use Rattle.notation.specs.Outcomes.{numbers, faulty, before}
use Rattle.notation.proofs.Outcomes.{Stands, stands-next, left, no_fault, fault-before, same-fault}
use Rattle.notation_unpack.specs.Unpacking.{decoded_from, decoded}

whole-number : (n : Number) → n.refusal ≡ 0 → n ≡ value n.value n.place
whole-number n z = λ i. record { refusal = z i; value = n.value; place = n.place }

-- the number at a place
module _ (s : List ℕ) (at : ℕ) (n : Number) (e : n ≡ read s at) where
  module _ (z : n.refusal ≡ 0) where
    pub number_read : read s at ≡ value n.value n.place
    number_read = sym e ∙ whole-number n z

    pub number-after : at < n.place
    number-after = read-after s at n.value n.place number_read

    pub number-inside : n.place ≤ length s
    number-inside = read-inside s at n.value n.place number_read

  module _ (k : ℕ) where
    pub decoded-ended : length s ≤ at → decoded_from (suc k) s at ≡ numbers []
    unfolding decoded_from
    decoded-ended h = rw (le-ltb at (length s) h)

    module _ (h : at < length s) where
      pub decoded-faulty : (n.refusal ≡ 0 → ⊥) → decoded_from (suc k) s at ≡ faulty (n.refusal, n.place)
      unfolding decoded_from
      decoded-faulty = rw e (λ z. rw (lt-ltb at (length s) h, ne_eqb (read s at).refusal 0 z))

      pub decoded-number : n.refusal ≡ 0 → decoded_from (suc k) s at ≡ before n.value (decoded_from k s n.place)
      unfolding decoded_from
      decoded-number = rw e (λ z. rw (lt-ltb at (length s) h, eq-eqb (read s at).refusal 0 z))

-- a fault has a row
proper : (k : ℕ) (s : List ℕ) (at row place : ℕ) → decoded_from k s at ≡ faulty (row, place) → row ≡ 0 → ⊥
unfolding decoded_from
proper zero s at row place h z = no_fault (row, place) [] (sym h)
proper (suc k) s at row place h z =
    let n = read s at in
    by (ltb at (length s))
    (λ e.
    let l = ltb-true at (length s) e in
    by (eqb n.refusal 0)
    (λ f. proper k s n.place row place (fault-before n.value (decoded_from k s n.place) (row, place)
    (sym (decoded-number s at n refl k l (eqb-true n.refusal 0 f)) ∙ h)) z)
    (λ f. let x = eqb-false n.refusal 0 f in x (ap (λ y. y.0) (same-fault (sym (decoded-faulty s at n refl k l x) ∙ h)) ∙ z)))
    (λ e. no_fault (row, place) [] (sym (sym (decoded-ended s at n refl k (ltb-false at (length s) e)) ∙ h)))

pub decoded_proper : (s : List ℕ) (row place : ℕ) → decoded s ≡ faulty (row, place) → row ≡ 0 → ⊥
unfolding decoded
decoded_proper s row place h z = proper (suc (length s)) s 0 row place h z

-- a pass over the numbers, after one more
module _ {s : List ℕ} {at : ℕ} (g : Stands s at) (n : Number) (e : n ≡ read s at) (z : n.refusal ≡ 0) where
  unfoldable pub steps-more : (k : ℕ) × (g.steps ≡ suc k)
  steps-more = left g (number-after s at n e z) (number-inside s at n e z)

  unfoldable pub number-next : Stands s n.place
  number-next = stands-next g (number-after s at n e z) (number-inside s at n e z)
