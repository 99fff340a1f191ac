-- Laws of reading: one number in its range, and a list of them.
use Prim.Native.Nat.{ℕ, suc, ◌+◌, ◌-◌, ◌<◌, ◌≤◌}
use mathlib.Core.Path.{◌≡◌, refl, sym, ◌∙◌, ap}
use mathlib.Core.List.{List, [], ◌∷◌, ◌++◌}
use native.Mathlib.Nat.{zero-add}
use native.Mathlib.Numerals.{add-one}
use native.Mathlib.Omega.{arith}
use lib.ListN.{length, set, length-append}
use lib.Seq.{sets, length-sets}
use lib.Dec.{eqb, leb, ltb}
use borrow.Author.Tests.{lt-ltb, le-ltb, le-leb, lt-leb, eq-eqb, ne_eqb, eqb-true, eqb-false, leb-true, ltb-true, ltb-false}
use Rattle.base.specs.Each.{count}
use Rattle.base.specs.Rows.{first}
use Rattle.base.proofs.Bools.{by}
use Rattle.base.proofs.Stores.{sets_more}
use Rattle.varint.specs.Varint.{Number, fault, read}
use Rattle.automaton.specs.Arrays.{controllable_in}
use Rattle.automaton_format.specs.Reading.{checked, between, tally, item_row, Numbers, numbers}
use Rattle.automaton_format.specs.Outcomes.{outcome, one_more}
use Rattle.automaton_format.proofs.Tally.{tally-more, tally-max}

-- the three outcomes of a check
module _ (check : ℕ → ℕ) (at : ℕ) (r : Number) where
  pub checked-unread : (r.refusal ≡ 0 → ⊥) → checked check at r ≡ r
  unfolding checked
  checked-unread h = rw (ne_eqb r.refusal 0 h)

  pub checked-fits : r.refusal ≡ 0 → check r.value ≡ 0 → checked check at r ≡ r
  unfolding checked
  checked-fits h k = rw (eq-eqb r.refusal 0 h, eq-eqb (check r.value) 0 k)

  pub checked_faults : r.refusal ≡ 0 → (check r.value ≡ 0 → ⊥) → checked check at r ≡ fault (check r.value) at
  unfolding checked
  checked_faults h k = rw (eq-eqb r.refusal 0 h, ne_eqb (check r.value) 0 k)

-- a range
module _ (low limit row v : ℕ) where
  pub inside : low ≤ v → v < limit → between low limit row v ≡ 0
  unfolding between
  inside h k = rw (le-leb low v h, lt-ltb v limit k)

  pub under : v < low → between low limit row v ≡ row
  unfolding between
  under h = rw (lt-leb low v h)

  pub over : limit ≤ v → between low limit row v ≡ row
  unfolding between
  over h = by (leb low v) (λ e. rw (e, le-ltb v limit h)) (λ e. rw e)

  pub range_of : 0 < row → between low limit row v ≡ 0 → (low ≤ v) × (v < limit)
  unfolding between
  range_of pos h =
      by (leb low v)
      (λ e. by (ltb v limit) (λ f. (leb-true low v e, ltb-true v limit f)) (λ f. absurd (let z = over (ltb-false v limit f) in omega arith)))
      (λ e. absurd (let z : between low limit row v ≡ row = rw e in omega arith))

-- a number that passed its check
pub record Passed (check : ℕ → ℕ) (at : ℕ) (r n : Number) : Type 0 where
  pub same : n ≡ r
  pub read : r.refusal ≡ 0
  pub fits : check r.value ≡ 0

pub passed : (check : ℕ → ℕ) (at : ℕ) (r n : Number) → n ≡ checked check at r → n.refusal ≡ 0 → Passed check at r n
passed check at r n e z =
    by (eqb r.refusal 0)
    (λ a. let a' = eqb-true r.refusal 0 a in
    by (eqb (check r.value) 0)
    (λ b. let b' = eqb-true (check r.value) 0 b in record { same = e ∙ checked-fits check at r a' b'; read = a'; fits = b' })
    (λ b. let b' = eqb-false (check r.value) 0 b in
    absurd (b' (sym (ap (λ (m : Number). m.refusal) (e ∙ checked_faults check at r a' b')) ∙ z))))
    (λ a. let a' = eqb-false r.refusal 0 a in absurd (a' (sym (ap (λ (m : Number). m.refusal) (e ∙ checked-unread check at r a')) ∙ z)))

-- a number of a list: refused by its range, or one 1 too many, or passed
module _ (limit row most : ℕ) (before : List ℕ) (at : ℕ) (r n : Number) (pos : 0 < row) (e : n ≡ checked (between 0 limit row) at r) where
  item_over : limit ≤ r.value → item_row limit row most before r.value ≡ row
  unfolding item_row first
  item_over h = rw (le-ltb r.value limit h)

  pub item_refused : (n.refusal ≡ 0 → ⊥) → checked (item_row limit row most before) at r ≡ n
  item_refused z =
      by (eqb r.refusal 0)
      (λ a. let a' = eqb-true r.refusal 0 a in
      by (ltb r.value limit)
      (λ b. absurd (z (ap (λ (m : Number). m.refusal) (e ∙ checked-fits (between 0 limit row) at r a' (inside 0 limit row r.value (omega arith) (ltb-true r.value limit b))) ∙ a')))
      (λ b. let b' = ltb-false r.value limit b in
      let i = item_over b' in
      let o = over 0 limit row r.value b' in
      checked_faults (item_row limit row most before) at r a' (λ x. omega arith) ∙
      ap (λ k. fault k at) (i ∙ sym o) ∙
      sym (e ∙ checked_faults (between 0 limit row) at r a' (λ x. omega arith))))
      (λ a. let a' = eqb-false r.refusal 0 a in
      checked-unread (item_row limit row most before) at r a' ∙ sym (e ∙ checked-unread (between 0 limit row) at r a'))

  module _ (z : n.refusal ≡ 0) where
    unread : Passed (between 0 limit row) at r n
    unread = passed (between 0 limit row) at r n e z

    pub item_below : n.value < limit
    item_below =
        let p = unread in
        let b = range_of 0 limit row r.value pos p.fits in
        rw p.same b.1

    pub item_many : most < one_more (tally before) n.value → checked (item_row limit row most before) at r ≡ fault 8 at
    unfolding item_row first
    item_many h =
        let p = unread in
        let b = (range_of 0 limit row r.value pos p.fits).1 in
        let t : most < tally (before ++ r.value ∷ []) = rw (tally-more before r.value) (rw p.same at h) in
        let i : item_row limit row most before r.value ≡ 8 = rw (lt-ltb r.value limit b, lt-ltb most (tally (before ++ r.value ∷ [])) t) in
        checked_faults (item_row limit row most before) at r p.read (λ x. omega arith) ∙ ap (λ k. fault k at) i

    pub item_passes : one_more (tally before) n.value ≤ most → checked (item_row limit row most before) at r ≡ n
    unfolding item_row first
    item_passes h =
        let p = unread in
        let b = (range_of 0 limit row r.value pos p.fits).1 in
        let t : tally (before ++ r.value ∷ []) ≤ most = rw (tally-more before r.value) (rw p.same at h) in
        let i : item_row limit row most before r.value ≡ 0 = rw (lt-ltb r.value limit b, le-ltb most (tally (before ++ r.value ∷ [])) t) in
        checked-fits (item_row limit row most before) at r p.read i ∙ sym p.same

-- one more number of a list
module _ (from : ℕ → Number) (check : List ℕ → ℕ → ℕ) (k : ℕ) (before : List ℕ) (at : ℕ) where
  pub number-refused : (n : Number) → checked (check before) at (from at) ≡ n → (n.refusal ≡ 0 → ⊥)
      → numbers from check (suc k) before at ≡ record { refusal = n.refusal; place = n.place; values = before }
  unfolding numbers
  number-refused n e z = rw (e, ne_eqb n.refusal 0 z)

  pub number-passes : (n : Number) → checked (check before) at (from at) ≡ n → n.refusal ≡ 0
      → numbers from check (suc k) before at ≡ numbers from check k (before ++ n.value ∷ []) n.place
  unfolding numbers
  number-passes n e z = rw (e, eq-eqb n.refusal 0 z)

-- the loop over a list of numbers
pub record Filling (s out₀ : List ℕ) (at count limit row most : ℕ) (out : List ℕ) (place ones i : ℕ) : Type 0 where
  pub before : List ℕ
  pub long : length before ≡ i
  pub within : i ≤ count
  pub tallied : ones ≡ tally before
  pub few : ones ≤ i
  pub stored : out ≡ sets out₀ 0 before
  pub kept : length out ≡ length out₀
  pub whole : numbers (read s) (item_row limit row most) count [] at ≡ numbers (read s) (item_row limit row most) (count - i) before place

pub filling_begins : (s out : List ℕ) (at count limit row most : ℕ) → Filling s out at count limit row most out at 0 0
unfolding controllable_in count
filling_begins s out at count limit row most =
    let e : count ≡ count - 0 = omega arith in
    record {
      before = [];
      long = refl;
      within = omega arith;
      tallied = refl;
      few = omega arith;
      stored = refl;
      kept = refl;
      whole = ap (λ k. numbers (read s) (item_row limit row most) k [] at) e;
    }

module _ {s out₀ : List ℕ} {at count limit row most : ℕ} {out : List ℕ} {place ones i : ℕ}
    (g : Filling s out₀ at count limit row most out place ones i) (pos : 0 < row) where
  all : Numbers
  all = numbers (read s) (item_row limit row most) count [] at

  now_at : i < count → all ≡ numbers (read s) (item_row limit row most) (suc (count - suc i)) g.before place
  unfolding all
  now_at h = let e : count - i ≡ suc (count - suc i) = omega arith in g.whole ∙ ap (λ k. numbers (read s) (item_row limit row most) k g.before place) e

  ends : (ns : Numbers) → all ≡ ns → ns.values ≡ g.before → (outcome ns ≡ outcome all) × (out ≡ sets out₀ 0 all.values)
  unfolding all
  ends ns e v = (ap outcome (sym e), g.stored ∙ ap (λ l. sets out₀ 0 l) (sym (ap (λ (m : Numbers). m.values) e ∙ v)))

  module _ (n : Number) (e : n ≡ checked (between 0 limit row) place (read s place)) (h : i < count) where
    pub filling_refused : (n.refusal ≡ 0 → ⊥)
        → (fault n.refusal n.place ≡ outcome (numbers (read s) (item_row limit row most) count [] at))
        × (out ≡ sets out₀ 0 (numbers (read s) (item_row limit row most) count [] at).values)
    unfolding outcome all
    filling_refused z =
        ends _ (now_at h ∙ number-refused (read s) (item_row limit row most) (count - suc i) g.before place n (item_refused limit row most g.before place (read s place) n pos e z) z) refl

    module _ (z : n.refusal ≡ 0) where
      pub filling_many : most < one_more ones n.value
          → (fault 8 place ≡ outcome (numbers (read s) (item_row limit row most) count [] at))
          × (out ≡ sets out₀ 0 (numbers (read s) (item_row limit row most) count [] at).values)
      unfolding outcome all
      filling_many l =
          ends _ (now_at h ∙ number-refused (read s) (item_row limit row most) (count - suc i) g.before place (fault 8 place)
          (item_many limit row most g.before place (read s place) n pos e z (rw g.tallied at l)) (λ x. omega arith)) refl

      pub filling_goes_on : one_more ones n.value ≤ most
          → Filling s out₀ at count limit row most (set out i n.value) n.place (one_more ones n.value) (i + 1)
      unfolding one_more all
      filling_goes_on l =
          let p = item_passes limit row most g.before place (read s place) n pos e z (rw g.tallied at l) in
          let t : one_more ones n.value ≡ tally (g.before ++ n.value ∷ []) = ap (λ x. one_more x n.value) g.tallied ∙ sym (tally-more g.before n.value) in
          let m : length (g.before ++ n.value ∷ []) ≡ i + 1 = simp length-append (omega (arith, g.long)) in
          let st : set out i n.value ≡ sets out₀ 0 (g.before ++ n.value ∷ []) =
          ap (λ x. set x i n.value) g.stored ∙ (rw (zero-add i) at (sets_more out₀ 0 i n.value g.before g.long)) in
          record {
            before = g.before ++ n.value ∷ [];
            long = m;
            within = omega arith;
            tallied = t;
            few = omega (arith, t, tally-max (g.before ++ n.value ∷ []));
            stored = st;
            kept = ap length st ∙ length-sets out₀ 0 (g.before ++ n.value ∷ []);
            whole = rw (add-one i) (now_at h ∙ number-passes (read s) (item_row limit row most) (count - suc i) g.before place n p z);
          }

  pub filling_done : count ≤ i
      → (record { refusal = 0; value = 0; place = place } ≡ outcome (numbers (read s) (item_row limit row most) count [] at))
      × (out ≡ sets out₀ 0 (numbers (read s) (item_row limit row most) count [] at).values)
  unfolding outcome numbers all
  filling_done h = let e : count - i ≡ 0 = omega (arith, g.within) in ends _ (g.whole ∙ ap (λ k. numbers (read s) (item_row limit row most) k g.before place) e) refl

-- the four ways out of reading a number in its range
module _ (low limit row at : ℕ) (r n : Number) (pos : 0 < row) (e : n ≡ r) where
  pub number-unread : (n.refusal ≡ 0 → ⊥) → n ≡ checked (between low limit row) at r
  number-unread z = e ∙ sym (checked-unread (between low limit row) at r (rw e at z))

  faulty : n.refusal ≡ 0 → between low limit row r.value ≡ row → fault row at ≡ checked (between low limit row) at r
  faulty z b =
      ap (λ k. fault k at) (sym b) ∙
      sym (checked_faults (between low limit row) at r (rw e at z) (λ x. omega arith))

  pub number_under : n.refusal ≡ 0 → n.value < low → fault row at ≡ checked (between low limit row) at r
  number_under z h = faulty z (under low limit row r.value (rw e at h))

  pub number-over : n.refusal ≡ 0 → limit ≤ n.value → fault row at ≡ checked (between low limit row) at r
  number-over z h = faulty z (over low limit row r.value (rw e at h))

  pub number-inside : n.refusal ≡ 0 → low ≤ n.value → n.value < limit → n ≡ checked (between low limit row) at r
  number-inside z h k =
      e ∙ sym (checked-fits (between low limit row) at r (rw e at z) (inside low limit row r.value (rw e at h) (rw e at k)))
