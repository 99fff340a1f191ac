-- Where reading a sheet ends: a fault has a row of 1 to 10 and a place within the bytes; a record
-- that was read comes with place 0.
use Prim.Native.Nat.{ℕ, zero, suc, ◌+◌, ◌*◌, ◌-◌, ◌≤◌}
use mathlib.Core.Path.{◌≡◌, refl}
use mathlib.Core.Bool.{◌&&◌}
use mathlib.Core.List.{List, [], ◌∷◌, ◌++◌}
use native.Mathlib.Omega.{arith}
use lib.ListN.{length, get_or}
use lib.Dec.{eqb, leb, ltb}
use borrow.Author.Tests.{ltb-true, eqb-false}
use Rattle.base.specs.Rows.{first}
use Rattle.base.specs.Pad.{pad}
use Rattle.base.proofs.Bools.{by}
use Rattle.varint.specs.Varint.{Number, groups, read}
use Rattle.automaton.specs.Automaton.{max_class, blank}
use Rattle.automaton_format.specs.Reading.{Parsed}
use Rattle.automaton_format.specs.Claims.{RefusedInside, RefusedBlank}
use Rattle.automaton_format.specs.Reading.{checked, between, tally, item_row, class_row, Numbers, numbers, next_states, parsed, refused, after_number, after_numbers, tables, automaton_from, parse}

-- a number of seven-bit groups
groups-inside : (s : List ℕ) (start k unit low at : ℕ) → start ≤ length s
    → ((groups s start k unit low at).refusal ≤ 10) × ((groups s start k unit low at).place ≤ length s)
unfolding groups
groups-inside s start zero unit low at h = (omega arith, h)
groups-inside s start (suc k) unit low at h =
    by (ltb at (length s))
    (λ e. by (ltb (get_or s at 0) 128)
    (λ f. rw (e, f) (omega arith, omega (arith, ltb-true at (length s) e)))
    (λ f. rw (e, f) (groups-inside s start k (unit * 128) (low + (get_or s at 0 - 128) * unit) (at + 1) h)))
    (λ e. rw e (omega arith, h))

-- the rows
between-row : (low limit row v : ℕ) → row ≤ 10 → between low limit row v ≤ 10
unfolding between
between-row low limit row v h = by (leb low v && ltb v limit) (λ e. rw e (omega arith)) (λ e. rw e h)

class-row : (before : List ℕ) (v : ℕ) → class_row max_class before v ≤ 10
unfolding item_row first
class-row before v =
    by (ltb v (max_class + 1))
    (λ e. by (ltb 8 (tally (before ++ v ∷ []))) (λ f. rw (e, f) (omega arith)) (λ f. rw (e, f) (omega arith)))
    (λ e. rw e (omega arith))

-- what a sheet's reading gives
pub record Sound (end : ℕ) (p : Parsed) : Type 0 where
  pub row : p.refusal ≤ 10
  pub within : p.place ≤ end
  pub whole : p.refusal ≡ 0 → p ≡ parsed p.automaton
  pub zeros : (p.refusal ≡ 0 → ⊥) → p.automaton ≡ blank

-- numbers by a reader that stays inside
module _ (from : ℕ → Number) (end : ℕ) where
  abbrev Inside : ℕ → ℕ → Type 0
  Inside row place = (row ≤ 10) × (place ≤ end)

  module _ (reads : (at : ℕ) → at ≤ end → Inside (from at).refusal (from at).place) where
    checked-inside : (check : ℕ → ℕ) → ((v : ℕ) → check v ≤ 10) → (at : ℕ) → at ≤ end
        → Inside (checked check at (from at)).refusal (checked check at (from at)).place
    unfolding checked
    checked-inside check c at h =
        by (eqb (from at).refusal 0)
        (λ e. by (eqb (check (from at).value) 0) (λ f. rw (e, f) (reads at h)) (λ f. rw (e, f) (c (from at).value, h)))
        (λ e. rw e (reads at h))

    numbers-inside : (check : List ℕ → ℕ → ℕ) → ((before : List ℕ) (v : ℕ) → check before v ≤ 10) → (k : ℕ) (before : List ℕ) (at : ℕ) → at ≤ end
        → Inside (numbers from check k before at).refusal (numbers from check k before at).place
    unfolding numbers
    numbers-inside check c zero before at h = (omega arith, h)
    numbers-inside check c (suc k) before at h =
        let n = checked (check before) at (from at) in
        let i = checked-inside (check before) (c before) at h in
        by (eqb n.refusal 0) (λ e. rw e (numbers-inside check c k (before ++ n.value ∷ []) n.place i.1)) (λ e. rw e i)

    next-states-inside : (check : ℕ → ℕ) → ((v : ℕ) → check v ≤ 10) → (m k : ℕ) (before : List ℕ) (at : ℕ) → at ≤ end
        → Inside (next_states from check m k before at).refusal (next_states from check m k before at).place
    unfolding next_states
    next-states-inside check c m zero before at h = (omega arith, h)
    next-states-inside check c m (suc k) before at h =
        let block = numbers from (λ _. check) m [] at in
        let i = numbers-inside (λ _. check) (λ _. c) m [] at h in
        by (eqb block.refusal 0) (λ e. rw e (next-states-inside check c m k (before ++ pad 16 block.values) block.place i.1)) (λ e. rw e i)

    -- and on after them
    abbrev Fine : Parsed → Type 0
    Fine p = Sound end p

    faulty : (row at : ℕ) → (row ≡ 0 → ⊥) → Inside row at → Fine (refused row at)
    faulty row at z i = record { row = i.0; within = i.1; whole = λ e. absurd (z e); zeros = λ _. refl }

    after-number-sound : (n : Number) (go : ℕ → ℕ → Parsed) → Inside n.refusal n.place → ((v at : ℕ) → at ≤ end → Fine (go v at)) → Fine (after_number n go)
    unfolding after_number
    after-number-sound n go i f =
        by (eqb n.refusal 0) (λ e. rw e (f n.value n.place i.1)) (λ e. rw e (faulty n.refusal n.place (eqb-false _ 0 e) i))

    after-numbers-sound : (ns : Numbers) (go : List ℕ → ℕ → Parsed) → Inside ns.refusal ns.place → ((vs : List ℕ) (at : ℕ) → at ≤ end → Fine (go vs at))
        → Fine (after_numbers ns go)
    unfolding after_numbers
    after-numbers-sound ns go i f =
        by (eqb ns.refusal 0) (λ e. rw e (f ns.values ns.place i.1)) (λ e. rw e (faulty ns.refusal ns.place (eqb-false _ 0 e) i))

    header : (low limit row : ℕ) → row ≤ 10 → (at : ℕ) → at ≤ end → (go : ℕ → ℕ → Parsed) → ((v next : ℕ) → next ≤ end → Fine (go v next))
        → Fine (after_number (checked (between low limit row) at (from at)) go)
    header low limit row r at h go f = after-number-sound _ go (checked-inside (between low limit row) (λ v. between-row low limit row v r) at h) f

    tables-sound : (n m b q at : ℕ) → at ≤ end → Fine (tables from max_class end n m b q at)
    unfolding tables
    tables-sound n m b q at h =
        after-numbers-sound _ _ (numbers-inside (class_row max_class) class-row m [] at h) λ classes at1 h1.
        after-numbers-sound _ _ (numbers-inside (λ _. between 0 2 7) (λ _ v. between-row 0 2 7 v (omega arith)) n [] at1 h1) λ flags at2 h2.
        after-numbers-sound _ _ (next-states-inside (between 0 n 9) (λ v. between-row 0 n 9 v (omega arith)) m n [] at2 h2) λ next at3 h3.
        by (ltb at3 end)
        (λ e. rw e (faulty 10 at3 (λ z. omega arith) (omega arith, h3)))
        (λ e. rw e (record { row = omega arith; within = omega arith; whole = λ _. refl; zeros = λ z. absurd (z refl) }))

    from_sound : Fine (automaton_from from max_class end)
    unfolding automaton_from
    from_sound =
        header 1 33 3 (omega arith) 0 (omega arith) _ λ n at1 h1.
        header 1 17 4 (omega arith) at1 h1 _ λ m at2 h2.
        header 1 7 5 (omega arith) at2 h2 _ λ b at3 h3.
        header 0 n 6 (omega arith) at3 h3 _ λ q at4 h4.
        tables-sound n m b q at4 h4

pub read-inside : (s : List ℕ) (at : ℕ) → at ≤ length s → ((read s at).refusal ≤ 10) × ((read s at).place ≤ length s)
unfolding read
read-inside s at h = groups-inside s at 3 1 0 at h

pub parse-sound : (s : List ℕ) → Sound (length s) (parse s)
unfolding parse
parse-sound s = from_sound (read s) (length s) (read-inside s)

pub refused-inside : RefusedInside
refused-inside s = ((parse-sound s).row, (parse-sound s).within)

pub refused-blank : RefusedBlank
refused-blank s = (parse-sound s).zeros
