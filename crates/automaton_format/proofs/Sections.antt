-- Laws of reading: the classes, the flags and the next states after one another.
use Prim.Native.Nat.{ℕ, zero, suc, ◌+◌, ◌-◌, ◌*◌, ◌<◌, ◌≤◌}
use mathlib.Core.Path.{◌≡◌, refl, sym, ◌∙◌, ap, ap₂}
use mathlib.Core.List.{List, [], ◌∷◌, ◌++◌}
use native.Mathlib.Numerals.{add-one}
use native.Mathlib.Omega.{arith}
use lib.ListN.{length, replicate, length-append}
use lib.Seq.{sets, length-sets}
use lib.Dec.{eqb, ltb}
use borrow.Author.Tests.{le-ltb, eq-eqb, ne_eqb, eqb-true, eqb-false, ltb-true, ltb-false}
use Rattle.base.specs.Rows.{first}
use Rattle.base.specs.Pad.{pad}
use Rattle.base.proofs.Bools.{by}
use Rattle.base.proofs.Padding.{pad-length, pad-sets, pad-more}
use Rattle.varint.specs.Varint.{Number, fault, read}
use Rattle.automaton_format.specs.Reading.{checked, between, tally, item_row, Numbers, numbers, next_states, after_numbers, after_number, refused, Parsed}
use Rattle.automaton_format.specs.Outcomes.{outcome}
use Rattle.automaton_format.proofs.Tally.{tally-max}
use Rattle.automaton_format.proofs.Items.{inside, over, number-refused, number-passes}

-- two checks that agree while fewer than `bound` numbers are read
checked-same : (p r : ℕ → ℕ) (at : ℕ) (n : Number) → p n.value ≡ r n.value → checked p at n ≡ checked r at n
unfolding checked
checked-same p r at n e = rw e

pub numbers-same : (from : ℕ → Number) (p r : List ℕ → ℕ → ℕ) (bound : ℕ) → ((before : List ℕ) (v : ℕ) → length before < bound → p before v ≡ r before v)
    → (k : ℕ) (before : List ℕ) (at : ℕ) → length before + k ≤ bound → numbers from p k before at ≡ numbers from r k before at
unfolding numbers
numbers-same from p r bound h zero before at l = refl
numbers-same from p r bound h (suc k) before at l =
    let e = checked-same (p before) (r before) at (from at) (h before (from at).value (omega arith)) in
    let n = checked (r before) at (from at) in
    by (eqb n.refusal 0)
    (λ z. let z' = eqb-true n.refusal 0 z in
    number-passes from p k before at n e z' ∙
    numbers-same from p r bound h k (before ++ n.value ∷ []) n.place (simp length-append (omega arith)) ∙
    sym (number-passes from r k before at n refl z'))
    (λ z. let z' = eqb-false n.refusal 0 z in number-refused from p k before at n e z' ∙ sym (number-refused from r k before at n refl z'))

-- at most so many numbers were read
pub numbers_most : (from : ℕ → Number) (check : List ℕ → ℕ → ℕ) (k : ℕ) (before : List ℕ) (at : ℕ)
    → length (numbers from check k before at).values ≤ length before + k
unfolding numbers
numbers_most from check zero before at = omega arith
numbers_most from check (suc k) before at =
    let n = checked (check before) at (from at) in
    by (eqb n.refusal 0)
    (λ z. rw z (omega (arith, numbers_most from check k (before ++ n.value ∷ []) n.place, length-append before (n.value ∷ []))))
    (λ z. rw z (omega arith))

-- a range as the check of numbers among which no 1 is too many
range_item : (limit row most : ℕ) (before : List ℕ) (v : ℕ) → length before < most → between 0 limit row v ≡ item_row limit row most before v
unfolding item_row first
range_item limit row most before v h =
    let t : tally (before ++ v ∷ []) ≤ most = omega (arith, tally-max (before ++ v ∷ []), length-append before (v ∷ [])) in
    by (ltb v limit)
    (λ e. rw (e, le-ltb most (tally (before ++ v ∷ [])) t) (inside 0 limit row v (omega arith) (ltb-true v limit e)))
    (λ e. rw e (over 0 limit row v (ltb-false v limit e)))

pub items_are : (from : ℕ → Number) (limit row most k at : ℕ) → k ≤ most
    → numbers from (λ _. between 0 limit row) k [] at ≡ numbers from (item_row limit row most) k [] at
items_are from limit row most k at h =
    numbers-same from (λ _. between 0 limit row) (item_row limit row most) most (λ before v l. range_item limit row most before v l) k [] at (omega arith)

-- going on after a section
module _ (ns : Numbers) (go : List ℕ → ℕ → Parsed) where
  pub after-numbers-refused : (ns.refusal ≡ 0 → ⊥) → refused ns.refusal ns.place ≡ after_numbers ns go
  unfolding after_numbers
  after-numbers-refused z = rw (ne_eqb ns.refusal 0 z)

  pub after-numbers-passes : ns.refusal ≡ 0 → after_numbers ns go ≡ go ns.values ns.place
  unfolding after_numbers
  after-numbers-passes z = rw (eq-eqb ns.refusal 0 z)

module _ (n : Number) (go : ℕ → ℕ → Parsed) where
  pub after-number-refused : (n.refusal ≡ 0 → ⊥) → refused n.refusal n.place ≡ after_number n go
  unfolding after_number
  after-number-refused z = rw (ne_eqb n.refusal 0 z)

  pub after-number-passes : n.refusal ≡ 0 → after_number n go ≡ go n.value n.place
  unfolding after_number
  after-number-passes z = rw (eq-eqb n.refusal 0 z)

-- the loop over the states
pub record StatesFilled (s : List ℕ) (n m at : ℕ) (next : List ℕ) (place q : ℕ) : Type 0 where
  pub narrow : m ≤ 16
  pub few : n ≤ 32
  pub before : List ℕ
  pub long : length before ≡ q * 16
  pub within : q ≤ n
  pub stored : next ≡ pad 512 before
  pub size : length next ≡ 512
  pub whole : next_states (read s) (between 0 n 9) m n [] at ≡ next_states (read s) (between 0 n 9) m (n - q) before place

pub filled_begins : (s : List ℕ) (n m at : ℕ) (next : List ℕ) → m ≤ 16 → n ≤ 32 → next ≡ replicate 512 0 → StatesFilled s n m at next at 0
unfolding pad
filled_begins s n m at next narrow few zeros =
    let e : n ≡ n - 0 = omega arith in
    record {
      narrow = narrow;
      few = few;
      size = ap length zeros;
      before = [];
      long = refl;
      within = omega arith;
      stored = zeros;
      whole = ap (λ k. next_states (read s) (between 0 n 9) m k [] at) e;
    }

module _ {s : List ℕ} {n m at : ℕ} {next : List ℕ} {place q : ℕ} (g : StatesFilled s n m at next place q) where
  all : Numbers
  all = next_states (read s) (between 0 n 9) m n [] at

  ends : (ns : Numbers) (t : List ℕ) → all ≡ ns → t ≡ pad 512 ns.values → (outcome ns ≡ outcome all) × (t ≡ pad 512 all.values)
  ends ns t e v = (ap outcome (sym e), v ∙ ap (λ (x : Numbers). pad 512 x.values) (sym e))

  -- the state at hand
  module _ (r : Number) (e : r ≡ outcome (numbers (read s) (item_row n 9 16) m [] place)) (h : q < n) where
    block : Numbers
    block = numbers (read s) (λ _. between 0 n 9) m [] place

    block_is : block ≡ numbers (read s) (item_row n 9 16) m [] place
    unfolding block
    block_is = items_are (read s) n 9 16 m place g.narrow

    refusal_is : block.refusal ≡ r.refusal
    unfolding outcome
    refusal_is = ap (λ (x : Numbers). x.refusal) block_is ∙ ap (λ (x : Number). x.refusal) (sym e)

    place_is : block.place ≡ r.place
    unfolding outcome
    place_is = ap (λ (x : Numbers). x.place) block_is ∙ ap (λ (x : Number). x.place) (sym e)

    state-short : length block.values ≤ m
    unfolding block
    state-short = omega (arith, numbers_most (read s) (λ _. between 0 n 9) m [] place)

    -- what stands after it
    then : List ℕ
    then = sets next (q * 16) (numbers (read s) (item_row n 9 16) m [] place).values

    then_is : then ≡ sets (pad 512 g.before) (length g.before) block.values
    unfolding then
    then_is =
        ap (λ x. sets x (q * 16) (numbers (read s) (item_row n 9 16) m [] place).values) g.stored ∙
        ap₂ (λ i x. sets (pad 512 g.before) i x) (sym g.long) (ap (λ (x : Numbers). x.values) (sym block_is))

    now_state : all ≡ next_states (read s) (between 0 n 9) m (suc (n - suc q)) g.before place
    unfolding all
    now_state = let k : n - q ≡ suc (n - suc q) = omega arith in g.whole ∙ ap (λ k. next_states (read s) (between 0 n 9) m k g.before place) k

    pub filled-refused : (r.refusal ≡ 0 → ⊥)
        → (fault r.refusal r.place ≡ outcome (next_states (read s) (between 0 n 9) m n [] at))
        × (sets next (q * 16) (numbers (read s) (item_row n 9 16) m [] place).values ≡ pad 512 (next_states (read s) (between 0 n 9) m n [] at).values)
    unfolding outcome all next_states block then
    filled-refused z =
        ends (record { refusal = r.refusal; place = r.place; values = g.before ++ block.values }) then
        (now_state ∙ rw (refusal_is, place_is, ne_eqb r.refusal 0 z))
        (then_is ∙ pad-sets 512 g.before block.values (omega (arith, g.long, g.few, state-short, g.narrow)))

    pub filled-goes_on : r.refusal ≡ 0
        → StatesFilled s n m at (sets next (q * 16) (numbers (read s) (item_row n 9 16) m [] place).values) r.place (q + 1)
    unfolding all next_states block then
    filled-goes_on z =
        record {
          narrow = g.narrow;
          few = g.few;
          size = length-sets next (q * 16) (numbers (read s) (item_row n 9 16) m [] place).values ∙ g.size;
          before = g.before ++ pad 16 block.values;
          long = length-append g.before (pad 16 block.values) ∙ ap₂ ◌+◌ g.long (pad-length 16 block.values (omega (arith, state-short, g.narrow))) ∙ omega arith;
          within = omega arith;
          stored = then_is ∙ pad-more 512 g.before block.values 16 (omega (arith, state-short, g.narrow)) (omega (arith, g.long, g.few));
          whole = rw (add-one q) (now_state ∙ rw (refusal_is, place_is, eq-eqb r.refusal 0 z));
        }

  pub filled-done : n ≤ q
      → (record { refusal = 0; value = 0; place = place } ≡ outcome (next_states (read s) (between 0 n 9) m n [] at))
      × (next ≡ pad 512 (next_states (read s) (between 0 n 9) m n [] at).values)
  unfolding outcome all next_states
  filled-done h =
      let e : n - q ≡ 0 = omega arith in
      ends (record { refusal = 0; place = place; values = g.before }) next
      (g.whole ∙ ap (λ k. next_states (read s) (between 0 n 9) m k g.before place) e)
      g.stored
