-- The instances of the claims on the product of two automata.
use Prim.Native.Nat.{ℕ, zero, suc, ◌+◌, ◌*◌, ◌<◌}
use mathlib.Core.Path.{◌≡◌, refl, sym, ◌∙◌, ap, subst}
use mathlib.Core.Logic.{inl, inr, ◌↔◌}
use mathlib.Core.Bool.{true, false, ◌&&◌}
use mathlib.Core.List.{List, [], ◌∷◌}
use native.Mathlib.Nat.{min-le_right}
use native.Mathlib.Omega.{arith}
use Rattle.base.specs.All.{AllOf}
use Rattle.base.specs.Each.{each, count, those}
use Rattle.base.specs.Masks.{has, mask}
use Rattle.base.specs.Pad.{pad}
use Rattle.base.specs.Rows.{first}
use Rattle.base.specs.Tabulate.{tabulate, blocks}
use Rattle.base.proofs.Bools.{either, clash, and-pair, and_both}
use Rattle.varint.specs.Varint.{groups, read}
use Rattle.automaton.specs.declared.Automaton.{Automaton}
use Rattle.automaton.specs.Arrays.{controllable_in, stands, places_stand}
use Rattle.automaton.specs.Automaton.{class, controllable, uncontrollable, controllables, accepts, step, reached, shaped, ranged, classes_stand, flags_stand}
use Rattle.automaton.specs.Automaton.{next_stand, valid, blank}
use Rattle.automaton_format.specs.Reading.{parsed, checked, between, item_row, numbers, next_states, after_number, after_numbers, tables, automaton_from, parse}
use Rattle.automaton_format.proofs.Faults.{refused-blank}
use Rattle.solver_sets.specs.Sets.{accepting_set, admits, stays, refine, settle, settled, sets_of, empty_sets, into, sets_for}
use Rattle.solver_sets.specs.Table.{rank, in_base_k, shorter, index, buffers_count, short, extended, buffers_at, buffers_to, pairs, table, Buffer, Solved}
use Rattle.solver_sets.specs.Definition6.{Final, Uncontrollable}
use Rattle.solver_sets.specs.Claims.{Winning, Intermediate, Projects}
use Rattle.solver_sets.proofs.Tables.{table-is-solved}
use Rattle.solver_sets.proofs.Projection.{images_rest}
use Rattle.product_rule.specs.Pairs.{pair_flags, pair_next, pair_states, same_classes}
use Rattle.product_rule.specs.Product.{Product, product_of, same_symbols, product_refusal, product_answer}
use Rattle.product_rule.specs.Claims.{Matching, ProductRows, Merges, ProductAnswered, EndsAccepting, sheet_v, no_answer}
use Rattle.product_rule.proofs.Rows.{product-rows_as_worded}
use Rattle.product_rule.proofs.Merged.{product_as_worded, product-answered_as_worded, states_are_pairs, held-by_both}
use Rattle.product_rule.proofs.Runs.{leads_to_pair, ends_as_both}
use Rattle.product_rule.proofs.Rests.{parts_rest}
use Rattle.configuration.specs.Configuration.{configuration, held_events, place_numbers, controllable_symbol, place_stands, buffer_stands, input_stands, inputs_stand, consistent_in}
use Rattle.monitor_rule.specs.Step.{by_table}
use Rattle.monitor_answers.specs.Answers.{table_rows, configuration_rows, call_rows, is_winning, call_refusal, status}
use Rattle.product_answers.proofs.Winning.{parts_win}
use Rattle.c_layout.specs.Layout.{automaton_bytes, automaton_of}
use Rattle.c_layout.proofs.Records.{automata_handed_on, refused_automata_zero}
use Rattle.enforcement_cases.specs.Cases.{bytes_v, automaton_v, at}
use Rattle.product_instances.specs.Statements.{together, looping, like_v, Refusing, refused_by, Answering, written, Merging, Pairing, sheet_a, sheet_b, both, Leading}
use Rattle.product_instances.specs.Statements.{twice, PartsResting, doubled, folded, Folding, ApartAgain, SameSheets, Asking, table_of, PartsWinning, followed_v, Handing}

-- the sheets, ..
unfoldable sheets : ℕ
unfolding pad sheet_v no_answer looping like_v written sheet_a sheet_b doubled
sheets = 0

-- .. what row 11 computes by, ..
unfoldable checking : ℕ
unfolding each count controllable_in stands places_stand shaped ranged classes_stand flags_stand next_stand valid sheets
checking = 0

-- .. the rows of a product, ..
unfoldable refusing : ℕ
unfolding first same_classes same_symbols product_refusal checking
refusing = 0

-- .. where a sheet leads and may rest, ..
unfoldable resting : ℕ
unfolding each has mask accepting_set admits stays refine settle settled sets_of empty_sets into sets_for accepts step reached controllable sheets
resting = 0

-- .. and the product itself
unfoldable merging : ℕ
unfolding tabulate blocks pair_flags pair_next pair_states product_of
merging = 0

-- row 11
valid-v : valid sheet_v ≡ true
unfolding checking
valid-v = refl

valid-no_answer : valid no_answer ≡ true
unfolding checking
valid-no_answer = refl

broken-blank : valid blank ≡ false
unfolding checking
broken-blank = refl

broken-seven : valid (looping 6 2 7) ≡ false
unfolding checking
broken-seven = refl

valid_1_3 : valid (looping 1 3 1) ≡ true
unfolding checking
valid_1_3 = refl

valid_2_2 : valid (looping 2 2 1) ≡ true
unfolding checking
valid_2_2 = refl

valid_3_2 : valid (looping 3 2 1) ≡ true
unfolding checking
valid_3_2 = refl

valid_4_2 : valid (looping 4 2 1) ≡ true
unfolding checking
valid_4_2 = refl

valid_6_2 : valid (looping 6 2 1) ≡ true
unfolding checking
valid_6_2 = refl

valid_6_3 : valid (looping 6 3 1) ≡ true
unfolding checking
valid_6_3 = refl

valid_8_2 : valid (looping 8 2 1) ≡ true
unfolding checking
valid_8_2 = refl

valid_11_2 : valid (looping 11 2 1) ≡ true
unfolding checking
valid_11_2 = refl

-- two sheets without a symbol that may be held
same : (n k : ℕ) → valid (looping n 2 1) ≡ true → valid (looping k 2 1) ≡ true → Matching (looping n 2 1) (looping k 2 1)
unfolding looping
same n k v w = record { first-valid = v; second-valid = w; same_number = refl; same_class = λ e _. refl }

alike_no_answer : Matching sheet_v no_answer
unfolding sheet_v no_answer
alike_no_answer = record { first-valid = valid-v; second-valid = valid-no_answer; same_number = refl; same_class = λ e _. refl }

-- the rows computed, for what they say
finds_11 : product_refusal sheet_v blank ≡ 11
unfolding refusing
finds_11 = refl

finds_24_number : product_refusal sheet_v (looping 1 3 1) ≡ 24
unfolding refusing
finds_24_number = refl

finds_24_class : product_refusal sheet_v (looping 2 2 1) ≡ 24
unfolding refusing
finds_24_class = refl

finds_25 : product_refusal (looping 3 2 1) (looping 11 2 1) ≡ 25
unfolding refusing
finds_25 = refl

finds_none : product_refusal (looping 4 2 1) (looping 8 2 1) ≡ 0
unfolding refusing
finds_none = refl

-- of V's two symbols and two that may not be held only the second differ
only-class : (e : ℕ) → e < 2 → (class sheet_v e ≡ class (looping 2 2 1) e → ⊥) → class sheet_v 1 ≡ class (looping 2 2 1) 1 → ⊥
unfolding sheets
only-class zero l d = absurd (d refl)
only-class (suc zero) l d = d
only-class (suc (suc e)) l d = absurd (omega arith)

class-one : class sheet_v 1 ≡ class (looping 2 2 1) 1 → ⊥
unfolding sheets
class-one h = omega arith

pub refusing_met : Refusing
unfolding sheet_v no_answer looping
refusing_met =
    record {
      first-broken = (product-rows_as_worded blank sheet_v).row_11.1 (inl broken-blank);
      second-broken = (product-rows_as_worded sheet_v blank).row_11.1 (inr broken-blank);
      both-broken = (product-rows_as_worded blank blank).row_11.1 (inr broken-blank);
      broken-before-all = (product-rows_as_worded (looping 6 2 7) (looping 6 3 1)).row_11.1 (inl broken-seven);
      which-broken = either ((product-rows_as_worded sheet_v blank).row_11.0 finds_11) (λ h. absurd (clash valid-v h)) (λ h. h);
      not_11 = λ h. either ((product-rows_as_worded sheet_v no_answer).row_11.0 h) (clash valid-v) (clash valid-no_answer);
      other-number = (product-rows_as_worded sheet_v (looping 1 3 1)).row_24.1 (valid-v, valid_1_3, inl (λ h. omega arith));
      other-class = (product-rows_as_worded sheet_v (looping 2 2 1)).row_24.1 (valid-v, valid_2_2, inr (1, omega arith, class-one));
      number-differs = ((product-rows_as_worded sheet_v (looping 1 3 1)).row_24.0 finds_24_number).2;
      class-differs = either ((product-rows_as_worded sheet_v (looping 2 2 1)).row_24.0 finds_24_class).2
          (λ n. absurd (n refl))
          (λ (e, l, d). only-class e l d);
      not-24 = λ h. either ((product-rows_as_worded sheet_v no_answer).row_24.0 h).2 (λ n. n refl) (λ (e, l, d). d refl);
      both-faults = (product-rows_as_worded (looping 6 2 1) (looping 6 3 1)).row_24.1 (valid_6_2, valid_6_3, inl (λ h. omega arith));
      not-25 = λ h. let same = ((product-rows_as_worded (looping 6 2 1) (looping 6 3 1)).row_25.0 h).0.same_number in omega arith;
      pairs-36 = (product-rows_as_worded (looping 6 2 1) (looping 6 2 1)).row_25.1 (same 6 6 valid_6_2 valid_6_2, omega arith);
      pairs-33 = (product-rows_as_worded (looping 3 2 1) (looping 11 2 1)).row_25.1 (same 3 11 valid_3_2 valid_11_2, omega arith);
      too_many = (product-rows_as_worded (looping 3 2 1) (looping 11 2 1)).row_25.0 finds_25;
      not-merged = λ h. let few = ((product-rows_as_worded (looping 3 2 1) (looping 11 2 1)).none.0 h).1 in omega arith;
      known = either (product-rows_as_worded sheet_v no_answer).known (λ h. h)
          (λ k. either k (λ h. absurd (either ((product-rows_as_worded sheet_v no_answer).row_11.0 h) (clash valid-v) (clash valid-no_answer)))
          (λ k. either k (λ h. absurd (either ((product-rows_as_worded sheet_v no_answer).row_24.0 h).2 (λ n. n refl) (λ (e, l, d). d refl)))
          (λ h. absurd (let many = ((product-rows_as_worded sheet_v no_answer).row_25.0 h).1 in omega arith))));
      pairs-6 = (product-rows_as_worded sheet_v no_answer).none.1 (alike_no_answer, omega arith);
      pairs-32 = (product-rows_as_worded (looping 4 2 1) (looping 8 2 1)).none.1 (same 4 8 valid_4_2 valid_8_2, omega arith);
      not-too-many = (product-rows_as_worded (looping 4 2 1) (looping 8 2 1)).none.0 finds_none;
    }

-- V and the other sheet merged
merged-v : product_refusal sheet_v no_answer ≡ 0
merged-v = refusing_met.pairs-6

merges_v : Merges sheet_v no_answer together
merges_v = (product_as_worded sheet_v no_answer merged-v).0

two-accepts : Final sheet_v 2
unfolding resting
two-accepts = refl

zero-accepts : Final no_answer 0
unfolding resting
zero-accepts = refl

one_does_not : accepts no_answer 1 ≡ false
unfolding resting
one_does_not = refl

four-accepts : Final together 4
unfolding resting merging
four-accepts = refl

pair-four : (Final together 4) ↔ (Final sheet_v 2 × Final no_answer 0)
unfolding sheet_v no_answer
pair-four = merges_v.accepting 2 0 (omega arith) (omega arith)

pair_one : (Final together 1) ↔ (Final sheet_v 0 × Final no_answer 1)
unfolding sheet_v no_answer
pair_one = merges_v.accepting 0 1 (omega arith) (omega arith)

-- V with other capacities and initial states, in both orders
valid_3_at_2 : valid (like_v 3 2) ≡ true
unfolding checking
valid_3_at_2 = refl

valid_2_at_1 : valid (like_v 2 1) ≡ true
unfolding checking
valid_2_at_1 = refl

likes : (b q c r : ℕ) → valid (like_v b q) ≡ true → valid (like_v c r) ≡ true → Merges (like_v b q) (like_v c r) (product_of (like_v b q) (like_v c r))
unfolding like_v
likes b q c r v w =
    let k : Matching (like_v b q) (like_v c r) = record { first-valid = v; second-valid = w; same_number = refl; same_class = λ e _. refl } in
    (product_as_worded (like_v b q) (like_v c r) ((product-rows_as_worded (like_v b q) (like_v c r)).none.1 (k, omega arith))).0

-- what holds below two, three or four holds of each number there, one by one
below_two : (P : ℕ → Type 0) → P 0 → P 1 → (q : ℕ) → q < 2 → P q
below_two P x y zero l = x
below_two P x y (suc zero) l = y
below_two P x y (suc (suc q)) l = absurd (omega arith)

below-three : (P : ℕ → Type 0) → P 0 → P 1 → P 2 → (p : ℕ) → p < 3 → P p
below-three P x y z zero l = x
below-three P x y z (suc p) l = below_two (λ p. P (suc p)) y z p (omega arith)

below-four : (P : ℕ → Type 0) → P 0 → P 1 → P 2 → P 3 → (q : ℕ) → q < 4 → P q
below-four P w x y z zero l = w
below-four P w x y z (suc q) l = below-three (λ q. P (suc q)) x y z q (omega arith)

-- the merged sheet written out is the two merged: each pair of states, and each symbol there
abbrev AcceptsAt : ℕ → ℕ → Type 0
AcceptsAt p q = accepts written (p * 2 + q) ≡ (accepts sheet_v p && accepts no_answer q)

written-accepts : (p : ℕ) → p < 3 → (q : ℕ) → q < 2 → AcceptsAt p q
unfolding resting
written-accepts =
    below-three (λ p. (q : ℕ) → q < 2 → AcceptsAt p q)
    (below_two (AcceptsAt 0) refl refl)
    (below_two (AcceptsAt 1) refl refl)
    (below_two (AcceptsAt 2) refl refl)

abbrev NextAt : ℕ → ℕ → ℕ → Type 0
NextAt p q e = step written (p * 2 + q) e ≡ step sheet_v p e * 2 + step no_answer q e

abbrev NextFrom : ℕ → ℕ → Type 0
NextFrom p q = (e : ℕ) → e < 2 → NextAt p q e

written_next : (p : ℕ) → p < 3 → (q : ℕ) → q < 2 → NextFrom p q
unfolding resting
written_next =
    below-three (λ p. (q : ℕ) → q < 2 → NextFrom p q)
    (below_two (NextFrom 0) (below_two (NextAt 0 0) refl refl) (below_two (NextAt 0 1) refl refl))
    (below_two (NextFrom 1) (below_two (NextAt 1 0) refl refl) (below_two (NextAt 1 1) refl refl))
    (below_two (NextFrom 2) (below_two (NextAt 2 0) refl refl) (below_two (NextAt 2 1) refl refl))

written-valid : valid written ≡ true
unfolding checking
written-valid = refl

written_merges : Merges sheet_v no_answer written
unfolding sheet_v no_answer written
written_merges =
    record {
      passes = written-valid;
      states = refl;
      symbols = (refl, refl);
      classes = λ e. (refl, refl);
      capacity_most = (omega arith, omega arith);
      capacity_either = inl refl;
      initial = refl;
      accepting = λ p q lp lq. (
        λ h. and-pair (accepts sheet_v p) (accepts no_answer q) (sym (written-accepts p lp q lq) ∙ h),
        λ (x, y). written-accepts p lp q lq ∙ and_both x y,
      );
      next = λ p q e lp lq le. written_next p lp q lq e le;
    }

pub merging-met : Merging
unfolding sheets step
merging-met =
    let a = likes 3 2 2 1 valid_3_at_2 valid_2_at_1 in
    let b = likes 2 1 3 2 valid_2_at_1 valid_3_at_2 in
    record {
      passes = merges_v.passes;
      states = merges_v.states;
      symbols = merges_v.symbols;
      classes = merges_v.classes 1;
      pair-accepts = pair-four.1 (two-accepts, zero-accepts);
      states-accept = pair-four.0 four-accepts;
      pair-does-not = λ h. clash (pair_one.0 h).1 one_does_not;
      next = merges_v.next 1 0 1 (omega arith) (omega arith) (omega arith);
      second-smaller = either a.capacity_either (λ h. omega (arith, a.capacity_most.1)) (λ h. h);
      first-smaller = either b.capacity_either (λ h. h) (λ h. omega (arith, b.capacity_most.0));
      initial = a.initial;
      initial-turned = b.initial;
      only = (product_as_worded sheet_v no_answer merged-v).1 written written_merges;
    }

-- the whole answer, by the words alone
by_words : (a b : Automaton) (x : Product) → ProductAnswered a b x → x ≡ product_answer a b
by_words a b x = (product-answered_as_worded a b).1 x

refused-by : (a b : Automaton) (row : ℕ) → product_refusal a b ≡ suc row → refused_by (suc row) ≡ product_answer a b
refused-by a b row h =
    by_words a b (refused_by (suc row))
    (record { rows = subst (ProductRows a b) h (product-rows_as_worded a b); made = λ z. absurd (omega arith); refused = λ _. refl })

-- .. and out of them
answered-v : ProductAnswered sheet_v no_answer (product_answer sheet_v no_answer)
answered-v = (product-answered_as_worded sheet_v no_answer).0

number-v : (product_answer sheet_v no_answer).refusal ≡ 0
unfolding sheet_v no_answer
number-v = answered-v.rows.none.1 (alike_no_answer, omega arith)

number-blank : (product_answer sheet_v blank).refusal ≡ 11
number-blank = (product-answered_as_worded sheet_v blank).0.rows.row_11.1 (inr broken-blank)

pub answering : Answering
answering =
    let rows = refusing_met in
    record {
      number = number-v;
      merged = answered-v.made number-v;
      zeros = (product-answered_as_worded sheet_v blank).0.refused (λ z. omega (arith, number-blank));
      made = by_words sheet_v no_answer (record { refusal = 0; automaton = written })
          (record {
            rows = subst (ProductRows sheet_v no_answer) merged-v (product-rows_as_worded sheet_v no_answer);
            made = λ _. written_merges;
            refused = λ n. absurd (n refl);
          });
      refused_11 = refused-by sheet_v blank 10 rows.second-broken;
      refused-24 = refused-by sheet_v (looping 2 2 1) 23 rows.other-class;
      refused-25 = refused-by (looping 3 2 1) (looping 11 2 1) 24 rows.pairs-33;
    }

answer-held : Buffer together (1 ∷ [])
unfolding controllable product_of sheet_v no_answer pad
answer-held = (((omega arith, refl), tt), omega arith)

both_hold : Buffer sheet_v (1 ∷ []) × Buffer no_answer (1 ∷ [])
unfolding controllable sheet_v no_answer pad
both_hold = ((((omega arith, refl), tt), omega arith), (((omega arith, refl), tt), omega arith))

pub pairing : Pairing
unfolding sheet_v no_answer
pairing =
    record {
      state-5 = states_are_pairs sheet_v no_answer merged-v 5 (omega (arith, merges_v.states));
      by_both = (held-by_both sheet_v no_answer merged-v (1 ∷ [])).0 answer-held;
      by_product = (held-by_both sheet_v no_answer merged-v (1 ∷ [])).1 both_hold;
    }

-- A and B
valid_a : valid sheet_a ≡ true
unfolding checking
valid_a = refl

valid_b : valid sheet_b ≡ true
unfolding checking
valid_b = refl

merged_ab : product_refusal sheet_a sheet_b ≡ 0
unfolding sheet_a sheet_b
merged_ab =
    (product-rows_as_worded sheet_a sheet_b).none.1
    (record { first-valid = valid_a; second-valid = valid_b; same_number = refl; same_class = λ e _. refl }, omega arith)

-- where lists of their symbols lead
parts_end : EndsAccepting sheet_a (1 ∷ 0 ∷ []) × EndsAccepting sheet_b (1 ∷ 0 ∷ [])
unfolding resting
parts_end = (refl, refl)

product-ends : EndsAccepting both (1 ∷ 0 ∷ [])
unfolding resting merging
product-ends = refl

ends : (es : List ℕ) → AllOf (λ e. e < 2) es → EndsAccepting both es ↔ (EndsAccepting sheet_a es × EndsAccepting sheet_b es)
unfolding sheet_a
ends = ends_as_both sheet_a sheet_b merged_ab

zero-only : EndsAccepting sheet_a (0 ∷ []) × (accepts sheet_b (reached sheet_b sheet_b.initial (0 ∷ [])) ≡ false)
unfolding resting
zero-only = (refl, refl)

ones_only : EndsAccepting sheet_b (1 ∷ 1 ∷ []) × (accepts sheet_a (reached sheet_a sheet_a.initial (1 ∷ 1 ∷ [])) ≡ false)
unfolding resting
ones_only = (refl, refl)

pub leading : Leading
unfolding sheets step reached
leading =
    record {
      query-answer = leads_to_pair sheet_v no_answer merged-v (0 ∷ 1 ∷ []) (omega arith, (omega arith, tt)) 1 0 (omega arith) (omega arith);
      three = leads_to_pair sheet_a sheet_b merged_ab (0 ∷ 1 ∷ 0 ∷ []) (omega arith, (omega arith, (omega arith, tt))) 1 1 (omega arith) (omega arith);
      product-ends = (ends (1 ∷ 0 ∷ []) (omega arith, (omega arith, tt))).1 parts_end;
      parts_end = (ends (1 ∷ 0 ∷ []) (omega arith, (omega arith, tt))).0 product-ends;
      only-first = (zero-only.0, λ h. clash ((ends (0 ∷ []) (omega arith, tt)).0 h).1 zero-only.1);
      only-second = (ones_only.0, λ h. clash ((ends (1 ∷ 1 ∷ []) (omega arith, (omega arith, tt))).0 h).0 ones_only.1);
    }

-- V merged with itself
merged-twice : product_refusal sheet_v sheet_v ≡ 0
unfolding sheet_v
merged-twice =
    (product-rows_as_worded sheet_v sheet_v).none.1
    (record { first-valid = valid-v; second-valid = valid-v; same_number = refl; same_class = λ e _. refl }, omega arith)

-- where the products may rest, by computation
rests-empty : Winning together [] 4
unfolding resting merging
rests-empty = refl

rests-held : Winning together (1 ∷ []) 4
unfolding resting merging
rests-held = refl

rests-long : Winning together (1 ∷ 1 ∷ []) 4
unfolding resting merging
rests-long = refl

twice-releases : Intermediate twice (1 ∷ []) 4
unfolding resting merging
twice-releases = refl

twice_may_not : has (sets_for twice (1 ∷ [])).winning 4 ≡ false
unfolding resting merging
twice_may_not = refl

-- so the parts may
pub parts_resting : PartsResting
unfolding sheet_v no_answer
parts_resting =
    let held = parts_rest sheet_v no_answer merged-v (1 ∷ []) (omega arith, tt) 2 0 (omega arith) (omega arith) in
    let at-twice = parts_rest sheet_v sheet_v merged-twice (1 ∷ []) (omega arith, tt) 1 1 (omega arith) (omega arith) in
    record {
      product-empty = rests-empty;
      parts-empty = (parts_rest sheet_v no_answer merged-v [] tt 2 0 (omega arith) (omega arith)).0 rests-empty;
      product-held = rests-held;
      parts_held = held.0 rests-held;
      product-long = rests-long;
      parts-long = (parts_rest sheet_v no_answer merged-v (1 ∷ 1 ∷ []) (omega arith, (omega arith, tt)) 2 0 (omega arith) (omega arith)).0 rests-long;
      parts-come = held.1 (inl rests-held);
      twice-releases = twice-releases;
      twice_may_not = λ h. clash h twice_may_not;
      twice-come = at-twice.1 (inr twice-releases);
      parts-release = at-twice.2 twice-releases;
    }

-- V with its state 2 twice, folded
valid-doubled : valid doubled ≡ true
unfolding checking
valid-doubled = refl

abbrev StepsAt : ℕ → ℕ → Type 0
StepsAt q e = folded (step doubled q e) ≡ step sheet_v (folded q) e

folded-steps : (q : ℕ) → q < 4 → (e : ℕ) → e < 2 → StepsAt q e
unfolding resting
folded-steps =
    below-four (λ q. (e : ℕ) → e < 2 → StepsAt q e)
    (below_two (StepsAt 0) refl refl)
    (below_two (StepsAt 1) refl refl)
    (below_two (StepsAt 2) refl refl)
    (below_two (StepsAt 3) refl refl)

folded-final : (q : ℕ) → q < 4 → Final doubled q → Final sheet_v (folded q)
unfolding resting
folded-final =
    below-four (λ q. Final doubled q → Final sheet_v (folded q))
    (λ h. refl)
    (λ h. h)
    (λ h. refl)
    (λ h. refl)

folded-free : (e : ℕ) → Uncontrollable sheet_v e → Uncontrollable doubled e
unfolding sheets uncontrollable controllable
folded-free e h = h

folds : Projects doubled sheet_v folded
unfolding sheet_v doubled
folds =
    record {
      below = λ q l. omega (arith, min-le_right q 2);
      steps = λ q e l le. folded-steps q l e le;
      final = folded-final;
      free = folded-free;
    }

doubled-rests : Winning doubled (1 ∷ []) 3
unfolding resting
doubled-rests = refl

doubled-releases : Intermediate doubled (1 ∷ []) 1
unfolding resting
doubled-releases = refl

doubled_may_not : has (sets_for doubled (1 ∷ [])).winning 1 ≡ false
unfolding resting
doubled_may_not = refl

pub folding : Folding
unfolding doubled
folding =
    let image = images_rest doubled sheet_v valid-doubled valid-v folded folds (1 ∷ []) (omega arith, tt) in
    record {
      projects = folds;
      rests = doubled-rests;
      image_rests = (image 3 (omega arith)).0 doubled-rests;
      releases = doubled-releases;
      may-not = λ h. clash h doubled_may_not;
      image-comes = (image 1 (omega arith)).1 (inr doubled-releases);
      image-releases = (image 1 (omega arith)).2 doubled-releases;
    }

-- the second pair for the converse
first-rests : Winning sheet_a (1 ∷ []) 0
unfolding resting
first-rests = refl

second-rests : Winning sheet_b (1 ∷ []) 0
unfolding resting
second-rests = refl

not-winning : has (sets_for both (1 ∷ [])).winning 0 ≡ false
unfolding resting merging
not-winning = refl

not-intermediate : has (sets_for both (1 ∷ [])).intermediate 0 ≡ false
unfolding resting merging
not-intermediate = refl

one-held : Buffer both (1 ∷ [])
unfolding controllable product_of sheet_a sheet_b pad
one-held = (((omega arith, refl), tt), omega arith)

pub apart_again : ApartAgain
unfolding sheet_a sheet_b
apart_again =
    record {
      merged = merged_ab;
      held = one-held;
      first-rests = first-rests;
      second-rests = second-rests;
      product-does-not = λ h. either h (λ x. clash x not-winning) (λ x. clash x not-intermediate);
      no_converse = λ c. clash (c sheet_a sheet_b merged_ab (1 ∷ []) one-held 0 0 (omega arith) (omega arith) first-rests second-rests) not-winning;
    }

-- the sheets of their bytes
same-v : sheet_v ≡ automaton_v
unfolding sheet_v automaton_v pad
same-v = refl

unfoldable reading : ℕ
unfolding
    each count pad groups read controllable_in first
    checked between item_row numbers next_states after_number after_numbers tables automaton_from parse
reading = 0

same-no_answer : parse (2 ∷ 2 ∷ 1 ∷ 0 ∷ 0 ∷ 1 ∷ 1 ∷ 0 ∷ 0 ∷ 1 ∷ 1 ∷ 1 ∷ []) ≡ parsed no_answer
unfolding reading no_answer
same-no_answer = refl

pub same_sheets : SameSheets
same_sheets = record { sheet-v = same-v; sheet-no-answer = same-no_answer }

-- what a call over a solved table computes by
unfoldable asking : ℕ
unfolding
    those controllables rank in_base_k shorter index buffers_count short extended buffers_at buffers_to pairs table
    held_events place_numbers controllable_symbol place_stands buffer_stands input_stands inputs_stand consistent_in
    by_table table_rows configuration_rows call_rows is_winning call_refusal status checking resting first
asking = 0

pub asking_met : Asking
unfolding asking merging
asking_met = record { first = refl; second = refl; product = refl }

-- over solved tables
solved : (a : Automaton) → valid a ≡ true → Solved a (table_of a)
solved a v = (table-is-solved a v).1 []

product-wins : (status together (table_of together) (configuration (at 4 (1 ∷ []) (0 ∷ []) 1 0))).winning ≡ true
unfolding asking merging
product-wins = refl

pub parts-winning : PartsWinning
unfolding no_answer
parts-winning =
    let wins = parts_win sheet_v no_answer merged-v (table_of together) (table_of sheet_v) (table_of no_answer)
    (solved together merges_v.passes) (solved sheet_v valid-v) (solved no_answer valid-no_answer) (configuration (at 4 (1 ∷ []) (0 ∷ []) 1 0)) product-wins in
    record { product = product-wins; first = wins.0; second = wins.1 }

-- bytes
row_10 : (parse followed_v).refusal ≡ 10
unfolding reading
row_10 = refl

read-v : (parse bytes_v).automaton ≡ automaton_v
unfolding reading automaton_v
read-v = refl

not-read : (parse followed_v).refusal ≡ 0 → ⊥
not-read h = omega (arith, row_10)

abbrev Kept : Automaton → Type 0
Kept c = automaton_of (automaton_bytes c) ≡ c

pub handing : Handing
handing =
    record {
      handed_on = subst Kept (ap (λ (p : Product). p.automaton) (sym answering.made)) (automata_handed_on.product sheet_v no_answer);
      refused-handed-on = subst Kept answering.zeros (automata_handed_on.product sheet_v blank);
      read-handed-on = subst Kept read-v (automata_handed_on.read bytes_v);
      row_10 = row_10;
      read-blank = refused-blank followed_v not-read;
      read-zero = refused_automata_zero.read followed_v not-read;
      product-zero = refused_automata_zero.product sheet_v (looping 2 2 1) (λ h. omega (arith, ap (λ (p : Product). p.refusal) answering.refused-24));
    }
