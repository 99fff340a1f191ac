-- Two sheets that may rest with a held list, and their product may not.
use Prim.Native.Nat.{ℕ}
use mathlib.Core.Path.{◌≡◌, refl}
use mathlib.Core.Logic.{inl}
use mathlib.Core.Bool.{true, false}
use mathlib.Core.List.{[], ◌∷◌}
use native.Mathlib.Omega.{arith}
use Rattle.base.specs.Each.{each, count}
use Rattle.base.specs.Masks.{has, mask}
use Rattle.base.specs.Pad.{pad}
use Rattle.base.specs.Rows.{first}
use Rattle.base.specs.Tabulate.{tabulate, blocks}
use Rattle.base.proofs.Bools.{either, clash}
use Rattle.automaton.specs.Arrays.{controllable_in, stands, places_stand}
use Rattle.automaton.specs.Automaton.{controllable, accepts, step, shaped, ranged, classes_stand, flags_stand, next_stand, valid}
use Rattle.solver_sets.specs.Sets.{accepting_set, admits, stays, refine, settle, settled, sets_of, empty_sets, into, sets_for}
use Rattle.product_rule.specs.Pairs.{pair_flags, pair_next, pair_states, same_classes}
use Rattle.product_rule.specs.Product.{product_of, same_symbols, product_refusal}
use Rattle.product_rule.specs.Claims.{sheet_v, no_answer, ApartNotTogether, ConverseFalse}

-- the definitions that compute where a sheet may rest, ..
unfoldable resting : ℕ
unfolding each has mask pad accepting_set admits stays refine settle settled sets_of empty_sets into sets_for accepts step controllable sheet_v no_answer
resting = 0

-- .. and those of the product
unfoldable merging : ℕ
unfolding tabulate blocks pair_flags pair_next pair_states product_of
merging = 0

merged : product_refusal sheet_v no_answer ≡ 0
unfolding
    each count first pad controllable_in stands places_stand shaped ranged classes_stand flags_stand next_stand valid
    same_classes same_symbols product_refusal sheet_v no_answer
merged = refl

first-rests : has (sets_for sheet_v (1 ∷ [])).winning 0 ≡ true
unfolding resting
first-rests = refl

second-rests : has (sets_for no_answer (1 ∷ [])).winning 0 ≡ true
unfolding resting
second-rests = refl

-- the product in state 0, the pair of both first states
not-winning : has (sets_for (product_of sheet_v no_answer) (1 ∷ [])).winning 0 ≡ false
unfolding resting merging
not-winning = refl

not-intermediate : has (sets_for (product_of sheet_v no_answer) (1 ∷ [])).intermediate 0 ≡ false
unfolding resting merging
not-intermediate = refl

apart_not-together : ApartNotTogether
unfolding controllable product_of sheet_v no_answer pad
apart_not-together =
    record {
      merged = merged;
      held = (((omega arith, refl), tt), omega arith);
      first-rests = first-rests;
      second-rests = second-rests;
      product-does-not = λ h. either h (λ x. clash x not-winning) (λ x. clash x not-intermediate);
    }

pub converse_false : ConverseFalse
unfolding sheet_v no_answer
converse_false =
    let t = apart_not-together in
    (t, λ c. t.product-does-not (inl (c sheet_v no_answer t.merged (1 ∷ []) t.held 0 0 (omega arith) (omega arith) t.first-rests t.second-rests)))
