-- The instances of the claims on the monitor of a product.
use Prim.Native.Nat.{ℕ, ◌<◌}
use mathlib.Core.Path.{◌≡◌, refl, subst}
use mathlib.Core.Bool.{true}
use mathlib.Core.List.{List, [], ◌∷◌, append-nil}
use native.Mathlib.Omega.{arith}
use Rattle.base.specs.All.{AllOf}
use Rattle.base.specs.Each.{each, count, those, last_or}
use Rattle.base.specs.Masks.{has, mask}
use Rattle.base.specs.Pad.{pad}
use Rattle.base.specs.Rows as rows
use Rattle.base.specs.Tabulate.{tabulate, blocks}
use Rattle.automaton.specs.Arrays.{controllable_in, stands, places_stand}
use Rattle.automaton.specs.Automaton.{controllable, controllables, accepts, step, reached, shaped, ranged, classes_stand, flags_stand, next_stand, valid}
use Rattle.solver_sets.specs.Sets.{accepting_set, admits, stays, refine, settle, settled, sets_of, empty_sets, into, sets_for}
use Rattle.solver_sets.specs.Table.{index, rank, in_base_k, shorter, buffers_count, short, extended, buffers_at, buffers_to, pairs, table, Solved}
use Rattle.solver_sets.proofs.Tables.{table-is-solved}
use Rattle.product_rule.specs.Pairs.{pair, pair_flags, pair_next, pair_states, same_classes}
use Rattle.product_rule.specs.Product.{product_of, same_symbols, product_refusal}
use Rattle.product_rule.specs.Claims.{Symbols, EndsAccepting, sheet_v, no_answer}
use Rattle.product_rule.proofs.Merged.{product_merges}
use Rattle.configuration.specs.Configuration.{held_events, place_numbers, controllable_symbol, place_stands, buffer_stands, input_stands, inputs_stand}
use Rattle.configuration.specs.Configuration.{consistent_in, initial_of}
use Rattle.monitor_rule.specs.Step.{by_table, qualifies, qualifying, release, remaining, arrival, effect}
use Rattle.monitor_rule.specs.Step.{in_line, sources, is_shut, event_rows, event_refusal, run_of}
use Rattle.monitor_rule.specs.Claims.{Full}
use Rattle.monitor_answers.specs.Answers.{table_rows, configuration_rows, call_rows, is_winning, call_refusal, status, receive_refusal, received, room, run_refusal, ran}
use Rattle.enforcement.specs.Calls.{receive_call, handed_back, reply}
use Rattle.enforcement.specs.Moments.{Moment, position_after, effect_at, within, brought_by, brought_all, moments}
use Rattle.enforcement.specs.Claims.{winning_after, output_after}
use Rattle.enforcement_product.specs.Claims.{merged_moments, PairAfter}
use Rattle.enforcement_product.proofs.Emitted.{emitted_are_symbols}
use Rattle.enforcement_product.proofs.Obeying.{obeys_both, state-is-pair}
use Rattle.product_instances.specs.Obeyed.{two_answers, merged, table_merged, answers, first, second, third, fourth, put_out, BothEnd, ObeyedThere, calm, table_calm, query, ObeyedInitially}

-- the definitions that make the product, ..
unfoldable making : ℕ
unfolding
    tabulate blocks pair_flags pair_next pair_states product_of sheet_v no_answer two_answers pad each count rows.first controllable_in stands places_stand
    shaped ranged classes_stand flags_stand next_stand valid same_classes same_symbols product_refusal
making = 0

-- .. that solve it, ..
unfoldable solving : ℕ
unfolding
    making has mask accepting_set admits stays refine settle settled sets_of empty_sets into sets_for accepts step controllable controllables
    shorter buffers_count extended buffers_at buffers_to pairs table those
solving = 0

-- .. and that take its calls
unfoldable calling : ℕ
unfolding
    making those last_or has mask step reached controllable controllables
    held_events place_numbers controllable_symbol place_stands buffer_stands input_stands inputs_stand consistent_in initial_of
    shorter rank in_base_k index buffers_count short
    by_table qualifies qualifying release remaining arrival effect in_line sources is_shut event_rows event_refusal
    table_rows configuration_rows call_rows call_refusal is_winning status receive_refusal received room run_refusal run_of ran
    handed_back reply effect_at within brought_by brought_all moments winning_after output_after
calling = 0

unrefused : product_refusal sheet_v two_answers ≡ 0
unfolding making
unrefused = refl

table_is : table merged ≡ table_merged
unfolding solving
table_is = refl

solved : Solved merged table_merged
solved = rw table_is at (rw (append-nil (table merged)) at ((table-is-solved merged (product_merges sheet_v two_answers unrefused).passes).1 []))

accepted : merged_moments sheet_v two_answers table_merged answers ≡ first ∷ second ∷ third ∷ fourth ∷ []
unfolding calling
accepted = refl

out_then : output_after merged table_merged third ≡ put_out
unfolding calling
out_then = refl

wins : winning_after merged table_merged first ≡ true
unfolding calling
wins = refl

full : Full merged (1 ∷ []) 1
unfolding making
full = (omega arith, refl, omega arith)

state_then : (position_after merged table_merged third).state ≡ 10
unfolding calling
state_then = refl

-- what is said of the third event
abbrev Third : (Moment → Type 0) → Type 0
Third P = AllOf P (merged_moments sheet_v two_answers table_merged answers) → P third

at-third : (P : Moment → Type 0) → Third P
at-third P h = (subst (AllOf P) accepted h).1.1.0

symbols_then : Symbols merged put_out
symbols_then = subst (Symbols merged) out_then (at-third (λ m. Symbols merged (output_after merged table_merged m)) (emitted_are_symbols merged table_merged answers))

below_two : Symbols merged put_out → AllOf (λ e. e < 2) put_out
unfolding making
below_two h = h

pair_then : PairAfter sheet_v two_answers put_out 10
pair_then =
    subst (λ out. PairAfter sheet_v two_answers out 10) out_then
    (subst (PairAfter sheet_v two_answers (output_after merged table_merged third)) state_then
    (at-third (λ m. PairAfter sheet_v two_answers (output_after merged table_merged m) (position_after merged table_merged m).state)
    (state-is-pair sheet_v two_answers unrefused table_merged answers)))

two-and-two : PairAfter sheet_v two_answers put_out 10 → 10 ≡ pair 4 2 2
unfolding calling
two-and-two h = h

pub obeyed_there : ObeyedThere
obeyed_there =
    let obeyed = obeys_both sheet_v two_answers unrefused table_merged solved answers in
    record {
      accepted = accepted;
      out = out_then;
      symbols = below_two symbols_then;
      wins = wins;
      by-winning = subst BothEnd out_then (obeyed.later [] first (second ∷ third ∷ fourth ∷ []) accepted wins).1.1.0;
      full = full;
      by-opening = subst BothEnd out_then (obeyed.opened (first ∷ []) second (third ∷ fourth ∷ []) accepted full).1.0;
      state = state_then;
      pair_then = two-and-two pair_then;
    }

-- no Answer, and at most two
calm_unrefused : product_refusal no_answer two_answers ≡ 0
unfolding making
calm_unrefused = refl

calm-solved : Solved calm table_calm
calm-solved = (table-is-solved calm (product_merges no_answer two_answers calm_unrefused).passes).1 []

calm-initially : is_winning calm table_calm (initial_of calm) ≡ true
unfolding solving calling
calm-initially = refl

calm-query : merged_moments no_answer two_answers table_calm (receive_call 0 ∷ []) ≡ query ∷ []
unfolding solving calling
calm-query = refl

query-out : output_after calm table_calm query ≡ 0 ∷ []
unfolding solving calling
query-out = refl

abbrev CalmEnd : List ℕ → Type 0
CalmEnd out = EndsAccepting no_answer out × EndsAccepting two_answers out

pub obeyed_initially : ObeyedInitially
obeyed_initially =
    record {
      wins = calm-initially;
      accepted = calm-query;
      after-query = subst CalmEnd query-out
          (subst (AllOf (λ m. CalmEnd (output_after calm table_calm m))) calm-query
          ((obeys_both no_answer two_answers calm_unrefused table_calm calm-solved (receive_call 0 ∷ [])).initially calm-initially)).0;
    }
