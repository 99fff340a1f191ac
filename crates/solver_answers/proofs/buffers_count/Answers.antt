use Prim.Native.Nat.{◌+◌, ◌≤◌}
use mathlib.Core.Bool.{true}
use mathlib.Core.Path.{◌≡◌, sym, ◌∙◌}
use Rattle.automaton.specs.Automaton.{valid}
use Rattle.automaton.proofs.Facts.{valid_facts}
use Rattle.solver_sets.specs.Table.{shorter}
use Rattle.solver_answers.proofs.Answers.{count-refused, count_given, buffers-few, buffers-all, buffers_fit}
use native.Mathlib.Omega.{arith}
use Rattle.solver_answers.proofs.buffers_count.Goals as goal
use Rattle.solver_answers.proofs.buffers_count.Goals.{After-from-2}

-- the count is small
fits : (c : goal.After-from-2) → shorter c.controllable_in-k.result (c.from-2.result + 1) ≤ 1835008
fits c = let stands : valid c.args.a.now ≡ true = sym c.valid.ensures ∙ c.if-not-valid.false in
    buffers_fit _ (stands) _ _ _ c.from.ensures c.from-2.ensures c.controllable_in-k.ensures

pub returns-then-not-valid : goal.returns-then-not-valid
returns-then-not-valid c = count-refused _ (sym c.valid.ensures ∙ c.if-not-valid.true)

pub controllable_in-k-requires : goal.controllable_in-k-requires
controllable_in-k-requires c = let stands : valid c.args.a.now ≡ true = sym c.valid.ensures ∙ c.if-not-valid.false in
    omega (arith, c.from.ensures, (valid_facts _ (stands)).symbols-high)

pub buffers_to-count-requires : goal.buffers_to-count-requires
buffers_to-count-requires c = let stands : valid c.args.a.now ≡ true = sym c.valid.ensures ∙ c.if-not-valid.false in
    buffers-few _ (stands) _ _ _ c.from.ensures c.from-2.ensures c.controllable_in-k.ensures

pub overflow_cast-result : goal.overflow_cast-result
overflow_cast-result c = omega (arith, c.buffers_to-count.ensures, fits (goal.at.overflow_cast-result c).After-from-2)

pub returns : goal.returns
returns c = let stands : valid c.args.a.now ≡ true = sym c.valid.ensures ∙ c.if-not-valid.false in
    let v = stands in
    count_given _ v _ (c.buffers_to-count.ensures ∙ buffers-all _ v _ _ _ c.from.ensures c.from-2.ensures c.controllable_in-k.ensures)
