use Rattle.std.proofs.Common.{◌∙◌, ◌≡◌, ◌*◌, ◌-◌, sym, arith, rules, length}
use Rattle.automaton.proofs.Whole.{next_falls, next-unused}
use Rattle.automaton_check.proofs.Parts.{below_part}
use Rattle.automaton_check.proofs.next_stand.Goals as goal

pub returns-then-states_below : goal.returns-then-states_below
returns-then-states_below c =
    let a = c.args in
    let long : length a.next.now ≡ 512 = search rules in
    c.below.ensures ∙ (rw c.from-states.ensures (below_part a.next.now (a.n * 16) 1 (512 - a.n * 16) (omega (arith, c.requires.0)))) ∙
    next-unused _ _ _ (omega arith) (omega arith)
    (rw (c.from-states.ensures, c.next_limits-limits.ensures) at (sym c.states_below.ensures ∙ c.if-states_below.true))

pub returns-else-states_below : goal.returns-else-states_below
returns-else-states_below c =
    c.if-states_below.false ∙
    next_falls _ _ _ (omega arith) (omega arith)
    (rw (c.from-states.ensures, c.next_limits-limits.ensures) at (sym c.states_below.ensures ∙ c.if-states_below.false))
