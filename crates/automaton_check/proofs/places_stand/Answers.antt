use Rattle.std.proofs.Common.{◌∙◌, ◌-◌, sym, length, arith}
use Rattle.automaton.proofs.Whole.{places_fall, places-unused}
use Rattle.automaton_check.proofs.Parts.{below_front, below_part}
use Rattle.automaton_check.proofs.places_stand.Goals as goal

pub returns-then-below : goal.returns-then-below
returns-then-below c =
    let a = c.args in
    c.below-then-below.ensures ∙ below_part a.list.now a.used 1 (length a.list.now - a.used) (omega arith) ∙
    places-unused _ _ _ (omega arith) (sym (below_front a.list.now a.used a.limit (omega arith)) ∙ sym c.below.ensures ∙ c.if-below.true)

pub returns-else-below : goal.returns-else-below
returns-else-below c =
    let a = c.args in
    c.if-below.false ∙
    places_fall _ _ _ (omega arith) (sym (below_front a.list.now a.used a.limit (omega arith)) ∙ sym c.below.ensures ∙ c.if-below.false)
