use Rattle.std.proofs.Common.{◌∙◌, sym, arith}
use Rattle.automaton.proofs.Whole.{tables-classes, tables_ninth, tables_flags, tables-next}
use Rattle.automaton_check.proofs.tables_stand.Goals as goal

pub returns-then-not-places_stand : goal.returns-then-not-places_stand
returns-then-not-places_stand c =
    rw (sym c.from-m.ensures) (tables-classes _ _ _ _ _ (sym c.places_stand.ensures ∙ c.if-not-places_stand.true))

pub returns-then-controllable_in-gt8 : goal.returns-then-controllable_in-gt8
returns-then-controllable_in-gt8 c =
    rw (sym c.from-m.ensures)
    (tables_ninth _ _ _ _ _ (sym c.places_stand.ensures ∙ c.if-not-places_stand.false)
    (omega (arith, c.controllable_in.ensures)))

pub returns-then-not-places_stand-2 : goal.returns-then-not-places_stand-2
returns-then-not-places_stand-2 c =
    rw (sym c.from-m.ensures)
    (tables_flags _ _ _ _ _ (sym c.places_stand.ensures ∙ c.if-not-places_stand.false)
    (omega (arith, c.controllable_in.ensures))
    (rw c.from.ensures at (sym c.places_stand-2.ensures ∙ c.if-not-places_stand-2.true)))

pub returns : goal.returns
returns c =
    rw (sym c.from-m.ensures)
    (c.next_stand.ensures ∙
    tables-next _ _ _ _ _ (sym c.places_stand.ensures ∙ c.if-not-places_stand.false)
    (omega (arith, c.controllable_in.ensures))
    (rw c.from.ensures at (sym c.places_stand-2.ensures ∙ c.if-not-places_stand-2.false)))
