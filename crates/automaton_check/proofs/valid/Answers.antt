use Rattle.std.proofs.Common.{◌∙◌, sym, rules}
use Rattle.automaton.proofs.Whole.{ranged-small, refuses, passes, shapes}
use Rattle.automaton_check.proofs.valid.Goals as goal

pub tables_stand-requires : goal.tables_stand-requires
tables_stand-requires c = ranged-small c.args.a.now (sym c.ranged.ensures ∙ c.if-ranged.true)

pub returns-then-ranged : goal.returns-then-ranged
returns-then-ranged c =
    c.tables_stand.ensures ∙
    passes _ (shapes _ (search rules) (search rules) (search rules)) (sym c.ranged.ensures ∙ c.if-ranged.true)

pub returns-else-ranged : goal.returns-else-ranged
returns-else-ranged c =
    c.if-ranged.false ∙ refuses _ (shapes _ (search rules) (search rules) (search rules)) (sym c.ranged.ensures ∙ c.if-ranged.false)
