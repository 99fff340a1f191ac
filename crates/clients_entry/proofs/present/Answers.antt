use mathlib.Core.Path.{◌∙◌, sym}
use Rattle.clients_entry.proofs.Entering.{present_right, present_wrong}
use Rattle.clients_entry.proofs.present.Goals as goal

pub returns-then-right_count : goal.returns-then-right_count
returns-then-right_count c =
    c.receive.ensures ∙ present_right _ _ _ _ _ (sym c.right_count.ensures ∙ c.if-right_count.true)

pub returns : goal.returns
returns c =
    c.refused.ensures ∙
    present_wrong _ _ _ _ c.enter_list-entry.ensures _ _ (sym c.right_count.ensures ∙ c.if-right_count.false)
