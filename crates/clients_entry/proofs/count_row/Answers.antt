use Rattle.std.proofs.Common.{sym, ◌∙◌}
use Rattle.clients_entry.proofs.Entering.{row-stands, row-passes, row_twenty}
use Rattle.clients_entry.proofs.count_row.Goals as goal
use Rattle.clients_entry.proofs.count_row.Goals.{else-row-eq0-via-then-row-eq0+else-not-right_count, else-row-eq0-via-else-row-eq0}

pub returns-then-not-right_count : goal.returns-then-not-right_count
returns-then-not-right_count c = row_twenty _ _ c.if-row-eq0.true (sym c.if-not-right_count.true ∙ c.right_count.ensures)

pub returns : goal.returns
returns c =
    elim c.else-row-eq0.branch [
      | else-row-eq0-via-then-row-eq0+else-not-right_count w ↦
          w.if-row-eq0.true ∙ row-passes _ _ w.if-row-eq0.true (sym w.if-not-right_count.false ∙ w.right_count.ensures)
      | else-row-eq0-via-else-row-eq0 w ↦ row-stands _ _ w.if-row-eq0.false
    ]
