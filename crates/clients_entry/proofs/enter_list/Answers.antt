use Rattle.clients_entry.proofs.Entering.{enters}
use Rattle.clients_entry.proofs.enter_list.Goals as goal

pub returns : goal.returns
returns c = enters _ _ _ _ c.enter-entry.ensures _ c.count_row.ensures
