use mathlib.Core.Path.{refl}
use Rattle.clients_entry.proofs.answer_of.Goals as goal

pub returns : goal.returns
returns c = refl
