use mathlib.Core.Path.{refl}
use Rattle.clients_answers.specs.Clients.{client_of, symbol_of}
use Rattle.clients_entry.specs.Entries.{event_of}
use Rattle.clients_entry.proofs.split.Goals as goal

pub returns : goal.returns
unfolding event_of client_of symbol_of
returns c = refl
