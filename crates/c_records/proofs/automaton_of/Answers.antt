use Rattle.c_layout.proofs.Laying.{automaton-made}
use Rattle.c_layout.specs.Offsets.{automaton_size}
use lib.ListN.{length}
use mathlib.Core.Path.{◌≡◌}
use borrow.Author.Rules.{rules}
use Rattle.c_records.proofs.automaton_of.Goals as goal

pub returns : goal.returns
returns c =
    let b = c.args.bytes.now in
    let long : length b ≡ automaton_size = search rules in
    automaton-made b _ _ _ long c.copy.ensures c.copy-2.ensures c.copy-3.ensures
