use Rattle.c_layout.proofs.Laying.{automaton-laid}
use Rattle.c_layout.specs.Offsets.{max_symbols, max_states, max_next}
use lib.ListN.{length}
use mathlib.Core.Path.{◌≡◌}
use borrow.Author.Rules.{rules}
use Rattle.c_records.proofs.automaton_bytes.Goals as goal

pub returns : goal.returns
returns c =
    let a = c.args.a in
    let k : length a.classes ≡ max_symbols = search rules in
    let f : length a.accepting ≡ max_states = search rules in
    let n : length a.next ≡ max_next = search rules in
    automaton-laid a _ _ _ k f n
    c.copy.ensures
    c.copy-2.ensures
    c.copy-3.ensures
