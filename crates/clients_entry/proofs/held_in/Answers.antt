use Rattle.std.proofs.Common.{◌∙◌, ◌<◌, sym, arith, rules}
use Rattle.clients_entry.specs.Entries.{held_in_by, mark_by}
use Rattle.clients_entry.proofs.held_in.Goals as goal

pub returns-then-not-consistent : goal.returns-then-not-consistent
unfolding held_in_by mark_by
returns-then-not-consistent c = let k = sym c.consistent.ensures ∙ c.if-not-consistent.true in (rw k, rw k, omega arith)

pub returns : goal.returns
unfolding held_in_by mark_by
returns c =
    let k = sym c.consistent.ensures ∙ c.if-not-consistent.false in
    let low : c.args.c.held < 256 = search rules in
    (rw k c.from.ensures, rw k, omega arith)
