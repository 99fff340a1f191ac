use mathlib.Core.Path.{◌≡◌, sym, ◌∙◌}
use mathlib.Core.Bool.{true}
use native.Mathlib.Omega.{arith}
use lib.Dec.{ltb}
use borrow.Author.Tests.{lt-ltb, le-ltb, eq-eqb, ne_eqb}
use Rattle.base.specs.Rows.{first}
use Rattle.monitor_step.specs.Stepping.{early_row}
use Rattle.monitor_step.proofs.early_row.Goals as goal

pub returns-then-from-event : goal.returns-then-from-event
unfolding early_row first
returns-then-from-event c = let a = c.args in rw (le-ltb a.event a.symbols (omega (arith, c.from.ensures, c.if-from-event.true)))

pub returns-then-is_full : goal.returns-then-is_full
unfolding early_row first
returns-then-is_full c = let symbol : ltb c.args.event c.args.symbols ≡ true = lt-ltb c.args.event c.args.symbols (omega (arith, c.from.ensures, c.if-from-event.false)) in
    rw (symbol, sym c.is_full.ensures ∙ c.if-is_full.true)

pub returns-then-received-eq-COUNT_END : goal.returns-then-received-eq-COUNT_END
unfolding early_row first
returns-then-received-eq-COUNT_END c = let symbol : ltb c.args.event c.args.symbols ≡ true = lt-ltb c.args.event c.args.symbols (omega (arith, c.from.ensures, c.if-from-event.false)) in
    rw (symbol, sym c.is_full.ensures ∙ c.if-is_full.false, eq-eqb _ 4294967295 c.if-received-eq-COUNT_END.true)

pub returns : goal.returns
unfolding early_row first
returns c = let symbol : ltb c.args.event c.args.symbols ≡ true = lt-ltb c.args.event c.args.symbols (omega (arith, c.from.ensures, c.if-from-event.false)) in
    rw (symbol, sym c.is_full.ensures ∙ c.if-is_full.false, ne_eqb _ 4294967295 c.if-received-eq-COUNT_END.false)
