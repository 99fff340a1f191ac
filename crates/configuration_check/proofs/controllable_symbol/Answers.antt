use borrow.Author.Tests.{lt-ltb, le-ltb}
use Rattle.configuration.specs.Configuration.{controllable_symbol}
use native.Mathlib.Omega.{arith}
use Rattle.configuration_check.proofs.controllable_symbol.Goals as goal

pub returns-then-symbols-e : goal.returns-then-symbols-e
unfolding controllable_symbol
returns-then-symbols-e c = rw (le-ltb c.args.e c.args.symbols (omega arith))

pub returns : goal.returns
unfolding controllable_symbol
returns c = let a = c.args in rw (lt-ltb a.e a.symbols (omega arith), c.class_at.ensures, c.from.ensures)
