use Rattle.day_lines.proofs.Spacing.{Spacing}
use Rattle.day_lines.proofs.spaced.Given as goal

-- Symbols, each with a space before it.
abbrev pub invariant-loop-symbol : goal.invariant-loop-symbol
invariant-loop-symbol l = Spacing l.symbols l.initial.out l.at l.out l.place l.symbol-index
