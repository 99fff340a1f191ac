use Rattle.notation.proofs.Finding.{Beginning}
use Rattle.notation_tokens.proofs.beginning.Given as goal

-- Where a token begins.
abbrev pub invariant-loop-at : goal.invariant-loop-at
invariant-loop-at l = Beginning l.source l.fn.from.lines l.fn.from.at l.ended l.at l.c
