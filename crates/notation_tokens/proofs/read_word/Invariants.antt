use Rattle.notation.proofs.Values.{Reads}
use Rattle.notation_tokens.proofs.read_word.Given as goal

abbrev pub invariant-loop-b : goal.invariant-loop-b
invariant-loop-b l = Reads l.bytes l.value l.b-index
