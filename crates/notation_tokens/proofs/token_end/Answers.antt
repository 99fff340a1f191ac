use Rattle.std.proofs.Common.{sym, ◌∙◌, arith}
use Rattle.notation.proofs.Finding.{end_found, end_whole}
use Rattle.notation_tokens.proofs.token_end.Goals as goal

pub overflow_add-result : goal.overflow_add-result
overflow_add-result c = record { fits = omega (arith, (end_found _ _ c.requires _ (sym c.first_end.ensures ∙ c.in-Some.is)).0) }

pub returns-in-Some : goal.returns-in-Some
returns-in-Some c = (end_found _ _ c.requires _ (sym c.first_end.ensures ∙ c.in-Some.is)).1

pub returns-in-None : goal.returns-in-None
returns-in-None c = end_whole _ _ c.requires (sym c.first_end.ensures ∙ c.in-None.is)
