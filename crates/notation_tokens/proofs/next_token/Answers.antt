use Rattle.notation.proofs.Finding.{begun-inside}
use Rattle.notation.specs.Tokens.{token_at}
use Rattle.notation_tokens.proofs.next_token.Goals as goal

pub token_end-to-requires : goal.token_end-to-requires
token_end-to-requires c = rw c.beginning-lines.ensures (begun-inside _ _ _ c.requires.1)

pub returns : goal.returns
unfolding token_at
returns c = rw (c.token_end-to.ensures, c.beginning-lines.ensures)
