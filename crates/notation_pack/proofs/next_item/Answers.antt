use Rattle.notation.proofs.Finding.{token_lies}
use Rattle.notation.specs.Tokens.{bytes_of}
use Rattle.notation.specs.Items.{item_at}
use Rattle.notation_pack.proofs.next_item.Goals as goal

pub returns-then-to-from : goal.returns-then-to-from
unfolding item_at
returns-then-to-from c = rw c.next_token-token.ensures at c.if-to-from.true

pub slice_bounds-read_word-end : goal.slice_bounds-read_word-end
slice_bounds-read_word-end c = rw c.next_token-token.ensures (token_lies _ _ _ c.requires.0 c.requires.1).inside

pub returns : goal.returns
unfolding item_at bytes_of
returns c = (c.if-to-from.false, rw (c.read_word-word.ensures, c.next_token-token.ensures))
