use mathlib.Core.Path.{refl, ◌∙◌}
use lib.Seq.{take-length}
use borrow.Author.Rules.{rules}
use Rattle.text.proofs.word.Goals as goal

pub returns : goal.returns
returns c = record { content = c.copy.ensures ∙ rw (take-length c.args.text.now); place = refl; inside = search rules }
