use Rattle.configuration.specs.Configuration.{initial_of, initial_answer}
use mathlib.Core.Path.{◌∙◌, sym}
use Rattle.configuration.proofs.initial.Goals as goal

pub returns-then-valid : goal.returns-then-valid
unfolding initial_answer initial_of
returns-then-valid c = rw (sym c.valid.ensures ∙ c.if-valid.true, c.empty.ensures)

pub returns : goal.returns
unfolding initial_answer
returns c = rw (sym c.valid.ensures ∙ c.if-valid.false)
