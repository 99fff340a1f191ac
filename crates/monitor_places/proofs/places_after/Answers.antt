use mathlib.Core.Path.{sym, ◌∙◌}
use Rattle.monitor_places.proofs.Laws.{after_waits, after-stays}
use Rattle.monitor_places.proofs.places_after.Goals as goal

pub returns-then-before-held : goal.returns-then-before-held
returns-then-before-held c = after_waits c.requires _ c.if-before-held.true

pub returns : goal.returns
returns c = after-stays c.requires _ c.if-before-held.false (sym c.moves.ensures ∙ c.if-moves.false)
