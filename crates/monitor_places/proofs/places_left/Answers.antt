use Prim.Native.Nat.{◌+◌}
use borrow.Author.Tests.{eq-eqb, ne_eqb}
use Rattle.monitor_places.specs.Lines.{own_index}
use Rattle.monitor_places.proofs.places_left.Goals as goal

pub returns-then-released-held : goal.returns-then-released-held
unfolding own_index
returns-then-released-held c = rw (eq-eqb (c.args.released + c.args.held) c.args.before c.if-released-held.true) c.places_from.ensures

pub returns : goal.returns
unfolding own_index
returns c = rw (ne_eqb (c.args.released + c.args.held) c.args.before c.if-released-held.false) c.places_from-2.ensures
