use mathlib.Core.Path.{◌≡◌, ◌∙◌}
use mathlib.Core.Bool.{true, false}
use Rattle.configuration_check.proofs.Laws.{before-ltb}
use Rattle.configuration_check.proofs.input_stands.Goals as goal

pub returns-then-not-used : goal.returns-then-not-used
returns-then-not-used c = let u : c.args.used ≡ false = c.if-not-used.true in rw u

pub returns-then-not-rises : goal.returns-then-not-rises
returns-then-not-rises c =
    let a = c.args in
    let u : a.used ≡ true = c.if-not-used.false in
    let r : a.rises ≡ false = c.if-not-rises.true in
    rw (u, r)

pub returns : goal.returns
returns c =
    let a = c.args in
    let u : a.used ≡ true = c.if-not-used.false in
    let r : a.rises ≡ true = c.if-not-rises.false in
    c.lt.ensures ∙ before-ltb a.place.0 a.received.0 ∙ rw (u, r)
