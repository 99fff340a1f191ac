use mathlib.Core.Path.{◌≡◌, refl, ◌∙◌}
use mathlib.Core.List.{map}
use native.Mathlib.Omega.{arith}
use borrow.Author.Rules.{rules}
use Rattle.base.specs.Each.{each}
use Rattle.base.proofs.Ranges.{each_falls, each_keeps}
use Rattle.configuration_places.specs.Places.{input_number}
use Rattle.configuration.specs.Configuration.{input_stands, inputs_stand}
use Rattle.configuration_check.proofs.Laws.{input_found}
use Rattle.configuration_check.proofs.inputs_stand.Goals as goal
use Rattle.configuration_check.proofs.inputs_stand.Goals.{then-not-input_stands, else-not-input_stands}

pub loop-i-init : goal.loop-i-init
unfolding each
loop-i-init c = refl

pub loop-i-preserved : goal.loop-i-preserved
loop-i-preserved c =
    let l = c.loop-i in
    let a = c.args in
    let p = input_stands a.held (input_number a.received) (map input_number a.places) in
    let e = input_found a.held (input_number a.received) a.places l.i _ _ c.rises.ensures c.input_stands.ensures in
    elim c.if-not-input_stands.branch [
      | then-not-input_stands w ↦ w.fine-is ∙ each_falls p l.i l.fine l.invariant (e ∙ w.if-not-input_stands.true)
      | else-not-input_stands w ↦ w.fine-is ∙ each_keeps p l.i l.fine l.invariant (e ∙ w.if-not-input_stands.false)
    ]

pub returns : goal.returns
unfolding inputs_stand
returns c = let e : c.loop-i.i ≡ 6 = omega arith in (rw e at c.loop-i.invariant, search rules)
