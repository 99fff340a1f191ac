use Prim.Native.Nat.{◌-◌}
use mathlib.Core.Path.{◌∙◌}
use lib.ListN.{get_or}
use native.Mathlib.Omega.{arith}
use borrow.Author.Tests.{eq-eqb, ne_eqb}
use Rattle.configuration_places.specs.Places.{input_place}
use Rattle.configuration_check.proofs.Laws.{before-ltb, number_at}
use Rattle.configuration_check.proofs.rises.Goals as goal

pub returns-then-i-eq0 : goal.returns-then-i-eq0
returns-then-i-eq0 c = rw (eq-eqb c.args.i 0 (omega arith))

pub returns : goal.returns
returns c =
    let a = c.args in
    let p = get_or a.places (a.i - 1) (input_place 0) in
    let q = get_or a.places a.i (input_place 0) in
    c.lt.ensures ∙ before-ltb p.0 q.0 ∙
    rw (ne_eqb a.i 0 (λ y. omega arith), number_at a.places (a.i - 1), number_at a.places a.i)
