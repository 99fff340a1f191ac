use Rattle.configuration.specs.Configuration.{place_stands, buffer_stands}
use Rattle.base.proofs.Ranges.{each_falls, each_keeps}
use Rattle.base.specs.Each.{each}
use lib.Dec.{ltb}
use lib.ListN.{get_or}
use mathlib.Core.List.{List}
use mathlib.Core.Bool.{Bool}
use mathlib.Core.Path.{◌≡◌, refl, ◌∙◌, sym}
use Prim.Native.Nat.{ℕ}
use native.Mathlib.Omega.{arith}
use Rattle.configuration_check.proofs.buffer_stands.Goals as goal
use Rattle.configuration_check.proofs.buffer_stands.Goals.{then-not-place_stands, else-not-place_stands}

abbrev place : ℕ → List ℕ → ℕ → List ℕ → ℕ → Bool
place symbols classes held buffer i = place_stands symbols classes (ltb i held) (get_or buffer i 0)

pub loop-i-init : goal.loop-i-init
unfolding each
loop-i-init c = refl

pub loop-i-preserved : goal.loop-i-preserved
loop-i-preserved c =
    let a = c.args in
    let l = c.loop-i in
    let p = place a.symbols a.classes.now a.held a.buffer.now in
    let e = sym c.place_stands.ensures in
    elim c.if-not-place_stands.branch [
      | then-not-place_stands w ↦ w.fine-is ∙ each_falls p l.i l.fine l.invariant (e ∙ w.if-not-place_stands.true)
      | else-not-place_stands w ↦ w.fine-is ∙ each_keeps p l.i l.fine l.invariant (e ∙ w.if-not-place_stands.false)
    ]

pub returns : goal.returns
unfolding buffer_stands
returns c = let e : c.loop-i.i ≡ 6 = omega arith in rw e at c.loop-i.invariant
