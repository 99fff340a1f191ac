use Prim.Native.Nat.{◌<◌}
use mathlib.Core.Path.{◌≡◌, refl, ◌∙◌, ap, ap₂, sym}
use mathlib.Core.List.{map}
use lib.ListN.{length, set, take}
use lib.Seq.{take_all}
use native.Mathlib.Omega.{arith}
use Rattle.configuration_places.specs.Places.{input_place, pad_places}
use Rattle.configuration_places.proofs.Facts.{pad-next, pad-whole}
use Rattle.c_layout.specs.Offsets.{max_capacity, configuration_places}
use Rattle.c_layout.specs.Layout.{places_of}
use Rattle.c_places.proofs.Laws.{place_in, places_many}
use Rattle.c_places.proofs.held_places.Goals as goal

pub loop-i-init : goal.loop-i-init
unfolding pad_places
loop-i-init c = refl

pub loop-i-preserved : goal.loop-i-preserved
loop-i-preserved c =
    let l = c.loop-i in
    let bytes = c.args.bytes.now in
    let here = c.loop-i-test.true in
    let line = map input_place (places_of max_capacity configuration_places bytes) in
    let there : l.i < length line = omega (arith, here, places_many max_capacity configuration_places bytes) in
    ap₂ (λ array place. set array l.i place) l.invariant
    (ap input_place c.place_at-number.ensures ∙ sym (place_in max_capacity configuration_places bytes l.i here)) ∙
    pad-next 6 line l.i (omega (arith, here)) there

pub returns : goal.returns
returns c =
    let l = c.loop-i in
    let bytes = c.args.bytes.now in
    let line = map input_place (places_of max_capacity configuration_places bytes) in
    let e : l.i ≡ 6 = omega arith in
    let long = places_many max_capacity configuration_places bytes in
    l.invariant ∙ ap (λ i. pad_places 6 (take i line)) e ∙ ap (pad_places 6) (take_all 6 line (omega arith)) ∙ pad-whole 6 line long
