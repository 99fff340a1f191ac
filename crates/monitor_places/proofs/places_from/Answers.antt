use Prim.Native.Nat.{◌-◌, ◌<◌}
use mathlib.Core.Path.{◌≡◌, sym, ◌∙◌, ap₂}
use lib.ListN.{length, set, drop, length-drop}
use lib.Seq.{get_or-drop}
use native.Mathlib.Omega.{arith}
use borrow.Author.Rules.{rules}
use Rattle.configuration_places.specs.Places.{input_place, pad_places}
use Rattle.configuration_places.proofs.Facts.{pad-next}
use Rattle.monitor_places.specs.Lines.{joined_by}
use Rattle.monitor_places.proofs.Laws.{line-length}
use Rattle.monitor_places.proofs.places_from.Goals as goal

pub loop-i-init : goal.loop-i-init
unfolding pad_places
loop-i-init g c = let n : g.row.N - 0 ≡ g.row.N = omega arith in rw n

pub loop-i-preserved : goal.loop-i-preserved
loop-i-preserved g c =
    let six : length c.args.places ≡ 6 = search rules in
    let l = c.loop-i in
    let line = joined_by c.args.own c.args.newcomer c.args.places in
    let behind = drop c.args.from line in
    let long = line-length c.args.own c.args.newcomer c.args.places (omega (arith, six, c.requires.0)) in
    let here = c.loop-i-test.true in
    let there : l.i < length behind = rw (length-drop c.args.from line) (omega (arith, long, six, here, c.requires.2)) in
    ap₂ (λ array place. set array l.i place) l.invariant (c.in_line.ensures ∙ sym (get_or-drop c.args.from line l.i (input_place 0))) ∙
    pad-next g.row.N behind l.i (omega (arith, here, c.requires.1)) there

pub returns : goal.returns
returns g c =
    let l = c.loop-i in
    let e : l.i ≡ c.args.count = omega (arith, c.loop-i-test.false) in
    rw e at l.invariant
