use Rattle.std.proofs.Common.{◌≤◌, length, take, arith}
use Rattle.notation_faults.proofs.Showing.{first, showing_done, showing_goes_on}
use Rattle.std.proofs.lemmas.List.{length-take}
use Rattle.notation_faults.proofs.shown.Goals as goal

pub loop-i-preserved : goal.loop-i-preserved
loop-i-preserved c =
    let few : length (take c.min.result c.args.token.now) ≤ 32 = omega (arith, c.min.ensures, length-take c.min.result c.args.token.now) in
    showing_goes_on c.loop-i.invariant c.loop-i-test.true few c.requires _ c.visible.ensures

pub returns : goal.returns
returns c =
    let few : length (take c.min.result c.args.token.now) ≤ 32 = omega (arith, c.min.ensures, length-take c.min.result c.args.token.now) in
    (showing_done c.loop-i.invariant _ (first _ _ c.min.ensures) c.loop-i-test.false, omega arith)
