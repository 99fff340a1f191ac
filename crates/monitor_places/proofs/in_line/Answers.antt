use mathlib.Core.Path.{◌≡◌}
use lib.ListN.{length}
use native.Mathlib.Omega.{arith}
use borrow.Author.Rules.{rules}
use Rattle.monitor_places.proofs.Laws.{before-own, at_own, behind-own}
use Rattle.monitor_places.proofs.in_line.Goals as goal

pub returns-then-i-own : goal.returns-then-i-own
returns-then-i-own c = let six : length c.args.places ≡ 6 = search rules in
    before-own _ _ _ (omega (arith, six, c.requires.0)) _ c.if-i-own.true

pub returns-then-i-own-2 : goal.returns-then-i-own-2
returns-then-i-own-2 c = let six : length c.args.places ≡ 6 = search rules in
    at_own _ _ _ (omega (arith, six, c.requires.0)) _ c.if-i-own-2.true

pub returns : goal.returns
returns c = let six : length c.args.places ≡ 6 = search rules in
    behind-own _ _ _ (omega (arith, six, c.requires.0)) _ (omega (arith, c.if-i-own.false, c.if-i-own-2.false))
