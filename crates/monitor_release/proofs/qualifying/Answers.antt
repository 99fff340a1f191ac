use mathlib.Core.Path.{◌≡◌, refl, ◌∙◌, ap}
use native.Mathlib.Omega.{arith}
use lib.ListN.{length}
use lib.Seq.{length-take-le}
use Rattle.base.specs.Pad.{pad}
use Rattle.monitor_rule.proofs.Searching.{search_same, found-same}
use borrow.Author.Rules.{rules}
use Rattle.monitor_release.proofs.qualifying.Goals as goal

pub winning_sets-requires : goal.winning_sets-requires
winning_sets-requires c = let p = c.requires.0 in (p.few, p.radix, p.rank-high, p.symbol_low, p.long 0 (omega arith), refl)

pub returns : goal.returns
returns c =
    let a = c.args in
    let n : length a.buffer ≡ 6 = search rules in
    let many = length-take-le a.held a.buffer (omega (arith, c.requires.0.few)) in
    let read = c.winning_sets.ensures in (
      c.search.ensures.0 ∙ found-same _ _ _ _ _ _ _ many _ read,
      c.search.ensures.1 ∙ ap (pad 7) (search_same _ _ _ _ _ _ _ many _ read),
    )
