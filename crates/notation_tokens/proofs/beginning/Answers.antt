use lib.ListN.{length, get_or}
use Rattle.notation.proofs.Finding.{beginning_begins, beginning-ended, beginning-found, beginning-goes_on, newlines_most}
use mathlib.Core.Path.{◌≡◌, sym, ◌∙◌}
use native.Mathlib.Omega.{arith}
use Rattle.notation_tokens.proofs.beginning.Goals as goal

pub loop-at-init : goal.loop-at-init
loop-at-init c = beginning_begins _ _ _ (omega arith) (omega arith)

pub overflow_add-ended : goal.overflow_add-ended
overflow_add-ended c =
    let n = newlines_most (get_or c.args.source.now c.loop-at.at 0) in
    record { fits = omega (arith, n, c.newlines-ended.ensures, c.loop-at.invariant.counted, c.loop-at-test.true) }

pub loop-at-preserved : goal.loop-at-preserved
loop-at-preserved c =
    rw (c.newlines-ended.ensures, c.comment-c.ensures)
    (beginning-goes_on c.loop-at.invariant c.loop-at-test.true (sym c.between.ensures ∙ c.if-not-between.false))

pub returns : goal.returns
returns c =
    let e : length c.args.source.now ≡ c.loop-at.at = omega (arith, c.loop-at.invariant.inside, c.loop-at-test.false) in
    rw e (beginning-ended c.loop-at.invariant c.loop-at-test.false)

pub returns-then-not-between : goal.returns-then-not-between
returns-then-not-between c =
    beginning-found c.loop-at.invariant c.loop-at-test.true (sym c.between.ensures ∙ c.if-not-between.true)
