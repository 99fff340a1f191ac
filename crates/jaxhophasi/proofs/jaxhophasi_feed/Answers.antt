use mathlib.Core.Path.{◌∙◌, ap}
use Rattle.feed_answers.specs.Feed.{fed_for, fed_clients}
use Rattle.c_layout.specs.Layout.{expected_laid}
use Rattle.c_layout.specs.Answers.{fed_bytes}
use Rattle.c_layout.specs.Calls.{fed_left, feed_leaves}
use Rattle.jaxhophasi.proofs.Over.{over}
use Rattle.jaxhophasi.proofs.jaxhophasi_feed.Goals as goal

pub returns : goal.returns
unfolding feed_leaves fed_left
returns c =
    let g = c.args in
    let t = g.table.now in
    let cs = g.configurations.now in
    let s = g.bytes.now in
    let lent = g.expected.now in
    let a = c.automaton_of-a.ensures in
    let known = c.expected_of-given.ensures in
    let x = over (λ k y. fed_for k t cs s y) c.receive-fed.ensures.0 a known in (
      c.lay_fed.ensures.0 ∙ ap (λ r. r.answer.refusal) x,
      over (λ k y. fed_clients k t cs s y) c.receive-fed.ensures.1 a known,
      c.lay_fed.ensures.1 ∙ ap (λ r. expected_laid r.expected lent) x,
      c.lay_fed.ensures.2 ∙ ap fed_bytes x,
    )
