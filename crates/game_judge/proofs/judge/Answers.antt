use Rattle.game.proofs.Answers.{refused_11, refused_13, refused_17, played, can_play}
use Rattle.automaton.proofs.Facts.{valid_facts}
use mathlib.Core.Path.{sym, ◌∙◌}
use Rattle.game_judge.proofs.judge.Goals as goal

pub returns-then-not-valid : goal.returns-then-not-valid
returns-then-not-valid c = refused_11 _ _ (sym c.valid.ensures ∙ c.if-not-valid.true)

pub returns-then-not-consistent : goal.returns-then-not-consistent
returns-then-not-consistent c = refused_13 _ _ (sym c.valid.ensures ∙ c.if-not-valid.false) (sym c.consistent.ensures ∙ c.if-not-consistent.true)

pub too_large-requires : goal.too_large-requires
too_large-requires c = (valid_facts _ (sym c.valid.ensures ∙ c.if-not-valid.false)).symbols-high

pub returns-then-too_large : goal.returns-then-too_large
returns-then-too_large c =
    refused_17 _ _
    (sym c.valid.ensures ∙ c.if-not-valid.false)
    (sym c.consistent.ensures ∙ c.if-not-consistent.false)
    (sym c.too_large.ensures ∙ c.if-too_large.true)

pub may_rest-requires : goal.may_rest-requires
may_rest-requires c =
    rw (
      c.from-n.ensures,
      c.from-m.ensures,
      c.from-held.ensures,
      c.from-q.ensures,
    )
    (can_play _ _
    (sym c.valid.ensures ∙ c.if-not-valid.false)
    (sym c.consistent.ensures ∙ c.if-not-consistent.false))

pub can_rest-requires : goal.can_rest-requires
can_rest-requires c =
    rw (
      c.from-n.ensures,
      c.from-m.ensures,
      c.from-held.ensures,
      c.from-q.ensures,
    )
    (can_play _ _
    (sym c.valid.ensures ∙ c.if-not-valid.false)
    (sym c.consistent.ensures ∙ c.if-not-consistent.false))

pub returns : goal.returns
returns c =
    played _ _
    (sym c.valid.ensures ∙ c.if-not-valid.false)
    (sym c.consistent.ensures ∙ c.if-not-consistent.false)
    (sym c.too_large.ensures ∙ c.if-too_large.false) _ _
    (rw (
      c.from-n.ensures,
      c.from-m.ensures,
      c.from-held.ensures,
      c.from-q.ensures,
    ) at c.may_rest.ensures)
    (rw (
      c.from-n.ensures,
      c.from-m.ensures,
      c.from-held.ensures,
      c.from-q.ensures,
    ) at c.can_rest.ensures)
