use mathlib.Core.Path.{◌∙◌, sym}
use Rattle.monitor_rule.proofs.Searching.{rests_asks}
use Rattle.monitor_entry.proofs.Entries.{entered, entered_opened}
use Rattle.monitor.proofs.Receiving.{lent_at, rest_is, status-stands, status-refuses, status-answers}
use Rattle.monitor.proofs.winning.Goals as goal

pub returns-then-entry-ne0 : goal.returns-then-entry-ne0
returns-then-entry-ne0 c =
    c.refused_status.ensures ∙ status-stands _ _ _ _ (entered _ _ _ c.enter-entry.ensures) c.if-entry-ne0.true

pub returns-then-not-consistent : goal.returns-then-not-consistent
returns-then-not-consistent c =
    let o = entered_opened _ _ _ c.enter-entry.ensures c.if-entry-ne0.false in
    c.refused_status-then-not-consistent.ensures ∙
    status-refuses _ _ _ o.0 (sym c.consistent.ensures ∙ c.if-not-consistent.true)

pub rests-requires : goal.rests-requires
rests-requires c =
    let o = entered_opened _ _ _ c.enter-entry.ensures c.if-entry-ne0.false in
    let stands = sym c.consistent.ensures ∙ c.if-not-consistent.false in
    rests_asks (lent_at _ _ o.0 _ o.1 _ stands) _ _ c.from.ensures c.from-2.ensures

pub returns : goal.returns
returns c =
    let o = entered_opened _ _ _ c.enter-entry.ensures c.if-entry-ne0.false in
    let stands = sym c.consistent.ensures ∙ c.if-not-consistent.false in
    status-answers _ _ _ o.0 stands _
    (rest_is _ _ o.0 _ o.1 _ stands _ (rw (c.from-2.ensures, c.from.ensures) at c.rests.ensures))
