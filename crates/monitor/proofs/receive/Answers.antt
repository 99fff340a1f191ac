use mathlib.Core.Path.{◌≡◌, refl, ◌∙◌}
use Prim.Native.Nat.{◌<◌}
use mathlib.Core.Bool.{cond}
use lib.Dec.{eqb}
use lib.ListN.{get_or, replicate}
use native.Mathlib.Omega.{arith}
use borrow.Author.Rules.{rules}
use Rattle.automaton.proofs.Facts.{valid_facts}
use Rattle.automaton_symbols.specs.Symbols.{ranking_of}
use Rattle.monitor_rule.proofs.Searching.{rests_asks}
use Rattle.monitor_answers.specs.Turns.{turned, turned_buffer}
use Rattle.monitor_answers.proofs.Turns.{Opened}
use Rattle.monitor_entry.proofs.Entries.{entered, entered_opened}
use Rattle.monitor_loop.proofs.Taking.{lends}
use Rattle.monitor.proofs.Receiving.{lent_at, rest_is, receive-stands, turn_asks, receive-refuses, count_small, stands_after, index_low, index-small, many_small, receive-accepts}
use Rattle.monitor.proofs.receive.Goals as goal
use Rattle.monitor.proofs.receive.Goals.{After-turn-turned, After-index_in_line-own}

-- rows 11 and 12 passed
opens : (c : After-turn-turned) → let x = c.args in
    let a = x.a.now in
    Opened a x.table.now × (c.enter-entry.result.ranking ≡ ranking_of a.classes a.symbols)
opens c = entered_opened _ _ _ c.enter-entry.ensures c.if-entry-ne0.false

-- the turn
took : (c : After-turn-turned) → let x = c.args in
    let a = x.a.now in
    (c.turn-turned.result ≡ turned a x.table.now x.c x.event 0)
    × (c.turn-turned.new.out ≡ turned_buffer a x.table.now x.c x.event 0 (replicate 7 0))
took c = let o = opens c in c.turn-turned.ensures _ (lends _ _ o.0 _ o.1) refl

own : (c : After-index_in_line-own)
    → c.index_in_line-own.result ≡ cond (eqb (get_or c.enter-entry.result.ranking.ranks c.args.event 0) 0) 0 c.args.c.held
own c = rw c.from.ensures at c.index_in_line-own.ensures

pub returns-then-entry-ne0 : goal.returns-then-entry-ne0
returns-then-entry-ne0 c =
    c.refused.ensures ∙
    receive-stands _ _ _ _ _ (entered _ _ _ c.enter-entry.ensures) c.if-entry-ne0.true

pub turn-turned-requires : goal.turn-turned-requires
turn-turned-requires c =
    let o = entered_opened _ _ _ c.enter-entry.ensures c.if-entry-ne0.false in
    turn_asks _ _ _ 0 o.0 _ o.1 _ (search rules)

pub returns-then-turned-ne0 : goal.returns-then-turned-ne0
returns-then-turned-ne0 c =
    let p = (goal.at.returns-then-turned-ne0 c).After-turn-turned in
    c.refused-then-turned-ne0.ensures ∙ receive-refuses _ _ _ _ (opens p).0 _ (opens p).1 _ (took p).0 c.if-turned-ne0.true

pub overflow_cast-result : goal.overflow_cast-result
overflow_cast-result c =
    let p = (goal.at.overflow_cast-result c).After-turn-turned in
    let l = count_small _ _ _ _ (opens p).0 _ (opens p).1 _ (took p).0 c.if-turned-ne0.false in
    omega arith

pub bounds-ranking-event : goal.bounds-ranking-event
bounds-ranking-event c =
    let p = (goal.at.bounds-ranking-event c).After-turn-turned in
    let low : c.args.event < c.args.a.now.symbols = index_low _ _ _ _ (opens p).0 _ (opens p).1 _ (took p).0 c.if-turned-ne0.false in
    omega (arith, low, (valid_facts _ (opens p).0.record_valid).symbols-high)

pub places_from-from-requires : goal.places_from-from-requires
places_from-from-requires c =
    let at = goal.at.places_from-from-requires c in
    let p = at.After-turn-turned in
    let index = own at.After-index_in_line-own in
    let many = many_small _ _ _ _ (opens p).0 _ (opens p).1 _ (took p).0 c.if-turned-ne0.false _ index in
    (omega arith, (index-small _ _ _ _ (opens p).0 _ (opens p).1 _ (took p).0 c.if-turned-ne0.false _ index, many, omega (arith, many)))

pub rests-requires : goal.rests-requires
rests-requires c =
    let p = (goal.at.rests-requires c).After-turn-turned in
    let stands = stands_after _ _ _ _ (opens p).0 _ (opens p).1 _ (took p).0 c.if-turned-ne0.false in
    rests_asks (lent_at _ _ (opens p).0 _ (opens p).1 _ stands) _ _ c.from-2.ensures c.from-3.ensures

pub returns : goal.returns
returns c =
    let at = goal.at.returns c in
    let p = at.After-turn-turned in
    let stands = stands_after _ _ _ _ (opens p).0 _ (opens p).1 _ (took p).0 c.if-turned-ne0.false in
    let w = rest_is _ _ (opens p).0 _ (opens p).1 _ stands _ (rw (c.from-3.ensures, c.from-2.ensures) at c.rests.ensures) in
    receive-accepts _ _ _ _ (opens p).0 _ (opens p).1 _ (took p).0 c.if-turned-ne0.false _ (took p).1 _ w _ (own at.After-index_in_line-own) _ c.places_from-from.ensures
