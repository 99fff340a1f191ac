use Rattle.std.proofs.Common.{◌∙◌, sym, ap, ◌≡◌, ◌+◌, ◌≤◌, true, arith}
use Rattle.automaton.specs.Automaton.{valid}
use Rattle.automaton.proofs.Facts.{valid_facts}
use Rattle.solver_sets.specs.Table.{shorter}
use Rattle.solver_answers.proofs.Bounds.{shorter-small}
use Rattle.automaton_symbols.specs.Symbols.{ranking_of}
use Rattle.monitor_entry.proofs.Entries.{entry_invalid, entry_short, entry_clear, ranking_few}
use Rattle.monitor_entry.proofs.enter.Goals as goal
use Rattle.monitor_entry.proofs.enter.Goals.{Else-not-valid, After-rank_symbols-ranking, After-buffers_to-buffers}

-- row 11 passed
passed : (c : Else-not-valid) → valid c.args.a.now ≡ true
passed c = sym c.valid.ensures ∙ c.if-not-valid.false

-- the ranking, and the number of buffers
ranked : (c : After-rank_symbols-ranking) → c.rank_symbols-ranking.result ≡ ranking_of c.args.a.now.classes c.args.a.now.symbols
ranked c = c.rank_symbols-ranking.ensures ∙ ap (ranking_of c.args.a.now.classes) c.from.ensures

counted : (c : After-buffers_to-buffers) → c.buffers_to-buffers.result ≡ shorter c.rank_symbols-ranking.result.count (c.args.a.now.capacity + 1)
counted c = c.buffers_to-buffers.ensures ∙ ap (λ y. shorter c.rank_symbols-ranking.result.count (y + 1)) c.from-2.ensures

pub returns-then-not-valid : goal.returns-then-not-valid
returns-then-not-valid c = entry_invalid _ _ (sym c.valid.ensures ∙ c.if-not-valid.true)

pub rank_symbols-ranking-requires : goal.rank_symbols-ranking-requires
rank_symbols-ranking-requires c =
    let p = goal.at.rank_symbols-ranking-requires c in
    let facts = valid_facts _ (passed p.Else-not-valid) in
    omega (arith, c.from.ensures, facts.symbols-high)

pub buffers_to-buffers-requires : goal.buffers_to-buffers-requires
buffers_to-buffers-requires c =
    let p = goal.at.buffers_to-buffers-requires c in
    let facts = valid_facts _ (passed p.Else-not-valid) in
    (ranking_few _ facts _ (ranked p.After-rank_symbols-ranking), omega (arith, c.from-2.ensures, facts.capacity-high))

pub overflow_mul-buffers : goal.overflow_mul-buffers
overflow_mul-buffers c =
    let p = goal.at.overflow_mul-buffers c in
    let facts = valid_facts _ (passed p.Else-not-valid) in
    let few = ranking_few _ facts _ (ranked p.After-rank_symbols-ranking) in
    let low : c.args.a.now.capacity ≤ 6 = facts.capacity-high in
    let k = c.rank_symbols-ranking.result.count in
    omega (arith, counted p.After-buffers_to-buffers, shorter-small k (c.args.a.now.capacity + 1) few (omega (arith, low)), low)

pub returns-then-table-buffers : goal.returns-then-table-buffers
returns-then-table-buffers c =
    let p = goal.at.returns-then-table-buffers c in
    entry_short _ _ (passed p.Else-not-valid) _ (ranked p.After-rank_symbols-ranking) _ (counted p.After-buffers_to-buffers)
    c.if-table-buffers.true

pub returns : goal.returns
returns c =
    let p = goal.at.returns c in
    entry_clear _ _ (passed p.Else-not-valid) _ (ranked p.After-rank_symbols-ranking) _ (counted p.After-buffers_to-buffers)
    c.if-table-buffers.false
