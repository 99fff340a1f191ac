-- Over a solved table the monitor rests where the sets say, and the search finds what qualifies by
-- them.
use mathlib.Core.List.{List}
use Prim.Native.Nat.{ℕ}
use mathlib.Core.Path.{◌≡◌, ◌∙◌}
use mathlib.Core.Logic.{inl}
use native.Mathlib.Omega.{arith}
use lib.ListN.{take, drop}
use Rattle.automaton.specs.declared.Automaton.{Automaton}
use Rattle.automaton.specs.Automaton.{reached}
use Rattle.automaton.proofs.Facts.{valid_facts}
use Rattle.automaton_symbols.specs.declared.Ranking.{Ranking}
use Rattle.automaton_symbols.specs.Symbols.{ranking_of}
use Rattle.solver_sets.specs.Table.{Solved}
use Rattle.solver_sets.proofs.Total.{total}
use Rattle.monitor_rule.specs.Step.{by_sets, by_table, qualifies}
use Rattle.monitor_rule.specs.Fronts.{rest_in, over, found_in}
use Rattle.monitor_rule.specs.Claims.{SearchOfSolved}
use Rattle.monitor_rule.proofs.Worded.{search_as_worded}
use Rattle.monitor_rule.proofs.Longest.{qualifying-same}
use Rattle.monitor_rule.proofs.Tabled.{asked}
use Rattle.monitor_rule.proofs.Effects.{Occurs, Agree, Arrives, left_occurs}

pub solved_agree : (a : Automaton) (t : List ℕ) → Solved a t → Agree a (by_table a t) (by_sets a)
unfolding by_table by_sets
solved_agree a t s w q o = s.winning w o.buffer q o.state-below

asked_solved : (a : Automaton) (t : List ℕ) → Solved a t → (q : ℕ) (w : List ℕ) (k : ℕ) → Occurs a (reached a q (take k w)) (drop k w)
    → qualifies (by_table a t) a q w k ≡ qualifies (by_sets a) a q w k
unfolding qualifies
asked_solved a t s q w k o = solved_agree a t s (drop k w) (reached a q (take k w)) o

pub search_of_solved : SearchOfSolved
unfolding by_sets found_in
search_of_solved a t v s q w l b =
    let own : Ranking = ranking_of a.classes a.symbols in
    let facts = valid_facts a v in
    let n : Arrives a q w = record { state-below = l; symbols = b.0; few = omega (arith, b.1) } in
    let same = qualifying-same (rest_in t own.ranks own.count) (over own.ranks a.next) (by_sets a) a q w
    (λ k _. asked a facts t w b.0 q k ∙ asked_solved a t s q w k (left_occurs a (total a v) q w n k (inl b.1)))
    in
    rw same (search_as_worded (by_sets a) a q w (omega (arith, b.1, facts.capacity-high)))
