-- A strategy that emits a longer front part than the monitor, at any accepted event, is lost.
use Prim.Native.Nat.{ℕ}
use mathlib.Core.Path.{◌≡◌, sym, ◌∙◌, ap}
use mathlib.Core.Bool.{true}
use mathlib.Core.List.{List, [], ◌∷◌, ◌++◌}
use native.Mathlib.Omega.{arith}
use lib.ListN.{length, take, drop}
use lib.Seq.{length-take-le}
use Rattle.base.specs.Masks.{has}
use Rattle.base.proofs.Bools.{refuted}
use Rattle.base.proofs.Fronts.{part_length, take_part}
use Rattle.automaton.specs.declared.Automaton.{Automaton}
use Rattle.automaton.specs.Automaton.{reached, valid}
use Rattle.automaton.proofs.Reached.{reached-append}
use Rattle.solver_sets.specs.Sets.{sets_for}
use Rattle.solver_sets.specs.Table.{Solved}
use Rattle.solver_sets.proofs.Total.{total}
use Rattle.monitor_rule.specs.Step.{by_sets, by_table, qualifies, release, arrival}
use Rattle.monitor_rule.proofs.Longest.{release_le, release-longest}
use Rattle.monitor_rule.proofs.Effects.{accepted_facts, arrival_arrives, arrival-leads, released_occurs}
use Rattle.monitor_rule.proofs.Solved.{solved_agree}
use Rattle.enforcement.specs.Moments.{Moment}
use Rattle.enforcement.specs.Claims.{arrival_at, strategy_release, our_release, strategy_output, strategy_buffer, LongerIsLost, LongerStrategiesLose}
use Rattle.enforcement.proofs.Moments.{Met, moments-all}
use Rattle.enforcement.proofs.Driven.{driven_out}

longer_loses : (a : Automaton) (t : List ℕ) → valid a ≡ true → Solved a t → (m : Moment) → Met a t m → LongerIsLost a t m
unfolding arrival_at strategy_release our_release strategy_output strategy_buffer qualifies by_sets
longer_loses a t v sv m k rule h =
    let q = m.position.state in
    let w = m.position.buffer in
    let x = arrival a q w m.event in
    let n = rule (m.past ++ m.event ∷ []) (m.output ++ x.emitted) x.buffer in
    let j = length (take n x.buffer) in
    let p = reached a x.state (take j x.buffer) in
    let accepted = accepted_facts (by_table a t) a m.position m.event k.accepted in
    let at = released_occurs a (total a v) x.state x.buffer (arrival_arrives a q w m.event accepted.symbol (total a v) k.occurs.occurs) j (omega arith) in
    let ours = length-take-le (release (by_table a t) a x.state x.buffer) x.buffer (release_le (by_table a t) a x.state x.buffer) in
    let out = refuted (has (sets_for a (drop j x.buffer)).winning p) (λ y.
    let z = (release-longest (by_table a t) a x.state x.buffer j (part_length n x.buffer) (solved_agree a t sv (drop j x.buffer) p at ∙ y)).1 in
    omega arith) in
    driven_out a v (drop j x.buffer) p at.state-below out a.initial rule (m.past ++ m.event ∷ []) ((m.output ++ x.emitted) ++ take n x.buffer)
    (reached-append a a.initial (m.output ++ x.emitted) (take n x.buffer) ∙
    ap (λ q. reached a q (take n x.buffer))
    (reached-append a a.initial m.output x.emitted ∙ ap (λ q. reached a q x.emitted) k.leads ∙ arrival-leads a q w m.event) ∙
    ap (reached a x.state) (sym (take_part n x.buffer)))

pub longer_strategies_lose : LongerStrategiesLose
longer_strategies_lose a t v sv calls = moments-all a t v (LongerIsLost a t) (longer_loses a t v sv) calls
