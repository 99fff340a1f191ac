-- Demand 3 as one statement.
use mathlib.Core.Path.{◌≡◌, sym, ◌∙◌, ap}
use mathlib.Core.Bool.{true}
use mathlib.Core.List.{List, map}
use Prim.Native.Nat.{ℕ}
use Rattle.automaton.specs.declared.Automaton.{Automaton}
use Rattle.automaton.specs.Automaton.{valid}
use Rattle.solver_sets.specs.Table.{Solved}
use Rattle.solver_answers.specs.Solving.{solved_table}
use Rattle.solver_answers.proofs.Answers.{solved-valid, leaves-solved}
use Rattle.enforcement.specs.Store.{empty, store_all, feed_all}
use Rattle.enforcement.specs.Calls.{Call, fed_by, configuration_at}
use Rattle.enforcement.specs.Claims.{accepted_events, Demand3, Demand3Solved}
use Rattle.enforcement.proofs.Alone.{accepted-alone}
use Rattle.enforcement.proofs.Replies.{each-reply}
use Rattle.enforcement.proofs.Brought.{moments-accounted}
use Rattle.enforcement.proofs.Told.{places-told}
use Rattle.enforcement.proofs.Staying.{winning-stays}
use Rattle.enforcement.proofs.Strategies.{longer_strategies_lose}

-- fed the accepted events alone, the function ends as it does fed the calls
afresh : (a : Automaton) (t : List ℕ) → valid a ≡ true → Solved a t → (calls : List Call)
    → feed_all a empty (map fed_by calls) ≡ store_all a empty (accepted_events a t calls)
afresh a t v s calls = sym (ap (store_all a empty) (moments-accounted a t v s calls).events ∙ accepted-alone a calls)

pub demand3 : Demand3
demand3 a t v s calls =
    let r = each-reply a t v s calls in
    let f = afresh a t v s calls in
    record {
      enforces = r;
      alone-emitted = r.all-emitted ∙ ap (λ z. z.output) f;
      alone-configuration = r.last-configuration ∙ ap (configuration_at a) f;
      accounted = moments-accounted a t v s calls;
      places-told = places-told a t v s calls;
      once-winning = winning-stays a t v s calls;
      strategies = longer_strategies_lose a t v s calls;
    }

pub demand3-solved : Demand3Solved
demand3-solved a t h = demand3 a (solved_table a t) (solved-valid a t h) (leaves-solved a t h)
