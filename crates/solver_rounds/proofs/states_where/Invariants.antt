use Rattle.std.proofs.Common.{◌≡◌, ◌<◌, ◌^◌, ℕ, Bool}
use Rattle.base.specs.Masks.{mask}
use Rattle.solver_rounds.proofs.states_where.Given as goal

abbrev pub invariant-loop-q : goal.invariant-loop-q
invariant-loop-q g l =
    (l.set < 2 ^ l.q)
    × ((p : ℕ → Bool) → ((q : ℕ) (r : Bool) → q < l.q → goal.F-post g l.test q r → r ≡ p q) → l.set ≡ mask l.q p)
