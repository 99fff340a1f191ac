use Rattle.std.proofs.Common.{◌≡◌, ◌+◌, ◌-◌, ◌*◌, true}
use Rattle.base.specs.Each.{each}
use Rattle.game.specs.Arena.{arena, held_from}
use Rattle.game.proofs.Turns.{turn}
use Rattle.game.proofs.play.+can_rest_may_rest.Given as goal

-- The number that falls at each call: a held event left weighs more than all rounds, and coming to
-- rest one more than resting.
abbrev pub decreases-can_rest : goal.decreases-can_rest
decreases-can_rest l = 2 * ((l.held - l.at) * 33 + l.rounds) + 1

abbrev pub decreases-may_rest : goal.decreases-may_rest
decreases-may_rest l = 2 * ((l.held - l.at) * 33 + l.rounds)

abbrev pub invariant-may_rest-loop-e : goal.invariant-may_rest-loop-e
invariant-may_rest-loop-e l =
    each l.e (turn (arena l.n l.m l.classes l.accepting l.next) (held_from l.buffer l.held l.at) (l.rounds - 1) l.q) ≡ true
