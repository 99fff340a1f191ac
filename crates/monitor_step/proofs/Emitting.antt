-- How many symbols an accepted event emits.
use Prim.Native.Nat.{ℕ, suc, ◌+◌, ◌≤◌}
use mathlib.Core.Path.{◌≡◌}
use mathlib.Core.Bool.{cond}
use mathlib.Core.List.{List}
use native.Mathlib.Omega.{arith}
use lib.ListN.{length}
use lib.Seq.{length-take-le}
use Rattle.base.proofs.Bools.{by}
use Rattle.automaton.specs.declared.Automaton.{Automaton}
use Rattle.automaton.specs.Automaton.{controllable}
use Rattle.monitor_rule.specs.Step.{Rest, release, remaining, Effect, arrival, effect}
use Rattle.monitor_rule.proofs.Effects.{effect-length}
use Rattle.monitor_rule.proofs.Longest.{release_le}
use Rattle.monitor_step.specs.Stepping.{released}

-- those released, and the event itself where it passes
module _ (rest : Rest) (a : Automaton) (q : ℕ) (w : List ℕ) (e : ℕ) where
  abbrev x : Effect
  x = arrival a q w e

  pub emitted_many : length (effect rest a q w e).emitted ≡ cond (controllable a e) 0 1 + released rest a q w e
  unfolding effect arrival released remaining
  emitted_many =
      let few = release_le rest a x.state x.buffer in
      by (controllable a e)
      (λ c. rw c (omega (arith, rw c at (length-take-le (release rest a x.state x.buffer) x.buffer few))))
      (λ c. rw c (omega (arith, rw c at (length-take-le (release rest a x.state x.buffer) x.buffer few))))

  pub released-few : released rest a q w e ≤ suc (length w)
  released-few = omega (arith, emitted_many, effect-length rest a q w e)
