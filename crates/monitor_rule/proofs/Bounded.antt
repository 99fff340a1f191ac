-- The input count stays a number of 32 bits: at its end an event is refused.
use Prim.Native.Nat.{ℕ, ◌≤◌}
use mathlib.Core.Path.{◌≡◌}
use mathlib.Core.List.{List}
use native.Mathlib.Omega.{arith}
use Rattle.automaton.specs.declared.Automaton.{Automaton}
use Rattle.configuration_places.specs.Places.{count_end}
use Rattle.configuration.specs.Configuration.{Position}
use Rattle.monitor_rule.specs.Step.{Rest, advance, event_refusal, run_of}
use Rattle.monitor_rule.proofs.Rows.{event-rows_as_worded}
use Rattle.monitor_rule.proofs.Runs.{run_keeps}

-- the input count is at most the end of a count
abbrev pub Bounded : Position → Type 0
Bounded p = p.received ≤ count_end

module _ (rest : Rest) (a : Automaton) where
  pub advance-bounded : (p : Position) (e : ℕ) → event_refusal rest a p e ≡ 0 → Bounded p → Bounded (advance rest a p e)
  advance-bounded p e h b = let before = ((event-rows_as_worded rest a p e).accepted.0 h).1 in omega arith

  pub run-bounded : (es : List ℕ) (p : Position) → Bounded p → Bounded (run_of rest a p es).last
  run-bounded =
      run_keeps rest a (λ p es r. Bounded p → Bounded r.last)
      (λ p b. b)
      (λ p e es r h k b. k (advance-bounded p e h b))
      (λ p e es r h k b. k b)
