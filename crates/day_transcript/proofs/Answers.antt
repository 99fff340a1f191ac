-- What the monitor answers is the same over two solved tables.
use Prim.Native.Nat.{ℕ}
use mathlib.Core.Path.{◌≡◌, sym, ◌∙◌}
use mathlib.Core.List.{List}
use lib.ListN.{length}
use borrow.Author.Tests.{le-ltb}
use Rattle.automaton.specs.declared.Automaton.{Automaton}
use Rattle.solver_sets.specs.Table.{short, Solved}
use Rattle.configuration.specs.declared.Configuration.{Configuration}
use Rattle.monitor_rule.specs.Step.{by_table}
use Rattle.monitor_rule.proofs.Effects.{Agree}
use Rattle.monitor_rule.proofs.Solved.{solved_agree}
use Rattle.monitor_answers.specs.Answers.{status, received}
use Rattle.monitor_answers.proofs.Agreeing as agreeing

module _ (a : Automaton) (t u : List ℕ) (s : Solved a t) (z : Solved a u) (c : Configuration) where
  agree : Agree a (by_table a t) (by_table a u)
  agree w q o = solved_agree a t s w q o ∙ sym (solved_agree a u z w q o)

  both_long : short a t ≡ short a u
  unfolding short
  both_long = rw (le-ltb (length t) _ s.long, le-ltb (length u) _ z.long)

  pub received-same : (e : ℕ) → received a t c e ≡ received a u c e
  received-same = agreeing.received-same a t u both_long agree c

  pub status-same : status a t c ≡ status a u c
  status-same = agreeing.status-same a t u both_long agree c
