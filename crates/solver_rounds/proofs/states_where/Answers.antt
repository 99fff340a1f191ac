use Rattle.std.proofs.Common.{ℕ, ◌+◌, ◌<◌, ◌^◌, ◌∙◌, sym, arith, add-one}
use Rattle.base.specs.Masks.{mask}
use Rattle.base.proofs.Masks.{mask_adds, mask-passes}
use Rattle.solver_rounds.proofs.states_where.Goals as goal
use Rattle.solver_rounds.proofs.states_where.Goals.{then-test, else-test}

-- a set of the states below n has room for state n
room : (n set : ℕ) → set < 2 ^ n → set + 2 ^ n < 2 ^ (n + 1)
room n set h = rw add-one (omega arith)

grow : (n set : ℕ) → set < 2 ^ n → set < 2 ^ (n + 1)
grow n set h = rw add-one (omega arith)

pub loop-q-init : goal.loop-q-init
unfolding mask
loop-q-init g c = (omega arith, λ p h. omega arith)

pub loop-q-preserved : goal.loop-q-preserved
loop-q-preserved g c =
    let v = c.loop-q.invariant in
    elim c.if-test.branch [
      | then-test w ↦
          rw w.set-is (rw w.bit-set.ensures (room _ _ v.0), λ p h. mask_adds _ _ _ (v.1 p (λ q r l. h q r (omega arith))) w.bit-set.ensures (sym (h _ _ (omega arith) c.test.ensures) ∙ w.if-test.true))
      | else-test w ↦
          rw w.set-is (grow _ _ v.0, λ p h. mask-passes _ _ _ (v.1 p (λ q r l. h q r (omega arith))) (sym (h _ _ (omega arith) c.test.ensures) ∙ w.if-test.false))
    ]
