use Prim.Native.Nat.{◌*◌}
use Rattle.automaton_format.specs.Writing.{next_numbers}
use lib.ListN.{length}
use mathlib.Core.Path.{◌≡◌, refl, ◌∙◌}
use Prim.Native.Nat.{◌≤◌, ◌+◌}
use Rattle.automaton_format.proofs.Storing.{state-more, state-within, states-small}
use native.Mathlib.Omega.{arith}
use borrow.Author.Rules.{rules}
use Rattle.automaton_write.proofs.store_states.Goals as goal

pub loop-q-init : goal.loop-q-init
unfolding next_numbers
loop-q-init c = (refl, refl)

pub overflow_mul-q-in-loop-q : goal.overflow_mul-q-in-loop-q
overflow_mul-q-in-loop-q c =
    let a = c.args in
    omega (arith, state-within a.n a.m c.loop-q.q (omega arith), states-small a.n a.m (omega arith) (omega arith))

pub overflow_add-at : goal.overflow_add-at
overflow_add-at c =
    let a = c.args in
    omega (arith, state-within a.n a.m c.loop-q.q (omega arith), states-small a.n a.m (omega arith) (omega arith))

pub copy-requires : goal.copy-requires
copy-requires c =
    let a = c.args in
    let i : a.at + c.loop-q.q * a.m + a.m ≤ length c.loop-q.out =
    omega (arith, state-within a.n a.m c.loop-q.q (omega arith), c.loop-q.invariant.0) in
    (search rules, i)

pub loop-q-preserved : goal.loop-q-preserved
loop-q-preserved c =
    let a = c.args in
    let long : length a.next.now ≡ 512 = search rules in (
      search rules,
      c.copy.ensures ∙ rw c.loop-q.invariant.1 (state-more a.next.now long a.m (omega arith) _ _ _ (omega arith)),
    )

pub returns : goal.returns
returns c = let e : c.loop-q.q ≡ c.args.n = omega arith in rw e at c.loop-q.invariant.1
