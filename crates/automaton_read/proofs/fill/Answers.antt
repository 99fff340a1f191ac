use Rattle.std.proofs.Common.{◌∙◌, [], arith, refl}
use Rattle.std.proofs.lemmas.List.{set-get_or}
use Rattle.refusal.proofs.Numbers.{number_positive, number_never_0}
use Rattle.varint.specs.Varint.{decoded, fault}
use Rattle.automaton_format.proofs.Items.{filling_begins, filling_refused, filling_many, filling_goes_on, filling_done, item_below}
use Rattle.refusal.proofs.Passing.{passed_on}
use Rattle.automaton_read.proofs.fill.Goals as goal

pub loop-v-init : goal.loop-v-init
loop-v-init c = filling_begins _ _ _ _ _ _ _

pub returns-in_err-n : goal.returns-in_err-n
returns-in_err-n c =
    let p = filling_refused c.loop-v.invariant (number_positive _) _ c.in_err-n.ensures c.loop-v-test.true (number_never_0 _) in
    record { place = passed_on _ fault _ _ c.from_residual.ensures.1 ∙ p.0; out_after = set-get_or c.loop-v.out c.loop-v.v-index 0 ∙ p.1 }

pub returns-then-most-ones : goal.returns-then-most-ones
returns-then-most-ones c =
    let p = filling_many c.loop-v.invariant (number_positive _) (decoded c.in_ok-n.n) c.in_ok-n.ensures c.loop-v-test.true refl
    (rw c.one_more-ones.ensures at c.if-most-ones.true) in
    record { place = p.0; out_after = set-get_or c.loop-v.out c.loop-v.v-index 0 ∙ p.1 }

pub overflow_cast-v : goal.overflow_cast-v
overflow_cast-v c =
    omega (arith, item_below _ _ 0 [] _ _ (decoded c.in_ok-n.n) (number_positive _) c.in_ok-n.ensures refl)

pub loop-v-preserved : goal.loop-v-preserved
loop-v-preserved c =
    rw c.one_more-ones.ensures
    (filling_goes_on c.loop-v.invariant (number_positive _) (decoded c.in_ok-n.n) c.in_ok-n.ensures c.loop-v-test.true
    refl (rw c.one_more-ones.ensures at c.if-most-ones.false))

pub returns : goal.returns
returns c =
    let p = filling_done c.loop-v.invariant (number_positive _) c.loop-v-test.false in
    record { place = p.0; out_after = p.1 }
