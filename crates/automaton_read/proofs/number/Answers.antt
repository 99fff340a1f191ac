use Rattle.std.proofs.Common.{rules, ◌≡◌, ◌∙◌, ◌&&◌, sym, leb, ltb, ap, refl}
use Rattle.refusal.specs.Numbers.{number}
use Rattle.refusal.proofs.Numbers.{number_never_0}
use Rattle.varint.specs.Varint.{Number, decoded, fault}
use Rattle.automaton_format.specs.Reading.{between, checked}
use Rattle.automaton_format.proofs.Items.{checked-unread, checked-fits, checked_faults}
use Rattle.refusal.proofs.Passing.{passed_on}
use Rattle.automaton_read.proofs.number.Goals as goal

pub returns-in_err-n : goal.returns-in_err-n
returns-in_err-n c =
    let a = c.args in
    passed_on _ fault _ _ c.from_residual.ensures.1 ∙
    sym (checked-unread (between a.low a.limit (number a.refusal)) a.at _ (number_never_0 _)) ∙
    ap (λ (n : Number). checked (between a.low a.limit (number a.refusal)) a.at n) c.in_err-n.ensures

pub returns-then-contains : goal.returns-then-contains
unfolding between
returns-then-contains c =
    let a = c.args in
    let inside : c.contains.result ≡ (leb a.low c.in_ok-n.n.value && ltb c.in_ok-n.n.value a.limit) = search rules in
    sym (checked-fits (between a.low a.limit (number a.refusal)) a.at (decoded c.in_ok-n.n) refl (rw (sym inside ∙ c.if-contains.true))) ∙
    ap (λ (n : Number). checked (between a.low a.limit (number a.refusal)) a.at n) c.in_ok-n.ensures

pub returns-else-contains : goal.returns-else-contains
unfolding between
returns-else-contains c =
    let a = c.args in
    let outside : c.contains.result ≡ (leb a.low c.in_ok-n.n.value && ltb c.in_ok-n.n.value a.limit) = search rules in
    let row : between a.low a.limit (number a.refusal) c.in_ok-n.n.value ≡ number a.refusal = rw (sym outside ∙ c.if-contains.false) in
    ap (λ k. fault k a.at) (sym row) ∙
    sym (checked_faults (between a.low a.limit (number a.refusal)) a.at (decoded c.in_ok-n.n) refl (λ z. number_never_0 a.refusal (sym row ∙ z))) ∙
    ap (λ (n : Number). checked (between a.low a.limit (number a.refusal)) a.at n) c.in_ok-n.ensures
