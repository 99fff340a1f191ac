use Prim.Native.Nat.{◌≤◌, ◌+◌, ◌*◌}
use lib.ListN.{length}
use Rattle.automaton.specs.Automaton.{valid}
use mathlib.Core.Bool.{true}
use mathlib.Core.Path.{◌≡◌, ◌∙◌, sym}
use Rattle.automaton.proofs.Facts.{valid_facts}
use Rattle.automaton_format.proofs.Storing.{numbers-length, states-small}
use Rattle.automaton_format.proofs.Outcomes.{write_invalid, write_short, write_fits}
use native.Mathlib.Omega.{arith}
use Rattle.automaton_write.proofs.write.Goals as goal
use Rattle.automaton_write.proofs.write.Goals.{Else-not-valid}

stands : (c : goal.Else-not-valid) → valid c.args.a.now ≡ true
stands c = sym c.valid.ensures ∙ c.if-not-valid.false

few : (c : goal.After-from-m) → c.from-n.result * c.from-m.result ≤ 512
few c = let stands : valid c.args.a.now ≡ true = sym c.valid.ensures ∙ c.if-not-valid.false in
    let v = valid_facts c.args.a.now (stands) in
    states-small c.from-n.result c.from-m.result
    (omega (arith, c.from-n.ensures, v.states-high)) (omega (arith, c.from-m.ensures, v.symbols-high))

pub returns-then-not-valid : goal.returns-then-not-valid
returns-then-not-valid c = write_invalid _ _ (sym c.valid.ensures ∙ c.if-not-valid.true)

pub overflow_mul-length : goal.overflow_mul-length
overflow_mul-length c = omega (arith, few c)

pub overflow_add-length-3 : goal.overflow_add-length-3
overflow_add-length-3 c = omega (arith, few c)

pub returns-then-out-length : goal.returns-then-out-length
returns-then-out-length c =
    write_short _ _ (stands (goal.at.returns-then-out-length c).Else-not-valid) (rw (c.from-n.ensures, c.from-m.ensures) at c.if-out-length.true)

pub store_numbers-requires : goal.store_numbers-requires
store_numbers-requires c = let fits : let a = c.args in
    4 + a.a.now.symbols + a.a.now.states + a.a.now.states * a.a.now.symbols ≤ length a.out.now = rw (c.from-n.ensures, c.from-m.ensures) at c.if-out-length.false in
    let a = c.args.a.now in
    (stands (goal.at.store_numbers-requires c).Else-not-valid, rw (numbers-length a (valid_facts a (stands (goal.at.store_numbers-requires c).Else-not-valid))) (fits))

pub returns : goal.returns
returns c = let fits : let a = c.args in
    4 + a.a.now.symbols + a.a.now.states + a.a.now.states * a.a.now.symbols ≤ length a.out.now = rw (c.from-n.ensures, c.from-m.ensures) at c.if-out-length.false in
    let a = c.args in
    let p = write_fits a.a.now a.out.now (stands (goal.at.returns c).Else-not-valid) (fits) in
    (rw (c.from-n.ensures, c.from-m.ensures) p.0, c.store_numbers.ensures ∙ p.1)
