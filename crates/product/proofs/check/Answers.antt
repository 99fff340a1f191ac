use Prim.Native.Nat.{◌*◌, ◌≤◌}
use mathlib.Core.Path.{◌≡◌, sym, ◌∙◌}
use mathlib.Core.Bool.{true}
use Rattle.automaton.specs.Automaton.{valid}
use Rattle.automaton.proofs.Facts.{valid_facts}
use Rattle.product_rule.specs.Pairs.{same_classes}
use Rattle.product_rule.proofs.Answers.{first-refused, second-refused, number-refused, class-refused, many_refused, none-refuses}
use native.Mathlib.Nat.{mul-le-mul}
use native.Mathlib.Omega.{arith}
use Rattle.product.proofs.check.Goals as goal
use Rattle.product.proofs.check.Goals.{Else-not-same_classes, Else-not-valid}

first_passes : (c : goal.Else-not-valid) → valid c.args.a.now ≡ true
first_passes c = sym c.valid.ensures ∙ c.if-not-valid.false

classes-same : (c : goal.Else-not-same_classes) → let a = c.args in same_classes a.a.now.classes a.b.now.classes a.a.now.symbols ≡ true
classes-same c = rw c.from.ensures at (sym c.same_classes.ensures ∙ c.if-not-same_classes.false)

pub returns-then-not-valid : goal.returns-then-not-valid
returns-then-not-valid c = first-refused _ _ (sym c.valid.ensures ∙ c.if-not-valid.true)

pub returns-then-not-valid-2 : goal.returns-then-not-valid-2
returns-then-not-valid-2 c = second-refused _ _ (first_passes (goal.at.returns-then-not-valid-2 c).Else-not-valid) (sym c.valid-2.ensures ∙ c.if-not-valid-2.true)

pub returns-then-a-b : goal.returns-then-a-b
returns-then-a-b c = let second-passes : valid c.args.b.now ≡ true = sym c.valid-2.ensures ∙ c.if-not-valid-2.false in
    number-refused _ _ (first_passes (goal.at.returns-then-a-b c).Else-not-valid) (second-passes) c.if-a-b.true

pub same_classes-requires : goal.same_classes-requires
same_classes-requires c = let first-valid : valid c.args.a.now ≡ true = first_passes (goal.at.same_classes-requires c).Else-not-valid in
    omega (arith, c.from.ensures, (valid_facts _ (first-valid)).symbols-high)

pub returns-then-not-same_classes : goal.returns-then-not-same_classes
returns-then-not-same_classes c = let first-valid : valid c.args.a.now ≡ true = first_passes (goal.at.returns-then-not-same_classes c).Else-not-valid in
    let second-passes : valid c.args.b.now ≡ true = sym c.valid-2.ensures ∙ c.if-not-valid-2.false in
    let numbers-same : c.args.a.now.symbols ≡ c.args.b.now.symbols = omega arith in
    let differ = rw c.from.ensures at (sym c.same_classes.ensures ∙ c.if-not-same_classes.true) in
    class-refused _ _ (first-valid) (second-passes) (numbers-same) differ

pub overflow_mul-from : goal.overflow_mul-from
overflow_mul-from c =
    let n : c.from-2.result ≤ 255 = omega arith in
    let k : c.from-3.result ≤ 255 = omega arith in
    let p : c.from-2.result * c.from-3.result ≤ 255 * 255 = mul-le-mul n k in
    omega (arith, p)

pub returns-then-from-gt32 : goal.returns-then-from-gt32
returns-then-from-gt32 c = let first-valid : valid c.args.a.now ≡ true = first_passes (goal.at.returns-then-from-gt32 c).Else-not-valid in
    let second-passes : valid c.args.b.now ≡ true = sym c.valid-2.ensures ∙ c.if-not-valid-2.false in
    let numbers-same : c.args.a.now.symbols ≡ c.args.b.now.symbols = omega arith in
    let count = rw (c.from-2.ensures, c.from-3.ensures) at c.if-from-gt32.true in
    many_refused _ _ (first-valid) (second-passes) (numbers-same) (classes-same (goal.at.returns-then-from-gt32 c).Else-not-same_classes) count

pub returns : goal.returns
returns c = let first-valid : valid c.args.a.now ≡ true = first_passes (goal.at.returns c).Else-not-valid in
    let second-passes : valid c.args.b.now ≡ true = sym c.valid-2.ensures ∙ c.if-not-valid-2.false in
    let numbers-same : c.args.a.now.symbols ≡ c.args.b.now.symbols = omega arith in
    let count = rw (c.from-2.ensures, c.from-3.ensures) at c.if-from-gt32.false in
    none-refuses _ _ (first-valid) (second-passes) (numbers-same) (classes-same (goal.at.returns c).Else-not-same_classes) count
