-- The records that calls answer with, in their bytes.
use mathlib.Core.Path.{◌≡◌, refl, ◌∙◌, ap}
use Prim.Native.Nat.{ℕ}
use mathlib.Core.Bool.{true}
use mathlib.Core.List.{List}
use lib.ListN.{replicate}
use lib.Dec.{eqb}
use borrow.Author.Tests.{eqb-true, eqb-false}
use Rattle.base.proofs.Bools.{by, and-pair}
use Rattle.automaton.specs.declared.Automaton.{Automaton}
use Rattle.automaton.specs.Automaton.{shaped, valid, blank}
use Rattle.automaton_format.specs.Reading.{parse}
use Rattle.automaton_format.proofs.Faults.{parse-sound, refused-blank}
use Rattle.automaton_format.proofs.Trips.{read-is-valid}
use Rattle.product_rule.specs.Product.{product_answer}
use Rattle.product_rule.proofs.Merged.{product-answered_as_worded}
use Rattle.c_layout.specs.Offsets.{automaton_size}
use Rattle.c_layout.specs.Layout.{automaton_bytes}
use Rattle.c_layout.specs.Claims.{AutomataHandedOn, RefusedAutomataZero}
use Rattle.c_layout.proofs.Trips.{automaton-kept}

pub blank-zeros : automaton_bytes blank ≡ replicate automaton_size 0
unfolding automaton_bytes
blank-zeros = refl

valid-shaped : (a : Automaton) → valid a ≡ true → shaped a ≡ true
unfolding valid
valid-shaped a h = (and-pair (shaped a) _ h).0

blank-shaped : shaped blank ≡ true
unfolding shaped
blank-shaped = refl

-- what is answered: the product, which row 11 lets pass, or the blank record
product-shaped : (a b : Automaton) → shaped (product_answer a b).automaton ≡ true
product-shaped a b =
    let x = product_answer a b in
    let k = (product-answered_as_worded a b).0 in
    by (eqb x.refusal 0)
    (λ e. valid-shaped x.automaton (k.made (eqb-true x.refusal 0 e)).passes)
    (λ e. rw (k.refused (eqb-false x.refusal 0 e)) blank-shaped)

-- .. and by a read
read-shaped : (s : List ℕ) → shaped (parse s).automaton ≡ true
read-shaped s =
    by (eqb (parse s).refusal 0)
    (λ e. valid-shaped (parse s).automaton (read-is-valid s (parse s).automaton ((parse-sound s).whole (eqb-true (parse s).refusal 0 e))))
    (λ e. rw (refused-blank s (eqb-false (parse s).refusal 0 e)) blank-shaped)

pub automata_handed_on : AutomataHandedOn
automata_handed_on =
    record {
      read = λ s. automaton-kept (parse s).automaton (read-shaped s);
      product = λ a b. automaton-kept (product_answer a b).automaton (product-shaped a b);
    }

pub refused_automata_zero : RefusedAutomataZero
refused_automata_zero =
    record {
      read = λ s h. ap automaton_bytes (refused-blank s h) ∙ blank-zeros;
      product = λ a b h. ap automaton_bytes ((product-answered_as_worded a b).0.refused h) ∙ blank-zeros;
    }
