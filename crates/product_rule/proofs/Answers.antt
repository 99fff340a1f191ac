-- Laws of the call: its rows one by one, and where none refuses that the numbers of pairs are
-- bytes.
use Prim.Native.Nat.{◌/◌, ◌%◌, ◌<◌, ◌≤◌}
use mathlib.Core.Path.{◌≡◌}
use mathlib.Core.Bool.{true, false}
use native.Mathlib.Omega.{arith}
use lib.Arith.{digits_lt}
use borrow.Author.Tests.{lt-ltb, le-ltb, eq-eqb, ne_eqb}
use Rattle.base.specs.Rows.{first}
use Rattle.automaton.specs.declared.Automaton.{Automaton}
use Rattle.automaton.specs.Automaton.{step, valid}
use Rattle.automaton.proofs.Facts.{Valid, valid_facts, step_high}
use Rattle.product_rule.specs.Pairs.{pair, same_classes, StatesFit}
use Rattle.product_rule.specs.Product.{pairs_count, same_symbols, product_refusal}
use Rattle.product_rule.proofs.Rows.{product-rows_as_worded}

module _ (a b : Automaton) where
  pub first-refused : valid a ≡ false → 11 ≡ product_refusal a b
  unfolding first product_refusal
  first-refused h = rw h

  module _ (va : valid a ≡ true) where
    pub second-refused : valid b ≡ false → 11 ≡ product_refusal a b
    unfolding first product_refusal
    second-refused h = rw (va, h)

    module _ (vb : valid b ≡ true) where
      pub number-refused : (a.symbols ≡ b.symbols → ⊥) → 24 ≡ product_refusal a b
      unfolding first product_refusal same_symbols
      number-refused h = rw (va, vb, ne_eqb a.symbols b.symbols h)

      module _ (same : a.symbols ≡ b.symbols) where
        pub class-refused : same_classes a.classes b.classes a.symbols ≡ false → 24 ≡ product_refusal a b
        unfolding first product_refusal same_symbols
        class-refused h = rw (va, vb, eq-eqb a.symbols b.symbols same, h)

        module _ (alike : same_classes a.classes b.classes a.symbols ≡ true) where
          pub many_refused : 32 < pairs_count a b → 25 ≡ product_refusal a b
          unfolding first product_refusal same_symbols
          many_refused h = rw (va, vb, eq-eqb a.symbols b.symbols same, alike, lt-ltb 32 (pairs_count a b) h)

          pub none-refuses : pairs_count a b ≤ 32 → 0 ≡ product_refusal a b
          unfolding first product_refusal same_symbols
          none-refuses h = rw (va, vb, eq-eqb a.symbols b.symbols same, alike, le-ltb 32 (pairs_count a b) h)

-- where no row refuses
module _ (a b : Automaton) (h : product_refusal a b ≡ 0) where
  pub few-pairs : pairs_count a b ≤ 32
  few-pairs = ((product-rows_as_worded a b).none.0 h).1

  pub first_facts : Valid a
  first_facts = valid_facts a ((product-rows_as_worded a b).none.0 h).0.first-valid

  pub second_facts : Valid b
  second_facts = valid_facts b ((product-rows_as_worded a b).none.0 h).0.second-valid

  pub initial_byte : pair b.states a.initial b.initial < 256
  initial_byte = omega (arith, few-pairs, digits_lt first_facts.initial-below second_facts.initial-below)

  pub next-bytes : StatesFit a.next b.next b.states a.symbols (pairs_count a b)
  unfolding step
  next-bytes r _ e l =
      let s : e < 16 = omega (arith, first_facts.symbols-high) in
      omega (arith, few-pairs, digits_lt (step_high first_facts (r / b.states) e s) (step_high second_facts (r % b.states) e s))
