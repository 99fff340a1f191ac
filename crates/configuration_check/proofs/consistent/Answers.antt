use Prim.Native.Nat.{◌+◌}
use mathlib.Core.Path.{◌≡◌, sym, ◌∙◌}
use mathlib.Core.List.{map}
use lib.Dec.{eqb}
use lib.ListN.{length}
use native.Mathlib.Omega.{arith}
use borrow.Author.Rules.{rules}
use Rattle.base.proofs.Bools.{clash}
use Rattle.configuration_places.specs.Places.{input_number}
use Rattle.configuration.specs.Configuration.{inputs_stand}
use Rattle.configuration_check.proofs.Laws.{fails, decides}
use Rattle.configuration_check.proofs.consistent.Goals as goal

pub returns-then-states-c : goal.returns-then-states-c
returns-then-states-c c = fails _ _ _ _ _ (λ p. omega (arith, p.state_low))

pub returns-then-capacity-c : goal.returns-then-capacity-c
returns-then-capacity-c c = fails _ _ _ _ _ (λ p. omega (arith, p.few))

pub returns-then-not-counts_fit : goal.returns-then-not-counts_fit
returns-then-not-counts_fit c = let counts : let x = c.args.c in
    c.counts_fit.result ≡ eqb (x.emitted.0 + x.held) x.received.0 = rw c.from.ensures at c.counts_fit.ensures in
    fails _ _ _ _ _ (λ p. clash (counts ∙ p.counts) (c.if-not-counts_fit.true))

pub returns-then-not-inputs_stand : goal.returns-then-not-inputs_stand
returns-then-not-inputs_stand c = let inputs : let x = c.args.c in
    c.inputs_stand.result ≡ inputs_stand x.held x.received.0 (map input_number x.places) = rw c.from-held.ensures at c.inputs_stand.ensures.0 in
    fails _ _ _ _ _ (λ p. clash (inputs ∙ p.inputs) (c.if-not-inputs_stand.true))

pub returns : goal.returns
returns c = let long : length c.args.c.buffer ≡ 6 = search rules in
    let inputs : let x = c.args.c in
    c.inputs_stand.result ≡ inputs_stand x.held x.received.0 (map input_number x.places) = rw c.from-held.ensures at c.inputs_stand.ensures.0 in
    let counts : let x = c.args.c in
    c.counts_fit.result ≡ eqb (x.emitted.0 + x.held) x.received.0 = rw c.from.ensures at c.counts_fit.ensures in
    rw c.from-held.ensures at c.buffer_stands.ensures ∙
    decides _ _ _ _ _ (long) c.inputs_stand.ensures.1 (record {
      state_low = omega (arith, c.if-states-c.false);
      few = omega (arith, c.if-capacity-c.false);
      inputs = sym (inputs) ∙ c.if-not-inputs_stand.false;
      counts = sym (counts) ∙ c.if-not-counts_fit.false;
    })
