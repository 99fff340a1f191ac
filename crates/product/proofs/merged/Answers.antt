use Prim.Native.Nat.{ℕ, ◌+◌, ◌*◌}
use mathlib.Core.Path.{◌≡◌, sym, ◌∙◌, ap₂, subst}
use Rattle.base.specs.Pad.{pad}
use Rattle.product_rule.specs.Pairs.{pair_flags, pair_states, StatesFit}
use Rattle.product_rule.specs.Product.{product_of, pairs_count}
use Rattle.product_rule.proofs.Answers.{few-pairs, first_facts, second_facts, initial_byte, next-bytes}
use native.Mathlib.Omega.{arith}
use Rattle.product.proofs.merged.Goals as goal
use Rattle.product.proofs.merged.Goals.{After-from, Start}

-- how many pairs there are, as the code counts them
pairs-are : (c : After-from) → c.from.result * c.from-n.result ≡ pairs_count c.args.a.now c.args.b.now
pairs-are c = rw (c.from.ensures, c.from-n.ensures)

-- the next states of the pairs are bytes
abbrev Bytes : (c : Start) → ℕ → ℕ → Type 0
Bytes c = StatesFit c.args.a.now.next c.args.b.now.next c.args.b.now.states

pub overflow_mul-pairs : goal.overflow_mul-pairs
overflow_mul-pairs c = omega (arith, pairs-are c, few-pairs _ _ c.requires)

pub pair_flags-accepting-requires : goal.pair_flags-accepting-requires
pair_flags-accepting-requires c =
    (omega (arith, c.from-n.ensures, (second_facts _ _ c.requires).states-low), omega (arith, pairs-are (goal.at.pair_flags-accepting-requires c).After-from, few-pairs _ _ c.requires))

pub pair_states-next-requires : goal.pair_states-next-requires
pair_states-next-requires c =
    let few = few-pairs _ _ c.requires in record {
      n_nonzero = (omega (arith, (second_facts _ _ c.requires).states-low), omega (arith, c.from-2.ensures, (first_facts _ _ c.requires).symbols-high), omega (arith, pairs-are (goal.at.pair_states-next-requires c).After-from, few));
      states_fit = subst (λ m. Bytes (goal.at.pair_states-next-requires c).Start m (c.from.result * c.from-n.result)) (sym c.from-2.ensures)
          (subst (Bytes (goal.at.pair_states-next-requires c).Start c.args.a.now.symbols) (sym (pairs-are (goal.at.pair_states-next-requires c).After-from)) (next-bytes _ _ c.requires));
    }

pub overflow_cast-result : goal.overflow_cast-result
overflow_cast-result c = omega (arith, pairs-are (goal.at.overflow_cast-result c).After-from, few-pairs _ _ c.requires)

pub overflow_mul-result : goal.overflow_mul-result
overflow_mul-result c = omega (arith, initial_byte _ _ c.requires)

pub overflow_add-result : goal.overflow_add-result
overflow_add-result c = omega (arith, initial_byte _ _ c.requires)

pub returns : goal.returns
unfolding product_of
returns c =
    let a = c.args in
    let flags = c.pair_flags-accepting.ensures ∙ ap₂ (λ n k. pad 32 (pair_flags a.a.now.accepting a.b.now.accepting n k)) c.from-n.ensures (pairs-are (goal.at.returns c).After-from) in
    let next = c.pair_states-next.ensures ∙ ap₂ (λ m k. pad 512 (pair_states a.a.now.next a.b.now.next a.b.now.states m k)) c.from-2.ensures (pairs-are (goal.at.returns c).After-from) in
    let states = pairs-are (goal.at.returns c).After-from in
    let capacity = c.min.ensures in
    λ i. record {
      states = states i;
      symbols = a.a.now.symbols;
      capacity = capacity i;
      initial = a.a.now.initial * a.b.now.states + a.b.now.initial;
      classes = a.a.now.classes;
      accepting = flags i;
      next = next i;
    }
