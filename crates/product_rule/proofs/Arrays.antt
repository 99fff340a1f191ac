-- The arrays of the product, from those of the parts.
use Prim.Native.Nat.{ℕ, ◌+◌, ◌*◌, ◌/◌, ◌%◌, ◌<◌, ◌≤◌}
use mathlib.Core.Path.{◌≡◌, ◌∙◌}
use mathlib.Core.Bool.{cond}
use mathlib.Core.List.{List}
use native.Mathlib.Omega.{arith}
use lib.ListN.{length, get_or}
use Rattle.base.specs.Pad.{pad}
use Rattle.base.proofs.Padding.{pad-length, pad-inside, pad-outside}
use Rattle.base.proofs.Tabulation.{tabulate-length, tabulate-at, blocks-length, blocks_at}
use Rattle.automaton.specs.Arrays.{goes}
use Rattle.product_rule.specs.Pairs.{pair, both_accept, pair_flags, pair_next, pair_states}

module _ (first second : List ℕ) (n pairs : ℕ) where
  -- flags
  flags_length : length (pair_flags first second n pairs) ≡ pairs
  unfolding pair_flags
  flags_length = tabulate-length pairs _

  pub flags_at : (r : ℕ) → r < pairs → get_or (pad 32 (pair_flags first second n pairs)) r 0 ≡ cond (both_accept first second (r / n) (r % n)) 1 0
  unfolding pair_flags
  flags_at r l =
      pad-inside 32 (pair_flags first second n pairs) r (omega (arith, flags_length)) ∙
      tabulate-at pairs (λ r. cond (both_accept first second (r / n) (r % n)) 1 0) r l

  pub flags_past : (r : ℕ) → pairs ≤ r → get_or (pad 32 (pair_flags first second n pairs)) r 0 ≡ 0
  flags_past r l = pad-outside 32 (pair_flags first second n pairs) r (omega (arith, flags_length))

  pub flags_size : pairs ≤ 32 → length (pad 32 (pair_flags first second n pairs)) ≡ 32
  flags_size l = pad-length 32 (pair_flags first second n pairs) (omega (arith, flags_length))

  -- next states, under m symbols
  module _ (m : ℕ) (few : m ≤ 16) where
    abbrev next_of : ℕ → List ℕ
    next_of r = pair_next first second n m (r / n) (r % n)

    abbrev block : ℕ → List ℕ
    block r = pad 16 (next_of r)

    next-length : (r : ℕ) → length (next_of r) ≡ m
    unfolding pair_next
    next-length r = tabulate-length m _

    wide : (r : ℕ) → length (block r) ≡ 16
    wide r = pad-length 16 (next_of r) (omega (arith, next-length r))

    abbrev states : List ℕ
    states = pair_states first second n m pairs

    states-length : length states ≡ pairs * 16
    unfolding pair_states
    states-length = blocks-length 16 block wide pairs

    states-at : (r e : ℕ) → r < pairs → e < 16 → goes (pad 512 states) r e ≡ get_or (block r) e 0
    unfolding pair_states
    states-at r e l h =
        pad-inside 512 states (r * 16 + e) (omega (arith, states-length)) ∙
        blocks_at 16 block wide pairs r e l h

    pub next-at : (r e : ℕ) → r < pairs → e < m → goes (pad 512 states) r e ≡ pair n (goes first (r / n) e) (goes second (r % n) e)
    unfolding pair_next
    next-at r e l h =
        states-at r e l (omega arith) ∙
        pad-inside 16 (next_of r) e (omega (arith, next-length r)) ∙
        tabulate-at m (λ e. pair n (goes first (r / n) e) (goes second (r % n) e)) e h

    pub next_no_symbol : (r e : ℕ) → r < pairs → m ≤ e → e < 16 → goes (pad 512 states) r e ≡ 0
    next_no_symbol r e l h s = states-at r e l s ∙ pad-outside 16 (next_of r) e (omega (arith, next-length r))

    pub next_no_pair : (r e : ℕ) → pairs ≤ r → goes (pad 512 states) r e ≡ 0
    next_no_pair r e l = pad-outside 512 states (r * 16 + e) (omega (arith, states-length))

    pub states-size : pairs ≤ 32 → length (pad 512 states) ≡ 512
    states-size l = pad-length 512 states (omega (arith, states-length))
