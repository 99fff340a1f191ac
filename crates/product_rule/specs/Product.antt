-- The product of two automata (document 02, Card 6: two sheets, both to be obeyed, merged into
-- one), and its rows.
use Rattle.std.specs.Prelude.{ℕ, ◌*◌, min, Bool, not, cond, ◌&&◌, [], ◌∷◌, eqb, ltb}
use Rattle.base.specs.Rows.{first}
use Rattle.base.specs.Pad.{pad}
use Rattle.automaton.specs.declared.Automaton.{Automaton}
use Rattle.automaton.specs.Automaton.{valid, blank}
use Rattle.product_rule.specs.Pairs.{pair, pair_flags, pair_states, same_classes}

-- The product (refusal 0), or the refusing row with an all-zero record.
pub record Product : Type 0 where
  pub refusal : ℕ
  pub automaton : Automaton

abbrev pub product_made : Automaton → Product
product_made c = record { refusal = 0; automaton = c }

abbrev pub product_refused : ℕ → Product
product_refused row = record { refusal = row; automaton = blank }

-- how many pairs of states there are
abbrev pub pairs_count : Automaton → Automaton → ℕ
pairs_count a b = a.states * b.states

-- The merged record: its states are the pairs; a pair accepts where both its states do; each
-- symbol leads from a pair to the pair of where it leads from both; the capacity (document 02's
-- hold) is the smaller one. Symbols and classes are the same in both.
unfoldable pub product_of : Automaton → Automaton → Automaton
product_of a b =
    record {
      states = pairs_count a b;
      symbols = a.symbols;
      capacity = min a.capacity b.capacity;
      initial = pair b.states a.initial b.initial;
      classes = a.classes;
      accepting = pad 32 (pair_flags a.accepting b.accepting b.states (pairs_count a b));
      next = pad 512 (pair_states a.next b.next b.states a.symbols (pairs_count a b));
    }

-- the same number of symbols (document 02's kinds), of the same classes
unfoldable pub same_symbols : Automaton → Automaton → Bool
same_symbols a b = eqb a.symbols b.symbols && same_classes a.classes b.classes a.symbols

-- the rows: 11 for the first, 11 for the second, 24, 25
unfoldable pub product_refusal : Automaton → Automaton → ℕ
product_refusal a b =
    first
    ((11, not (valid a)) ∷
    (11, not (valid b)) ∷
    (24, not (same_symbols a b)) ∷
    (25, ltb 32 (pairs_count a b)) ∷ [])

-- the answer; a refused one has an all-zero record
unfoldable pub product_answer : Automaton → Automaton → Product
product_answer a b =
    cond (eqb (product_refusal a b) 0)
    (record { refusal = 0; automaton = product_of a b })
    (record { refusal = product_refusal a b; automaton = blank })
