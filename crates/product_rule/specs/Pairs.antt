-- Pairs of states over the arrays of two records, the second of n states. Inner functions are lent
-- these and not the records.
use Rattle.std.specs.Prelude.{ℕ, ◌+◌, ◌*◌, ◌/◌, ◌%◌, ◌<◌, Bool, cond, ◌&&◌, List, get_or, eqb}
use Rattle.base.specs.Each.{each}
use Rattle.base.specs.Pad.{pad}
use Rattle.base.specs.Tabulate.{tabulate, blocks}
use Rattle.automaton.specs.Arrays.{accepting_at, goes}

-- the number of a pair of states: first state × second count + second state
abbrev pub pair : ℕ → ℕ → ℕ → ℕ
pair n p q = p * n + q

-- the pair of p and q accepts: both do
abbrev pub both_accept : List ℕ → List ℕ → ℕ → ℕ → Bool
both_accept first second p q = accepting_at first p && accepting_at second q

-- the flags of the pairs; pair r is that of r / n and r % n
unfoldable pub pair_flags : List ℕ → List ℕ → ℕ → ℕ → List ℕ
pair_flags first second n pairs = tabulate pairs (λ r. cond (both_accept first second (r / n) (r % n)) 1 0)

-- the next states of the pair of p and q under m symbols: the pairs of their next ones
unfoldable pub pair_next : List ℕ → List ℕ → ℕ → ℕ → ℕ → ℕ → List ℕ
pair_next first second n m p q = tabulate m (λ e. pair n (goes first p e) (goes second q e))

-- those of each pair, 16 places for each
unfoldable pub pair_states : List ℕ → List ℕ → ℕ → ℕ → ℕ → List ℕ
pair_states first second n m pairs = blocks pairs (λ r. pad 16 (pair_next first second n m (r / n) (r % n)))

-- their numbers are bytes
abbrev pub NextFits : List ℕ → List ℕ → ℕ → ℕ → ℕ → ℕ → Type 0
NextFits first second n m p q = (e : ℕ) → e < m → pair n (goes first p e) (goes second q e) < 256

abbrev pub StatesFit : List ℕ → List ℕ → ℕ → ℕ → ℕ → Type 0
StatesFit first second n m pairs = (r : ℕ) → r < pairs → NextFits first second n m (r / n) (r % n)

-- the first m symbols have the same classes
unfoldable pub same_classes : List ℕ → List ℕ → ℕ → Bool
same_classes first second m = each m (λ e. eqb (get_or first e 0) (get_or second e 0))
