-- Front parts of a buffer, the numbers of what they leave and the sets for it: what the release's
-- functions hand back and ask. They are lent arrays of the automaton instead of the whole of it.
use Rattle.std.specs.Prelude.{ℕ, ◌+◌, ◌-◌, ◌*◌, ◌^◌, ◌<◌, ◌≤◌, Bool, cond, List, [], ◌∷◌, map, length, get_or, take, drop, eqb}
use Rattle.base.specs.Masks.{has}
use Rattle.automaton.specs.declared.Automaton.{Automaton}
use Rattle.automaton.specs.Automaton.{reached}
use Rattle.monitor_rule.specs.Step.{Rest, qualifies, qualifying, release}
pub use Rattle.monitor_rule.specs.declared.Found.{Found}
pub use Rattle.monitor_rule.specs.declared.Front.{Front}

-- the number of a buffer, by ranks from 1: shorter buffers, then base k, in one sum
unfoldable pub index_in : List ℕ → ℕ → List ℕ → ℕ
index_in ranks k [] = 0
index_in ranks k (e ∷ w) = get_or ranks e 0 * k ^ length w + index_in ranks k w

-- may the monitor rest, by a table's bits at those numbers?
unfoldable pub rest_in : List ℕ → List ℕ → ℕ → Rest
rest_in t ranks k w q = has (get_or t (2 * index_in ranks k w) 0) q

-- the sets that a table has for what each front part leaves, in turn from the empty front part
unfoldable pub winning_sets : List ℕ → List ℕ → ℕ → List ℕ → List ℕ
winning_sets t ranks k [] = get_or t (2 * index_in ranks k []) 0 ∷ []
winning_sets t ranks k (e ∷ w) = get_or t (2 * index_in ranks k (e ∷ w)) 0 ∷ winning_sets t ranks k w

-- may the monitor rest with what is left of n events, by the sets for what each front part leaves?
unfoldable pub rest_among : List ℕ → ℕ → Rest
rest_among winning n w q = has (get_or winning (n - length w) 0) q

-- the class that a rank tells
abbrev pub class_by : ℕ → ℕ
class_by r = cond (eqb r 0) 0 1

-- the automaton of which only the ranks and the next states are lent: a ranked symbol is
-- controllable
abbrev pub over : List ℕ → List ℕ → Automaton
over ranks next =
    record {
      states = 0;
      symbols = 0;
      capacity = 0;
      initial = 0;
      classes = map class_by ranks;
      accepting = [];
      next = next;
    }

-- the longest front part that qualifies, where it leads, and whether it qualifies at all
unfoldable pub front : Rest → Automaton → ℕ → List ℕ → Front
front rest a q w =
    let k = release rest a q w in
    record { count = k; state = reached a q (take k w); rests = qualifies rest a q w k }

-- what the search leaves beside the list of lengths: how many qualify, and where the longest leads
unfoldable pub found_in : Rest → Automaton → ℕ → List ℕ → Found
found_in rest a q w = record { listed = length (qualifying rest a q w); state = (front rest a q w).state }

-- the same after one more front part, which leads to p, was asked
unfoldable pub kept_in : Bool → ℕ → Found → Found
kept_in qualifies p f = cond qualifies (record { listed = f.listed + 1; state = p }) f

-- what the release asks of its arguments
pub record ReleaseRequires (next ranks : List ℕ) (k : ℕ) (t : List ℕ) (q : ℕ) (buffer : List ℕ) (held : ℕ) : Type 0 where
  pub few : held ≤ 6
  pub radix : k ≤ 8
  pub rank-high : (e : ℕ) → get_or ranks e 0 ≤ 8
  pub state_low : q < 32
  pub next_low : (i : ℕ) → get_or next i 0 < 32
  pub symbol_low : (i : ℕ) → get_or buffer i 0 < 16
  pub long : (i : ℕ) → i ≤ held → 2 * index_in ranks k (drop i (take held buffer)) < length t
