-- The monitor of a product and those of its parts (document 02, Card 6: "wherever the merged gate
-- may rest with a held list, each part may rest there"), as the calls answer.
use Rattle.std.specs.Prelude.{ℕ, ◌/◌, ◌%◌, ◌≡◌, true, List}
use Rattle.automaton.specs.declared.Automaton.{Automaton}
use Rattle.solver_sets.specs.Table.{Solved}
use Rattle.configuration.specs.declared.Configuration.{Configuration}
use Rattle.monitor_answers.specs.Answers.{status}
use Rattle.product_rule.specs.Product.{product_of, product_refusal}

-- the same held events, places and counts in another state
abbrev pub in_state : Configuration → ℕ → Configuration
in_state c q =
    record { state = q; held = c.held; buffer = c.buffer; places = c.places; received = c.received; emitted = c.emitted }

-- Where a configuration of the product is winning (document 01's guarded) over a solved table, so
-- is each part in its own state of the pair, over its own solved table. (No row refuses either: a
-- refused answer is not winning.)
abbrev pub PartsWin : Type 0
PartsWin =
    (a b : Automaton) → product_refusal a b ≡ 0 → (t ta tb : List ℕ) → Solved (product_of a b) t → Solved a ta → Solved b tb
    → (c : Configuration) → (status (product_of a b) t c).winning ≡ true
    → ((status a ta (in_state c (c.state / b.states))).winning ≡ true)
    × ((status b tb (in_state c (c.state % b.states))).winning ≡ true)
