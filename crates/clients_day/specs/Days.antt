-- What the functions over a lent list of configurations ask and promise: over the parts of an
-- automaton and marks, for any automaton whose parts and marks these are.
use Rattle.std.specs.Prelude.{ℕ, ◌+◌, ◌<◌, ◌≤◌, ◌≡◌, List, [], ◌∷◌, map, length, get_or}
use Rattle.automaton.specs.declared.Automaton.{Automaton}
use Rattle.configuration.specs.declared.Configuration.{Configuration}
use Rattle.monitor_loop.specs.declared.Limits.{Limits}
use Rattle.monitor_loop.specs.Lending.{Lends}
use Rattle.clients_answers.specs.declared.RanFor.{RanFor}
use Rattle.clients_answers.specs.Clients.{none, max_clients, held_in_all}
use Rattle.clients_answers.specs.Loop.{day_from}
use Rattle.clients_entry.specs.Entries.{held_in_by, mark_by, mark_of}

-- how many events all of them hold for row 16, by the parts that row 13 reads
unfoldable pub held_in_all_by : Limits → List ℕ → List Configuration → ℕ
held_in_all_by l classes [] = 0
held_in_all_by l classes (c ∷ cs) = held_in_by l classes c + held_in_all_by l classes cs

-- the mark of each, by the same parts
unfoldable pub marks_by : Limits → List ℕ → List Configuration → List ℕ
marks_by l classes cs = map (mark_by l classes) cs

-- for an automaton, at each client's place the mark of its configuration
abbrev pub Marked : Automaton → List ℕ → List Configuration → Type 0
Marked a marks cs = (k : ℕ) → k < length cs → get_or marks k 0 ≡ mark_of a (get_or cs k none)

-- what `process` asks: rows 11, 12 and 20 passed, by some such automaton, the marks of all, and
-- row 16
pub record DayRequires (l : Limits) (marks next ranks t : List ℕ) (cs : List Configuration) (vs : List ℕ) (size : ℕ)
    : Type 0 where
  pub automaton : Automaton
  pub lends : Lends automaton l next ranks t
  pub few : length cs ≤ max_clients
  pub marked : Marked automaton marks cs
  pub room : length vs + held_in_all automaton cs ≤ size

-- a day's events in turn, from the front of the lent output on
abbrev pub Days : Limits → List ℕ → List ℕ → List ℕ → List ℕ → List Configuration → List ℕ → List ℕ → RanFor → List Configuration
    → List ℕ → Type 0
Days l marks next ranks t cs vs out r cs' out' =
    (a : Automaton) → Lends a l next ranks t → Marked a marks cs
    → let d = day_from a t cs out 0 0 vs in
    (r ≡ record { refusal = 0; length = d.written; refused = d.refused }) × (cs' ≡ d.clients) × (out' ≡ d.out)
