-- A list of calls through the interface for C: demand 3 over lent bytes.
use Rattle.std.specs.Prelude.{ℕ, ◌≡◌, true, List, [], ◌∷◌, map, length}
use Rattle.automaton.specs.Automaton.{valid}
use Rattle.solver_sets.specs.Table.{Solved}
use Rattle.configuration.specs.Configuration.{initial_of}
use Rattle.enforcement.specs.Calls.{Call, receive_call, run_call, Reply, receive, run, replies}
use Rattle.enforcement.specs.Claims.{Enforced}
use Rattle.c_layout.specs.Offsets.{configuration_size}
use Rattle.c_layout.specs.Layout.{automaton_of, configuration_of}
use Rattle.c_layout.specs.Claims.{Bytes}
use Rattle.c_layout.specs.Calls.{Left, initial_bytes, received_left, ran_left, receive_leaves, run_leaves}

-- a reply of the calls by value, as it lies in bytes
unfoldable pub laid : Reply → Left
laid (receive x) = received_left x
laid (run x out) = ran_left x out

-- what a call leaves over the lent record, table and configuration: by the definitions that the
-- contracts of `jaxhophasi_receive` and `jaxhophasi_run` cite
unfoldable pub leaves : List ℕ → List ℕ → List ℕ → Call → Left
leaves record-bytes t c (receive_call e) = receive_leaves record-bytes t c e
leaves record-bytes t c (run_call es out) = run_leaves record-bytes t c es out

-- one after the other, each over the configuration's bytes that the last one left
unfoldable pub leaves_all : List ℕ → List ℕ → List ℕ → List Call → List Left
leaves_all record-bytes t c [] = []
leaves_all record-bytes t c (x ∷ xs) =
    leaves record-bytes t c x ∷ leaves_all record-bytes t (leaves record-bytes t c x).configuration xs

-- It is that list of calls by value, laid out in bytes, over any record, table and configuration
-- (lent bytes are below 256, as their type has them) ..
abbrev pub AsByValue : Type 0
AsByValue =
    (record-bytes t c : List ℕ) → length c ≡ configuration_size → Bytes c → (calls : List Call)
    → leaves_all record-bytes t c calls ≡ map laid (replies (automaton_of record-bytes) t (configuration_of c) calls)

-- .. so from what `jaxhophasi_initial` leaves in any lent bytes, over a record that row 11 lets
-- pass and its solved table, it is what demand 3 speaks of.
abbrev pub BytesEnforced : Type 0
BytesEnforced =
    (record-bytes t lent : List ℕ) → valid (automaton_of record-bytes) ≡ true → Solved (automaton_of record-bytes) t
    → (calls : List Call)
    → (leaves_all record-bytes t (initial_bytes record-bytes lent) calls
    ≡ map laid (replies (automaton_of record-bytes) t (initial_of (automaton_of record-bytes)) calls))
    × Enforced (automaton_of record-bytes) t calls
