-- One event for any configuration of an automaton and a table that rows 11 and 12 let pass, and
-- what it leaves in a lent output.
use Rattle.std.specs.Prelude.{ℕ, ◌+◌, Bool, cond, List, [], ◌++◌, length, eqb}
use Rattle.std.proofs.lemmas.List.Edits.{sets}
use Rattle.base.specs.Rows.{first}
use Rattle.automaton.specs.declared.Automaton.{Automaton}
use Rattle.configuration.specs.declared.Configuration.{Configuration}
use Rattle.configuration.specs.Configuration.{position_of, configuration}
use Rattle.monitor_rule.specs.Step.{by_table, effect_from, sources, advance, event_rows}
use Rattle.monitor_answers.specs.Answers.{configuration_rows}
pub use Rattle.monitor_answers.specs.declared.Turned.{Turned}

-- rows 13 to 15 and 23
unfoldable pub turn_rows : Automaton → List ℕ → Configuration → ℕ → List (ℕ × Bool)
turn_rows a t c e = configuration_rows a c ++ event_rows (by_table a t) a (position_of c) e

unfoldable pub turn_refusal : Automaton → List ℕ → Configuration → ℕ → ℕ
turn_refusal a t c e = first (turn_rows a t c e)

-- what is emitted and its places in the input, and the configuration after it; a refused event
-- emits nothing and changes nothing
unfoldable pub turn_emitted : Automaton → List ℕ → Configuration → ℕ → List ℕ
turn_emitted a t c e = cond (eqb (turn_refusal a t c e) 0) (effect_from (by_table a t) a (position_of c) e).emitted []

unfoldable pub turn_sources : Automaton → List ℕ → Configuration → ℕ → List ℕ
turn_sources a t c e = cond (eqb (turn_refusal a t c e) 0) (sources (by_table a t) a (position_of c) e) []

unfoldable pub turn_next : Automaton → List ℕ → Configuration → ℕ → Configuration
turn_next a t c e = cond (eqb (turn_refusal a t c e) 0) (configuration (advance (by_table a t) a (position_of c) e)) c

-- the answer where what is emitted is written from a place on, and the lent output afterwards
unfoldable pub turned : Automaton → List ℕ → Configuration → ℕ → ℕ → Turned
turned a t c e at =
    record { row = turn_refusal a t c e; configuration = turn_next a t c e; written = at + length (turn_emitted a t c e) }

unfoldable pub turned_buffer : Automaton → List ℕ → Configuration → ℕ → ℕ → List ℕ → List ℕ
turned_buffer a t c e at out = sets out at (turn_emitted a t c e)
