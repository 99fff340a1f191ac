-- What the check of rows 11 and 12 hands back.
use Rattle.std.specs.Prelude.{cond, List, ℕ, replicate}
use Rattle.automaton.specs.declared.Automaton.{Automaton}
use Rattle.automaton.specs.Automaton.{valid}
use Rattle.automaton_symbols.specs.Symbols.{ranking_of}
use Rattle.monitor_answers.specs.Answers.{table_refusal}
pub use Rattle.monitor_entry.specs.declared.Entry.{Entry}

-- rows 11 and 12, and the ranking of a valid automaton's symbols
unfoldable pub entry_of : Automaton → List ℕ → Entry
entry_of a t =
    record {
      refusal = table_refusal a t;
      ranking = cond (valid a) (ranking_of a.classes a.symbols) (record { count = 0; ranks = replicate 16 0 });
    }
