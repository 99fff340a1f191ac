-- Rows 11 and 12, as the code finds them.
use Prim.Native.Nat.{ℕ, ◌+◌, ◌*◌, ◌<◌, ◌≤◌}
use mathlib.Core.Path.{◌≡◌, refl, sym, ◌∙◌, ap, ap₂}
use mathlib.Core.Bool.{true, false}
use mathlib.Core.List.{List}
use native.Mathlib.Numerals.{add-one}
use native.Mathlib.Omega.{arith}
use lib.ListN.{length, replicate}
use borrow.Author.Tests.{lt-ltb, le-ltb}
use Rattle.automaton.specs.declared.Automaton.{Automaton}
use Rattle.automaton.specs.Automaton.{controllable, controllables, valid}
use Rattle.automaton.specs.Arrays.{controllable_in}
use Rattle.automaton.proofs.Facts.{Valid}
use Rattle.solver_sets.specs.Table.{shorter, buffers_count, short}
use Rattle.monitor_answers.specs.Answers.{table_refusal}
use Rattle.monitor_answers.proofs.Turns.{Opened, opened, table_invalid, table-short, table_clear}
use Rattle.automaton_symbols.specs.declared.Ranking.{Ranking}
use Rattle.automaton_symbols.specs.Symbols.{ranking_of}
use Rattle.monitor_entry.specs.declared.Entry.{Entry}
use Rattle.monitor_entry.specs.Entries.{entry_of}

-- the count of a ranking
ranking_count : (a : Automaton) → (ranking_of a.classes a.symbols).count ≡ controllables a
unfolding ranking_of controllable_in controllables controllable
ranking_count a = refl

module _ (a : Automaton) (t : List ℕ) where
  pub entry_invalid : valid a ≡ false → record { refusal = 11; ranking = record { count = 0; ranks = replicate 16 0 } } ≡ entry_of a t
  unfolding entry_of
  entry_invalid v = rw (v, table_invalid a t v)

  module _ (v : valid a ≡ true) (r : Ranking) (e : r ≡ ranking_of a.classes a.symbols) where
    entry_row : (n : ℕ) → table_refusal a t ≡ n → record { refusal = n; ranking = r } ≡ entry_of a t
    unfolding entry_of
    entry_row n g = rw (e, v, g)

    -- the number of buffers, as it is counted
    module _ (buffers : ℕ) (b : buffers ≡ shorter r.count (a.capacity + 1)) where
      counted : 2 * buffers ≡ 2 * buffers_count a
      unfolding buffers_count
      counted =
          ap (λ x. 2 * x)
          (b ∙ ap₂ shorter (ap (λ (x : Ranking). x.count) e ∙ ranking_count a) (add-one a.capacity))

      pub entry_short : length t < 2 * buffers → record { refusal = 12; ranking = r } ≡ entry_of a t
      unfolding short
      entry_short h =
          let k : length t < 2 * buffers_count a = omega (arith, counted) in
          entry_row 12 (table-short a t v (lt-ltb (length t) (2 * buffers_count a) k))

      pub entry_clear : 2 * buffers ≤ length t → record { refusal = 0; ranking = r } ≡ entry_of a t
      unfolding short
      entry_clear h = entry_row 0 (table_clear a t v (le-ltb (length t) (2 * buffers_count a) (omega (arith, counted))))

-- the ranking of a valid automaton counts at most eight symbols
pub ranking_few : (a : Automaton) → Valid a → (r : Ranking) → r ≡ ranking_of a.classes a.symbols → r.count ≤ 8
ranking_few a v r e = omega (arith, ap (λ (x : Ranking). x.count) e ∙ ranking_count a, v.controllables-high)

-- what `enter` hands over
pub entered : (a : Automaton) (t : List ℕ) (n : Entry) → n ≡ entry_of a t → n.refusal ≡ table_refusal a t
unfolding entry_of
entered a t n e = ap (λ (x : Entry). x.refusal) e

pub entered_opened : (a : Automaton) (t : List ℕ) (n : Entry) → n ≡ entry_of a t → n.refusal ≡ 0
    → Opened a t × (n.ranking ≡ ranking_of a.classes a.symbols)
unfolding entry_of
entered_opened a t n e z =
    let o = opened a t (sym (entered a t n e) ∙ z) in
    (o, ap (λ (x : Entry). x.ranking) e ∙ rw o.record_valid)
