-- The calls' rows, in document 01's words.
use Prim.Native.Nat.{ℕ, ◌+◌, ◌≤◌}
use mathlib.Core.Path.{◌≡◌, refl, sym}
use mathlib.Core.Logic.Iff
use mathlib.Core.Logic.{◌↔◌}
use mathlib.Core.Bool.{Bool, true, false, not}
use mathlib.Core.List.{List, [], ◌∷◌, ◌++◌}
use native.Mathlib.Omega.{arith}
use lib.ListN.{length}
use borrow.Author.Tests.{ltb-true, ltb-false, lt-ltb, le-ltb}
use Rattle.base.specs.Rows.{first}
use Rattle.base.proofs.Bools.{by, either}
use Rattle.base.proofs.Refusals.{first_never, first-own, first-later, contrary}
use Rattle.automaton.specs.declared.Automaton.{Automaton}
use Rattle.automaton.specs.Automaton.{valid}
use Rattle.solver_sets.specs.Table.{short}
use Rattle.configuration_places.specs.Places.{input_number}
use Rattle.configuration.specs.declared.Configuration.{Configuration}
use Rattle.configuration.specs.Configuration.{held_events, position_of, consistent}
use Rattle.monitor_rule.specs.Step.{by_table, event_rows, event_refusal}
use Rattle.monitor_rule.specs.Claims.{RowsOfEvent, Tabled}
use Rattle.monitor_rule.proofs.Rows.{event-number, event-rows_as_worded}
use Rattle.monitor_answers.specs.Answers.{table_rows, configuration_rows, call_rows, call_refusal, receive_refusal, room, too_short, run_refusal}
use Rattle.monitor_answers.specs.Claims.{CallRows, Clear, RowOfRun}
use Rattle.monitor_answers.specs.Claims.{StatusRowsAsWorded, ReceiveRowsAsWorded, RoomAsWorded, RunRowsAsWorded}

-- rows 11 and 12, and then others
module _ (a : Automaton) (t : List ℕ) (more : List (ℕ × Bool)) where
  abbrev given : ℕ
  given = first (table_rows a t ++ more)

  abbrev later : List (ℕ × Bool)
  later = (12, short a t) ∷ more

  pub row_11 : (first more ≡ 11 → ⊥) → (given ≡ 11) ↔ (valid a ≡ false)
  unfolding table_rows
  row_11 z =
      first-own 11 (not (valid a)) later (contrary (valid a)).0 (contrary (valid a)).1
      (first_never 12 (short a t) more 11 (λ h. omega arith) z)

  pub row_12 : (first more ≡ 12 → ⊥) → (given ≡ 12) ↔ ((valid a ≡ true) × (short a t ≡ true))
  unfolding table_rows
  row_12 z =
      first-later 11 (not (valid a)) later (contrary (valid a)).0 (contrary (valid a)).1 12 (λ h. omega arith)
      (λ v. first-own 12 (short a t) more Iff.rfl Iff.rfl z)

  -- another number is that of the rows after them
  pub after_12 : {Z : Type 0} (m : ℕ) → (m ≡ 11 → ⊥) → (m ≡ 12 → ⊥) → ((valid a ≡ true) → (short a t ≡ false) → (first more ≡ m) ↔ Z)
      → (given ≡ m) ↔ ((valid a ≡ true) × (short a t ≡ false) × Z)
  unfolding table_rows
  after_12 m n11 n12 z =
      Iff.trans
      (first-later 11 (not (valid a)) later (contrary (valid a)).0 (contrary (valid a)).1 m (λ h. n11 (sym h))
      (λ v. first-later 12 (short a t) more Iff.rfl Iff.rfl m (λ h. n12 (sym h)) (z v)))
      (λ (v, (s, x)). (v, s, x), λ (v, s, x). (v, (s, x)))

-- a number of rows 11 to 13
abbrev Early : ℕ → Type 0
Early n = (11 ≤ n) × (n ≤ 13)

-- a call that checks them first, and then rows of which none gives such a number
module _ (a : Automaton) (t : List ℕ) (c : Configuration) (rows : List (ℕ × Bool)) where
  abbrev n : ℕ
  n = first (call_rows a t c ++ rows)

  abbrev from_13 : List (ℕ × Bool)
  from_13 = (13, not (consistent a c)) ∷ rows

  -- a number that none of rows 11 to 13 has is that of the rows after them
  beyond : {Z : Type 0} (m : ℕ) → (Early m → ⊥) → (Clear a t c → (first rows ≡ m) ↔ Z) → (n ≡ m) ↔ (Clear a t c × Z)
  unfolding table_rows configuration_rows call_rows
  beyond m late z =
      Iff.trans
      (after_12 a t from_13 m (λ h. late (omega arith, omega arith)) (λ h. late (omega arith, omega arith))
      (λ v s. first-later 13 (not (consistent a c)) rows (contrary (consistent a c)).0 (contrary (consistent a c)).1 m
      (λ h. late (omega arith, omega arith))
      (λ k. z (record { record_valid = v; table-long = s; configuration-consistent = k })))) (
        λ (v, s, (k, x)). (record { record_valid = v; table-long = s; configuration-consistent = k }, x),
        λ (k, x). (k.record_valid, k.table-long, (k.configuration-consistent, x)),
      )

  call_rows_lem : (Early (first rows) → ⊥) → CallRows a t c n
  unfolding table_rows configuration_rows call_rows
  call_rows_lem late =
      let never : (m : ℕ) → Early m → (13 ≡ m → ⊥) → first from_13 ≡ m → ⊥ = λ m b n13.
      first_never 13 (not (consistent a c)) rows m n13 (λ h. late (omega arith, omega arith)) in
      record {
        row_11 = row_11 a t from_13 (never 11 (omega arith, omega arith) (λ h. omega arith));
        row_12 = row_12 a t from_13 (never 12 (omega arith, omega arith) (λ h. omega arith));
        row-13 = after_12 a t from_13 13 (λ h. omega arith) (λ h. omega arith)
            (λ v s. first-own 13 (not (consistent a c)) rows (contrary (consistent a c)).0 (contrary (consistent a c)).1
            (λ h. late (omega arith, omega arith)));
      }

pub status-rows_as_worded : StatusRowsAsWorded
unfolding call_refusal table_rows configuration_rows call_rows first
status-rows_as_worded a t c =
    let b = beyond a t c [] 0 (λ l. omega arith) (λ k. Iff.rfl) in
    record {
      first_rows = call_rows_lem a t c [] (λ l. omega arith);
      accepted = (λ h. (b.0 h).0, λ k. b.1 (k, refl));
    }

-- one event
module _ (a : Automaton) (t : List ℕ) (c : Configuration) (e : ℕ) where
  event-rows : RowsOfEvent (Tabled a t) a c.state (held_events c) (input_number c.received) e (event_refusal (by_table a t) a (position_of c) e)
  unfolding by_table
  event-rows = event-rows_as_worded (by_table a t) a (position_of c) e

  event-late : Early (event_refusal (by_table a t) a (position_of c) e) → ⊥
  event-late l =
      either (event-number (by_table a t) a (position_of c) e) (λ n. omega arith)
      (λ k. either k (λ n. omega arith) (λ j. either j (λ n. omega arith) (λ n. omega arith)))

pub receive-rows_as_worded : ReceiveRowsAsWorded
unfolding receive_refusal event_refusal
receive-rows_as_worded a t c e =
    let rows = event_rows (by_table a t) a (position_of c) e in
    record {
      first_rows = call_rows_lem a t c rows (event-late a t c e);
      row-14 = beyond a t c rows 14 (λ l. omega arith) (λ _. (event-rows a t c e).row-14);
      row-15 = beyond a t c rows 15 (λ l. omega arith) (λ _. (event-rows a t c e).row-15);
      row-23 = beyond a t c rows 23 (λ l. omega arith) (λ _. (event-rows a t c e).row-23);
      accepted = beyond a t c rows 0 (λ l. omega arith) (λ _. (event-rows a t c e).accepted);
    }

-- a day
pub room_as_worded : RoomAsWorded
unfolding room
room_as_worded size events held =
    let need = length events + held in
    record { lacks = (ltb-true size need, lt-ltb size need); enough = (ltb-false size need, le-ltb size need) }

module _ (size : ℕ) (events : List ℕ) (held : ℕ) where
  abbrev lacking : Bool
  lacking = too_short size events held

  -- a number that is 16 where there is too little room, and else 0
  pub row_of_run : (n : ℕ) → (lacking ≡ true → n ≡ 16) → (lacking ≡ false → n ≡ 0) → RowOfRun size events held n
  row_of_run n f g =
      let r = room_as_worded size events held in
      record {
        row-16 = (λ h. by lacking r.lacks.0 (λ k. absurd (omega (arith, g k))), λ h. f (r.lacks.1 h));
        accepted = (λ h. by lacking (λ k. absurd (omega (arith, f k))) r.enough.0, λ h. g (r.enough.1 h));
      }

  abbrev room_rows : List (ℕ × Bool)
  room_rows = (16, lacking) ∷ []

  run_row : RowOfRun size events held (first room_rows)
  unfolding first
  run_row = row_of_run _ (λ h. rw h) (λ h. rw h)

  run-late : Early (first room_rows) → ⊥
  unfolding first
  run-late l = by lacking (λ h. let z = rw h at l in omega arith) (λ h. let z = rw h at l in omega arith)

pub run-rows_as_worded : RunRowsAsWorded
unfolding run_refusal
run-rows_as_worded a t c events out =
    let rows = room_rows (length out) events c.held in
    let day = run_row (length out) events c.held in
    record {
      first_rows = call_rows_lem a t c rows (run-late (length out) events c.held);
      row-16 = beyond a t c rows 16 (λ l. omega arith) (λ _. day.row-16);
      accepted = beyond a t c rows 0 (λ l. omega arith) (λ _. day.accepted);
    }
