-- The ways out of a whole day.
use Prim.Native.Nat.{ℕ, ◌+◌, ◌<◌, ◌≤◌}
use mathlib.Core.Path.{◌≡◌, sym, ◌∙◌}
use mathlib.Core.Bool.{Bool, true, false, cond}
use mathlib.Core.List.{List, [], ◌∷◌}
use native.Mathlib.Omega.{arith}
use lib.ListN.{length}
use lib.Dec.{ltb}
use borrow.Author.Tests.{ne_eqb, lt-ltb, le-ltb}
use Rattle.base.specs.Rows.{first}
use Rattle.automaton.specs.declared.Automaton.{Automaton}
use Rattle.configuration.specs.declared.Configuration.{Configuration}
use Rattle.configuration.specs.Configuration.{consistent}
use Rattle.monitor_answers.specs.Answers.{table_refusal, room, run_refusal, refused_run, ran, ran_of, ran_buffer, ran_buffer_of}
use Rattle.monitor_answers.proofs.Refusals.{status_inconsistent, rows_stand, rows_pass}
use Rattle.monitor_answers.proofs.Turns.{Opened, call_stands}

module _ (a : Automaton) (t : List ℕ) (c : Configuration) (events out : List ℕ) where
  stopped : (n : ℕ) → run_refusal a t c events out ≡ n → (n ≡ 0 → ⊥)
      → (refused_run n c ≡ ran a t c events out) × (out ≡ ran_buffer a t c events out)
  unfolding ran ran_buffer
  stopped n e z = (rw (e, ne_eqb n 0 z), rw (e, ne_eqb n 0 z))

  -- rows 11 and 12, and row 13
  pub run-stands : (n : ℕ) → n ≡ table_refusal a t → (n ≡ 0 → ⊥)
      → (refused_run n c ≡ ran a t c events out) × (out ≡ ran_buffer a t c events out)
  unfolding run_refusal
  run-stands n g z =
      let h = call_stands a t c (λ y. z (g ∙ y)) in
      stopped n (rows_stand a t c ((16, ltb (length out) (room events c.held)) ∷ []) (λ y. z (g ∙ sym h ∙ y)) ∙ h ∙ sym g) z

  pub run-refuses : Opened a t → consistent a c ≡ false
      → (refused_run 13 c ≡ ran a t c events out) × (out ≡ ran_buffer a t c events out)
  unfolding run_refusal
  run-refuses o k =
      let h = status_inconsistent a t c o.record_valid o.table-long k in
      stopped 13 (rows_stand a t c ((16, ltb (length out) (room events c.held)) ∷ []) (λ y. omega (arith, h)) ∙ h) (λ y. omega arith)

  module _ (o : Opened a t) (k : consistent a c ≡ true) where
    row_of : (b : Bool) → ltb (length out) (room events c.held) ≡ b → run_refusal a t c events out ≡ cond b 16 0
    unfolding run_refusal first
    row_of b e =
        rows_pass a t c o.record_valid o.table-long k ((16, ltb (length out) (room events c.held)) ∷ []) ∙ rw e

    pub run-lacks-room : length out < length events + c.held
        → (refused_run 16 c ≡ ran a t c events out) × (out ≡ ran_buffer a t c events out)
    unfolding room
    run-lacks-room l = stopped 16 (row_of true (lt-ltb (length out) (room events c.held) l)) (λ z. omega arith)

    pub run-goes : length events + c.held ≤ length out
        → (ran_of a t c events ≡ ran a t c events out) × (ran_buffer_of a t c events out ≡ ran_buffer a t c events out)
    unfolding room ran ran_buffer
    run-goes l = let e = row_of false (le-ltb (length out) (room events c.held) l) in (rw e, rw e)
