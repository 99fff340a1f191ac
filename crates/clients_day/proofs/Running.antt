-- A whole day: the ways out that a row takes, and the day itself.
use Prim.Native.Nat.{ℕ, ◌+◌, ◌≤◌}
use mathlib.Core.Path.{◌≡◌, refl, sym, ◌∙◌, ap}
use mathlib.Core.Bool.{Bool, true, false, cond}
use mathlib.Core.List.{List}
use native.Mathlib.Omega.{arith}
use lib.ListN.{length, replicate, length-replicate}
use lib.Seq.{sets}
use lib.Dec.{ltb}
use borrow.Author.Tests.{ltb-false}
use Rattle.base.specs.Rows.{first}
use Rattle.automaton.specs.declared.Automaton.{Automaton}
use Rattle.configuration.specs.declared.Configuration.{Configuration}
use Rattle.monitor_answers.specs.Answers.{room}
use Rattle.monitor_loop.specs.Lending.{Lends}
use Rattle.clients_answers.specs.declared.RanFor.{RanFor}
use Rattle.clients_answers.specs.Clients.{list_refusal, held_in_all, room_rows, run_for_refusal, refused_run_for, ran_for, ran_clients, ran_for_buffer}
use Rattle.clients_answers.specs.Claims.{ListClear}
use Rattle.clients_answers.specs.Loop.{Day}
use Rattle.clients_answers.proofs.Refusals.{list_clear, clear_opened, list-passes, list-stands}
use Rattle.clients_answers.proofs.Kept.{day-refused}
use Rattle.clients_answers.proofs.Loop.{day-ran}
use Rattle.clients_entry.specs.declared.ListEntry.{ListEntry}
use Rattle.clients_entry.specs.Entries.{list_entry_of}
use Rattle.clients_entry.proofs.Entering.{listed, listed_lends}
use Rattle.clients_day.specs.Days.{held_in_all_by, marks_by, Marked, DayRequires, Days}
use Rattle.clients_day.proofs.Holding.{held-all-own, marks_own}

-- the marks before any is stored
unfoldable pub unmarked : List ℕ
unmarked = replicate 500 0

unmarked_long : length unmarked ≡ 500
unfolding unmarked
unmarked_long = length-replicate {A = ℕ} 500 0

module _ (a : Automaton) (t : List ℕ) (cs : List Configuration) (vs out : List ℕ) where
  -- the answer, the list and the output
  abbrev pub Answers : RanFor → List Configuration → List ℕ → Type 0
  Answers r cs' out' = (r ≡ ran_for a t cs vs out) × (cs' ≡ ran_clients a t cs vs out) × (out' ≡ ran_for_buffer a t cs vs out)

  refused-answers : (n : ℕ) → run_for_refusal a t cs vs out ≡ n → (n ≡ 0 → ⊥) → (r : RanFor) → r ≡ refused_run_for n → Answers r cs out
  refused-answers n h z r er = let k = day-refused a t cs n z vs out h in (er ∙ sym k.0, sym k.1, sym k.2)

  module _ (m : ListEntry) (em : m ≡ list_entry_of a t (length cs)) where
    row_is : m.refusal ≡ list_refusal a t (length cs)
    row_is = listed a t (length cs) m em

    pub run-refused : (m.refusal ≡ 0 → ⊥) → (r : RanFor) → r ≡ refused_run_for m.refusal → Answers r cs out
    unfolding run_for_refusal
    run-refused z r er =
        refused-answers m.refusal
        (list-stands a t (length cs) (room_rows a cs vs out) (λ h. z (row_is ∙ h)) ∙ sym row_is) z r er

    -- rows 11, 12 and 20 passed
    module _ (z : m.refusal ≡ 0) where
      clear : ListClear a t (length cs)
      clear = list_clear a t (length cs) (sym row_is ∙ z)

      pub run-few : length cs ≤ 500
      run-few = clear.count-right.1

      run-lends : Lends a m.limits a.next m.ranks t
      run-lends = listed_lends a t (length cs) m em (clear_opened a t (length cs) clear)

      -- row 16 is asked
      module _ (held : ℕ) (marks : List ℕ)
          (found : (held ≡ held_in_all_by m.limits a.classes cs) × (marks ≡ sets unmarked 0 (marks_by m.limits a.classes cs)))
          (b : Bool) (eb : b ≡ ltb (length out) (length vs + held)) where
        all_held : held ≡ held_in_all a cs
        all_held = found.0 ∙ held-all-own m.limits a.classes a a.next m.ranks t run-lends refl cs

        all-marked : Marked a marks cs
        all-marked =
            rw found.1 (marks_own m.limits a.classes a a.next m.ranks t run-lends refl unmarked cs (omega (arith, unmarked_long, run-few)))

        room_row : run_for_refusal a t cs vs out ≡ cond b 16 0
        unfolding run_for_refusal first room
        room_row =
            list-passes a t (length cs) (room_rows a cs vs out) clear ∙
            rw (sym all_held, sym eb)

        pub run_short : b ≡ true → (r : RanFor) → r ≡ refused_run_for 16 → Answers r cs out
        run_short k r er = refused-answers 16 (room_row ∙ rw k) (λ h. omega arith) r er

        module _ (k : b ≡ false) where
          pub run_asks : DayRequires m.limits marks a.next m.ranks t cs vs (length out)
          run_asks =
              record {
                automaton = a;
                lends = run-lends;
                few = run-few;
                marked = all-marked;
                room = omega (arith, ltb-false (length out) (length vs + held) (sym eb ∙ k), all_held);
              }

          pub run-answers : (r : RanFor) (cs' : List Configuration) (out' : List ℕ)
              → Days m.limits marks a.next m.ranks t cs vs out r cs' out' → Answers r cs' out'
          unfolding ran_for
          run-answers r cs' out' days =
              let w = days a run-lends all-marked in
              let n : run_for_refusal a t cs vs out ≡ 0 = room_row ∙ rw k in
              let d = day-ran a t cs vs out n in
              (w.0 ∙ rw (d, n), w.1 ∙ ap (λ (x : Day). x.clients) d, w.2 ∙ ap (λ (x : Day). x.out) d)
