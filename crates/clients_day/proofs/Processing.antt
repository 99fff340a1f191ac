-- Where the loop over a day's events stands, and the ways round it and out of it.
use Prim.Native.Nat.{ℕ, ◌+◌, ◌<◌, ◌≤◌}
use mathlib.Core.Path.{◌≡◌, refl, sym, ◌∙◌, ap, subst}
use mathlib.Core.Bool.{true}
use mathlib.Core.List.{List}
use native.Mathlib.Nat.{add-zero}
use native.Mathlib.Omega.{arith}
use lib.ListN.{length, get_or, set, drop, length-set}
use lib.Seq.{set-get_or, get_or-set_same, get_or-set_other}
use lib.Dec.{eqb}
use Rattle.std.proofs.lemmas.List.{get_or_default}
use borrow.Author.Tests.{eqb-true, eqb-false}
use Rattle.base.proofs.Bools.{by}
use Rattle.automaton.specs.declared.Automaton.{Automaton}
use Rattle.configuration.specs.declared.Configuration.{Configuration}
use Rattle.configuration.specs.Configuration.{consistent}
use Rattle.monitor_answers.specs.Turns.{turn_refusal, turn_emitted, turn_next, turned_buffer}
use Rattle.monitor_loop.specs.declared.Limits.{Limits}
use Rattle.monitor_loop.specs.Lending.{Lends}
use Rattle.clients_answers.specs.Clients.{none, held_in, held_in_all}
use Rattle.clients_answers.specs.Loop.{Day, day_from}
use Rattle.clients_answers.proofs.Loop.{step_in, step-out, step_end, held_one, turn_keeps}
use Rattle.clients_entry.specs.declared.Taken.{Taken}
use Rattle.clients_entry.specs.Entries.{mark_of, taken_of, TakeRequires, Taking, event_of}
use Rattle.clients_entry.proofs.Entering.{mark-stays}
use Rattle.clients_day.specs.Days.{Marked, DayRequires, Days}
use Rattle.clients_entry.specs.declared.Event.{Event}

-- marks stay right all day
module _ (a : Automaton) where
  mark_set : (marks : List ℕ) (cs : List Configuration) (i : ℕ) (c : Configuration) → i < length cs → Marked a marks cs → mark_of a c ≡ mark_of a (get_or cs i none)
      → Marked a marks (set cs i c)
  mark_set marks cs i c b f same k h =
      let low : k < length cs = omega (arith, h, length-set cs i c) in
      by (eqb k i)
      (λ q. let e = eqb-true k i q in f k low ∙ rw e (sym same ∙ ap (mark_of a) (sym (get_or-set_same cs i c none b))))
      (λ q. f k low ∙ ap (mark_of a) (sym (get_or-set_other cs i k c none (eqb-false k i q))))

-- Where the loop stands: i events are passed; the list so far, and the output so far, of which so
-- much is written.
pub record Stand (l : Limits) (marks next ranks t : List ℕ) (cs : List Configuration) (vs out : List ℕ)
    (i written refused : ℕ) (clients : List Configuration) (output : List ℕ) : Type 0 where
  pub asked : DayRequires l marks next ranks t cs vs (length out)
  pub follows : (a : Automaton) → Lends a l next ranks t → Marked a marks cs
      → day_from a t cs out 0 0 vs ≡ day_from a t clients output written refused (drop i vs)
  pub marked : (a : Automaton) → Lends a l next ranks t → Marked a marks cs → Marked a marks clients
  pub same_count : length clients ≡ length cs
  pub same_size : length output ≡ length out
  pub room : written + held_in_all asked.automaton clients ≤ i + held_in_all asked.automaton cs
  pub counted : refused ≤ i

module _ (l : Limits) (marks next ranks t : List ℕ) (cs : List Configuration) (vs out : List ℕ) where
  abbrev pub Standing : ℕ → ℕ → ℕ → List Configuration → List ℕ → Type 0
  Standing = Stand l marks next ranks t cs vs out

  pub stand_begins : DayRequires l marks next ranks t cs vs (length out) → Standing 0 0 0 cs out
  stand_begins g =
      record {
        asked = g;
        follows = λ a o m. refl;
        marked = λ a o m. m;
        same_count = refl;
        same_size = refl;
        room = omega arith;
        counted = omega arith;
      }

  module _ (i written refused : ℕ) (clients : List Configuration) (output : List ℕ) (s : Standing i written refused clients output) where
    -- an event more
    module _ (h : i < length vs) (d : Event) (ed : d ≡ event_of (get_or vs i 0)) where
      -- of a client that is there
      module _ (b : d.client < length clients) where
        abbrev c : Configuration
        c = get_or clients d.client none

        held-is : consistent s.asked.automaton c ≡ true → c.held ≡ held_in s.asked.automaton c
        unfolding held_in
        held-is k = rw k

        pub mark-is : (a : Automaton) → Lends a l next ranks t → Marked a marks cs → get_or marks d.client 0 ≡ mark_of a c
        mark-is a o m = s.marked a o m d.client b

        own-asks : TakeRequires l marks d.client next ranks t c written (length output)
        own-asks =
            let g = s.asked in
            record {
              automaton = g.automaton;
              lends = g.lends;
              client-low = omega (arith, b, s.same_count, g.few);
              marked = mark-is g.automaton g.lends g.marked;
              room = λ k. omega (arith, held-is k, held_one g.automaton t clients d.client b, s.room, g.room, s.same_size);
            }

        -- (the code reads the list with a default of its own, e)
        pub take_asks : (e : Configuration) → TakeRequires l marks d.client next ranks t (get_or clients d.client e) written (length output)
        take_asks e = rw (get_or_default clients d.client e none b) own-asks

        module _ (r : Taken) (zs : List ℕ) (e : Configuration)
            (said : Taking l marks d.client next ranks t (get_or clients d.client e) d.symbol written output r zs) where
          f : Taking l marks d.client next ranks t c d.symbol written output r zs
          f = subst (λ (x : Configuration). Taking l marks d.client next ranks t x d.symbol written output r zs) (get_or_default clients d.client e none b) said

          abbrev took : (a : Automaton) → Lends a l next ranks t → Marked a marks cs
              → (r ≡ taken_of a t c d.symbol written) × (zs ≡ turned_buffer a t c d.symbol written output)
          took a o m = f a o (mark-is a o m)

          abbrev own : r ≡ taken_of s.asked.automaton t c d.symbol written
          own = (took s.asked.automaton s.asked.lends s.asked.marked).0

          abbrev clients_then : List Configuration
          clients_then = set clients d.client r.configuration

          pub led : (a : Automaton) → r ≡ taken_of a t c d.symbol written → zs ≡ turned_buffer a t c d.symbol written output
              → day_from a t clients output written refused (drop i vs)
              ≡ day_from a t clients_then zs r.written (refused + r.refused) (drop (i + 1) vs)
          unfolding taken_of turned_buffer event_of
          led a er ez =
              rw (er, ez, ed) (step_in a t vs i clients output written refused h (rw ed at b))

          pub kept : r.written + held_in_all s.asked.automaton clients_then ≤ (i + held_in_all s.asked.automaton cs) + 1
          unfolding taken_of
          kept = rw own (turn_keeps s.asked.automaton t clients d.client d.symbol written _ b s.room)

          pub marked_then : (a : Automaton) → Lends a l next ranks t → Marked a marks cs → Marked a marks clients_then
          unfolding taken_of
          marked_then a o m =
              mark_set a marks clients d.client r.configuration b (s.marked a o m)
              (ap (λ (x : Taken). mark_of a x.configuration) (took a o m).0 ∙ mark-stays a o c d.symbol)

          -- accepted: its configuration is stored
          pub stand_taken : length zs ≡ length output → r.refused ≡ 0 → Standing (i + 1) r.written refused clients_then zs
          stand_taken long z =
              let none_more : refused + r.refused ≡ refused = omega (arith, z) in
              record {
                asked = s.asked;
                follows = λ a o m. s.follows a o m ∙ rw none_more at (led a (took a o m).0 (took a o m).1);
                marked = marked_then;
                same_count = length-set clients d.client r.configuration ∙ s.same_count;
                same_size = long ∙ s.same_size;
                room = omega (arith, kept);
                counted = omega (arith, s.counted);
              }

          -- refused: its client's configuration is the same, and so is the list
          pub passes : (r.refused ≡ 0 → ⊥) → r ≡ record { configuration = c; written = written; refused = 1 }
          unfolding taken_of turn_next turn_emitted
          passes nz =
              by (eqb (turn_refusal s.asked.automaton t c d.symbol) 0)
              (λ k. absurd (nz (ap (λ (x : Taken). x.refused) own ∙ rw k)))
              (λ k. own ∙ rw (k, add-zero written))

          pub stand_passed : length zs ≡ length output → (r.refused ≡ 0 → ⊥) → Standing (i + 1) written (refused + 1) clients zs
          stand_passed long nz =
              let same = set-get_or clients d.client none in
              record {
                asked = s.asked;
                follows = λ a o m. s.follows a o m ∙ rw (passes nz, same) at (led a (took a o m).0 (took a o m).1);
                marked = s.marked;
                same_count = s.same_count;
                same_size = long ∙ s.same_size;
                room = omega (arith, s.room);
                counted = omega (arith, s.counted);
              }

      -- of none
      pub stand_out : length clients ≤ d.client → Standing (i + 1) written (refused + 1) clients output
      unfolding event_of
      stand_out b =
          record {
            asked = s.asked;
            follows = λ a o m.
                s.follows a o m ∙ step-out a t vs i clients output written refused h (rw ed at b);
            marked = s.marked;
            same_count = s.same_count;
            same_size = s.same_size;
            room = omega (arith, s.room);
            counted = omega (arith, s.counted);
          }

    -- the end
    pub stand_ends : length vs ≤ i
        → Days l marks next ranks t cs vs out (record { refusal = 0; length = written; refused = refused }) clients output
    stand_ends h a o m =
        let w = s.follows a o m ∙ step_end a t vs i clients output written refused h in
        (rw w, ap (λ (x : Day). x.clients) (sym w), ap (λ (x : Day). x.out) (sym w))
