-- The cases of the answers.
use Prim.Native.Nat.{ℕ}
use mathlib.Core.Path.{◌≡◌, sym, ◌∙◌, ap}
use mathlib.Core.Bool.{true, false}
use mathlib.Core.List.{List}
use borrow.Author.Tests.{ne_eqb}
use Rattle.automaton.specs.declared.Automaton.{Automaton}
use Rattle.clients_answers.specs.declared.ReceivedFor.{ReceivedFor}
use Rattle.clients_answers.specs.Clients.{list_refusal, refused_for}
use Rattle.clients_entry.specs.declared.ListEntry.{ListEntry}
use Rattle.clients_entry.specs.Entries.{list_entry_of}
use Rattle.feed_record.specs.declared.Expected.{Expected}
use Rattle.feed_record.specs.Records.{Admitted}
use Rattle.feed_answers.specs.declared.Fed.{Fed}
use Rattle.feed_answers.specs.Feed.{refused_fed, delivered_fed}
use Rattle.feed_entry.specs.Entries.{refuses_call, not_let_in, let_in_of}

-- a refused event's answer, beside the place and the expected serial
pub away : (expected : Expected) (row place : ℕ) (answer : ReceivedFor) → answer ≡ refused_for row
    → ◌≡◌ {A = Fed} (record { answer = answer; place = place; expected = expected; loss = 0 }) (refused_fed expected row place)
away expected row place answer h = rw h

-- a record that is not let in
module _ (a : Automaton) (t : List ℕ) (count : ℕ) (n : ListEntry) (e : n ≡ list_entry_of a t count) (m : Admitted) where
  listed : n.refusal ≡ list_refusal a t count
  unfolding list_entry_of
  listed = ap (λ x. x.refusal) e

  pub away_list : (n.refusal ≡ 0 → ⊥) → refused_fed m.expected n.refusal 0 ≡ not_let_in a t count m
  unfolding not_let_in
  away_list z = rw (ne_eqb (list_refusal a t count) 0 (λ h. z (listed ∙ h)), listed)

  pub away_record : n.refusal ≡ 0 → refused_fed m.expected m.refusal m.place ≡ not_let_in a t count m
  unfolding not_let_in
  away_record z = rw (sym listed ∙ z)

-- one that is
module _ (m : Admitted) (given : Expected) (answer : ReceivedFor) where
  pub in_list : refuses_call answer.refusal ≡ true → record { answer = answer; place = 0; expected = given; loss = 0 } ≡ let_in_of m given answer
  unfolding let_in_of
  in_list h = rw h

  pub in-event : refuses_call answer.refusal ≡ false → delivered_fed m answer ≡ let_in_of m given answer
  unfolding let_in_of
  in-event h = rw h
