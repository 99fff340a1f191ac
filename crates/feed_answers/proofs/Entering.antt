-- Who is let in: rows 11, 12, 20 and the record's own, before those of its event.
use Prim.Native.Nat.{ℕ}
use mathlib.Core.Path.{◌≡◌, sym, ◌∙◌}
use mathlib.Core.Bool.{cond}
use mathlib.Core.List.{List}
use lib.ListN.{length}
use lib.Dec.{eqb}
use borrow.Author.Tests.{eqb-true, eqb-false, ne_eqb}
use Rattle.base.proofs.Bools.{by}
use Rattle.automaton.specs.declared.Automaton.{Automaton}
use Rattle.configuration.specs.declared.Configuration.{Configuration}
use Rattle.clients_answers.specs.Listed.{changed_by}
use Rattle.clients_answers.specs.Clients.{list_refusal, monitored, received_for, received_clients}
use Rattle.clients_answers.proofs.Refusals.{list-passes, list_clear, list-stands}
use Rattle.feed_record.specs.declared.Expected.{Expected}
use Rattle.feed_record.specs.Records.{Admitted, record_rows, admission}
use Rattle.feed_record.proofs.Laws.{admission-row}
use Rattle.feed_answers.specs.declared.Fed.{Fed}
use Rattle.feed_answers.specs.Feed.{entry_refusal, refused_fed, delivered_fed, fed_for, event_in, fed_clients}

module _ (a : Automaton) (t : List ℕ) (count : ℕ) (s : List ℕ) (expected : Expected) where
  abbrev m : Admitted
  m = admission s expected

  -- a row of the list stands first
  pub entry_list : (list_refusal a t count ≡ 0 → ⊥) → entry_refusal a t count s expected ≡ list_refusal a t count
  unfolding entry_refusal
  entry_list z = list-stands a t count (record_rows s expected) z

  -- then the record's
  pub entry_record : list_refusal a t count ≡ 0 → entry_refusal a t count s expected ≡ m.refusal
  unfolding entry_refusal
  entry_record z = list-passes a t count (record_rows s expected) (list_clear a t count z) ∙ sym (admission-row s expected)

  pub entry_clear : entry_refusal a t count s expected ≡ 0 → (list_refusal a t count ≡ 0) × (m.refusal ≡ 0)
  entry_clear z =
      by (eqb (list_refusal a t count) 0)
      (λ h. let l = eqb-true (list_refusal a t count) 0 h in (l, sym (entry_record l) ∙ z))
      (λ h. let l = eqb-false (list_refusal a t count) 0 h in absurd (l (sym (entry_list l) ∙ z)))

module _ (a : Automaton) (t : List ℕ) (cs : List Configuration) (s : List ℕ) (expected : Expected) where
  abbrev n : ℕ
  n = list_refusal a t (length cs)

  -- the answer and the list
  abbrev pub Answers : Fed → List Configuration → Type 0
  Answers r cs' = (r ≡ fed_for a t cs s expected) × (cs' ≡ fed_clients a t cs s expected)

  pub fed-list : (n ≡ 0 → ⊥) → Answers (refused_fed expected n 0) cs
  unfolding fed_for fed_clients
  fed-list z = let e = entry_list a t (length cs) s expected z in (rw (e, ne_eqb n 0 z), rw (e, ne_eqb n 0 z))

  pub fed_record : n ≡ 0 → ((admission s expected).refusal ≡ 0 → ⊥)
      → let m = admission s expected in
      Answers (refused_fed expected m.refusal m.place) cs
  unfolding fed_for fed_clients
  fed_record z k =
      let e = entry_record a t (length cs) s expected z in
      let row = (admission s expected).refusal in
      (rw (e, z, ne_eqb row 0 k), rw (e, ne_eqb row 0 k))

  pub fed-in : n ≡ 0 → (admission s expected).refusal ≡ 0
      → let m = admission s expected in
      Answers (delivered_fed m (received_for a t cs m.client m.symbol)) (received_clients a t cs m.client m.symbol)
  unfolding fed_for fed_clients
  fed-in z k = let e = entry_record a t (length cs) s expected z in (rw (e, k), rw (e, k))

  -- the list in both cases, by the event that it brings
  pub fed-changed : fed_clients a t cs s expected
      ≡ cond (eqb (entry_refusal a t (length cs) s expected) 0) (changed_by (monitored a t) cs (event_in s expected)) cs
  unfolding fed_clients received_clients event_in
  fed-changed =
      let row = entry_refusal a t (length cs) s expected in
      by (eqb row 0) (λ h. let (l, k) = entry_clear a t (length cs) s expected (eqb-true row 0 h) in rw (h, l, k)) (λ h. rw h)
