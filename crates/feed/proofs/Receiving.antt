-- One record: of one that is not let in, and of one that is.
use Prim.Native.Nat.{ℕ}
use mathlib.Core.Path.{◌≡◌, sym, ◌∙◌, ap, subst}
use mathlib.Core.Logic.{◌⊎◌}
use mathlib.Core.Bool.{true, false}
use mathlib.Core.List.{List}
use lib.ListN.{length}
use lib.Dec.{eqb}
use borrow.Author.Tests.{eqb-true, eqb-false, ne_eqb}
use Rattle.base.specs.Rows.{first}
use Rattle.base.proofs.Bools.{by, either}
use Rattle.automaton.specs.declared.Automaton.{Automaton}
use Rattle.configuration.specs.declared.Configuration.{Configuration}
use Rattle.clients_answers.specs.declared.ReceivedFor.{ReceivedFor}
use Rattle.clients_answers.specs.Clients.{list_refusal, client_rows, receive_for_refusal, received_for, received_clients}
use Rattle.clients_answers.proofs.Refusals.{Later, inner_later, list-passes, list_clear, list-stands, list-number}
use Rattle.clients_answers.proofs.Worded.{client_inner, client-rows_as_worded}
use Rattle.clients_answers.proofs.Kept.{event-refused}
use Rattle.feed_record.specs.declared.Expected.{Expected}
use Rattle.feed_record.specs.Records.{Admitted, admission}
use Rattle.feed_record.proofs.Worded.{records_as_worded}
use Rattle.feed_answers.specs.declared.Fed.{Fed}
use Rattle.feed_answers.proofs.Entering.{Answers, fed-list, fed_record, fed-in}
use Rattle.feed_entry.specs.Entries.{refuses_call, not_let_in, let_in_of}

-- rows 11, 12 and 20, and no other
refuses : (row : ℕ) → (row ≡ 11) ⊎ (row ≡ 12) ⊎ (row ≡ 20) → refuses_call row ≡ true
unfolding refuses_call
refuses row h = either h (λ e. rw e) (λ k. either k (λ e. rw e) (λ e. rw e))

passes : (row : ℕ) → (row ≡ 11 → ⊥) × (row ≡ 12 → ⊥) × (row ≡ 20 → ⊥) → refuses_call row ≡ false
unfolding refuses_call
passes row (a, b, c) = rw (ne_eqb row 11 a, ne_eqb row 12 b, ne_eqb row 20 c)

module _ (a : Automaton) (t : List ℕ) (cs : List Configuration) (s : List ℕ) (x : Expected) (m : Admitted) (em : m ≡ admission s x) where
  abbrev n : ℕ
  n = list_refusal a t (length cs)

  -- the answer in each case, for a record that was admitted
  abbrev Says : Fed → List Configuration → Type 0
  Says = Answers a t cs s x

  -- the row of its event
  event-row : n ≡ 0 → receive_for_refusal a t cs m.client m.symbol ≡ first (client_rows a t cs m.client m.symbol)
  unfolding receive_for_refusal
  event-row z = list-passes a t (length cs) (client_rows a t cs m.client m.symbol) (list_clear a t (length cs) z)

  list-row : (n ≡ 0 → ⊥) → receive_for_refusal a t cs m.client m.symbol ≡ n
  unfolding receive_for_refusal
  list-row z = list-stands a t (length cs) (client_rows a t cs m.client m.symbol) z

  pub receive_away : (m.refusal ≡ 0 → ⊥) → (r : Fed) → r ≡ not_let_in a t (length cs) m → Says r cs
  unfolding not_let_in
  receive_away z r er =
      let kept = ap (λ q. q.expected) ((records_as_worded s x).refused (λ h. z (ap (λ q. q.refusal) em ∙ h))) in
      let same : m.expected ≡ x = ap (λ q. q.expected) em ∙ kept in
      by (eqb n 0)
      (λ h.
      let e = fed_record a t cs s x (eqb-true n 0 h) (λ k. z (ap (λ q. q.refusal) em ∙ k)) in
      (er ∙ rw (h, same, em) e.0, e.1))
      (λ h. let e = fed-list a t cs s x (eqb-false n 0 h) in (er ∙ rw (h, same) e.0, e.1))

  pub receive-in : m.refusal ≡ 0 → (answer : ReceivedFor) (cs' : List Configuration)
      → (answer ≡ received_for a t cs m.client m.symbol) × (cs' ≡ received_clients a t cs m.client m.symbol)
      → (r : Fed) → r ≡ let_in_of m x answer → Says r cs'
  unfolding let_in_of
  receive-in z answer cs' (ea, ec) r er =
      let row = receive_for_refusal a t cs m.client m.symbol in
      let is : answer.refusal ≡ row = ap (λ q. q.refusal) ea ∙ (client-rows_as_worded a t cs).answered m.client m.symbol in
      by (eqb n 0)
      (λ h.
      let l = eqb-true n 0 h in
      let e = fed-in a t cs s x l (sym (ap (λ q. q.refusal) em) ∙ z) in
      let k = passes answer.refusal (subst Later (sym (is ∙ event-row l)) (inner_later _ (client_inner a t cs m.client m.symbol))) in
      (er ∙ rw (k, ea, em) e.0, ec ∙ rw em e.1))
      (λ h.
      let l = eqb-false n 0 h in
      let e = fed-list a t cs s x l in
      let same : row ≡ n = list-row l in
      let all = event-refused a t cs n l m.client m.symbol same in
      let k = refuses answer.refusal (subst (λ q. (q ≡ 11) ⊎ (q ≡ 12) ⊎ (q ≡ 20)) (sym (is ∙ same)) (list-number a t (length cs) l)) in
      (er ∙ rw (k, ea ∙ all.0) e.0, ec ∙ all.1 ∙ e.1))
