-- One event for a client: of one that the list does not have, and of one that it has.
use Prim.Native.Nat.{ℕ, ◌<◌, ◌≤◌}
use mathlib.Core.Path.{◌≡◌, refl, sym, ◌∙◌, ap}
use mathlib.Core.Bool.{true}
use mathlib.Core.List.{List, [], ◌∷◌}
use native.Mathlib.Omega.{arith}
use lib.ListN.{length, get_or, set}
use lib.Seq.{set-get_or}
use Rattle.std.proofs.lemmas.List.{get_or_default}
use lib.Dec.{eqb}
use borrow.Author.Tests.{eqb-true, eqb-false}
use Rattle.base.specs.Rows.{first}
use Rattle.base.proofs.Bools.{by}
use Rattle.automaton.specs.declared.Automaton.{Automaton}
use Rattle.configuration.specs.declared.Configuration.{Configuration}
use Rattle.monitor_answers.specs.declared.Received.{Received}
use Rattle.clients_answers.specs.declared.ReceivedFor.{ReceivedFor}
use Rattle.clients_answers.specs.Listed.{changed, changed_by}
use Rattle.clients_answers.specs.Clients.{none, list_refusal, client_rows, receive_for_refusal, refused_for, received_for, answer_of, received_clients}
use Rattle.clients_answers.proofs.Refusals.{list-passes, list_clear, list-stands, clear_opened}
use Rattle.clients_answers.proofs.Worded.{client-rows_as_worded}
use Rattle.clients_answers.proofs.Kept.{event-refused}
use Rattle.monitor_answers.proofs.Eventwise.{same_next}
use Rattle.clients_answers.proofs.Single.{events-alone}
use Rattle.clients_entry.specs.Entries.{present_of, absent_of}

module _ (a : Automaton) (t : List ℕ) (cs : List Configuration) (i e : ℕ) where
  -- the answer and the list
  abbrev pub Answers : ReceivedFor → List Configuration → Type 0
  Answers r cs' = (r ≡ received_for a t cs i e) × (cs' ≡ received_clients a t cs i e)

  abbrev n : ℕ
  n = list_refusal a t (length cs)

  refused-by : (m : ℕ) → receive_for_refusal a t cs i e ≡ m → (m ≡ 0 → ⊥) → (r : ReceivedFor) → r ≡ refused_for m → Answers r cs
  refused-by m h z r er = let k = event-refused a t cs m z i e h in (er ∙ sym k.0, sym k.1)

  -- rows 11, 12 and 20
  list-row : (n ≡ 0 → ⊥) → receive_for_refusal a t cs i e ≡ n
  unfolding receive_for_refusal
  list-row z = list-stands a t (length cs) (client_rows a t cs i e) z

  -- row 19
  pub receive-absent : length cs ≤ i → (r : ReceivedFor) → r ≡ absent_of a t (length cs) → Answers r cs
  unfolding absent_of first
  receive-absent l r er =
      by (eqb n 0)
      (λ k.
      let clear = list_clear a t (length cs) (eqb-true n 0 k) in
      let w = list-passes a t (length cs) ((19, true) ∷ []) clear in
      refused-by 19 (((client-rows_as_worded a t cs).event i e).row-19.1 (clear, l)) (λ h. omega arith) r (er ∙ ap refused_for w))
      (λ k.
      let z = eqb-false n 0 k in
      refused-by n (list-row z) z r (er ∙ ap refused_for (list-stands a t (length cs) ((19, true) ∷ []) z)))

  -- a client that is there
  module _ (l : i < length cs) where
    next-is : n ≡ 0 → (x : Received) → x ≡ present_of a t (length cs) (get_or cs i none) e
        → set cs i x.configuration ≡ received_clients a t cs i e
    unfolding received_clients changed_by changed present_of
    next-is z x ex =
        let c = get_or cs i none in
        rw (ex, z) (ap (set cs i) (sym (same_next a t (clear_opened a t (length cs) (list_clear a t (length cs) z)) c e)))

    answer-is : n ≡ 0 → (x : Received) → x ≡ present_of a t (length cs) (get_or cs i none) e → answer_of x ≡ received_for a t cs i e
    unfolding present_of
    answer-is z x ex = rw (ex, z) (sym (events-alone a t cs (list_clear a t (length cs) z) i e l).answer)

    -- (the code reads the list with a default of its own)
    pub receive_present : (x : Received) (d : Configuration) → x ≡ present_of a t (length cs) (get_or cs i d) e → (r : ReceivedFor)
        → r ≡ answer_of x → Answers r (set cs i x.configuration)
    unfolding present_of
    receive_present x d ed r er =
        let ex = ed ∙ ap (λ (c : Configuration). present_of a t (length cs) c e) (get_or_default cs i d none l) in
        by (eqb n 0)
        (λ k. let z = eqb-true n 0 k in (er ∙ answer-is z x ex, next-is z x ex))
        (λ k.
        let z = eqb-false n 0 k in
        let kept = refused-by n (list-row z) z (refused_for n) refl in
        (er ∙ rw (ex, k) kept.0, rw (ex, k) (set-get_or cs i none ∙ kept.1)))
