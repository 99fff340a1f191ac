-- What is read of a table: over any automaton, table and configurations.
use Prim.Native.Nat.{ℕ, ◌≤◌}
use mathlib.Core.Path.{◌≡◌, refl, sym, ◌∙◌, ap, ap₂}
use mathlib.Core.Bool.{true}
use mathlib.Core.List.{List, [], ◌∷◌, ◌++◌, map}
use native.Mathlib.Omega.{arith}
use lib.ListN.{length, get_or, take, drop, set}
use lib.Dec.{eqb, ltb}
use borrow.Author.Tests.{eqb-true, eqb-false, ltb-true, ltb-false}
use Rattle.base.proofs.Bools.{by}
use Rattle.automaton.specs.declared.Automaton.{Automaton}
use Rattle.solver_sets.specs.Table.{short}
use Rattle.configuration_places.specs.Places.{input_number}
use Rattle.configuration.specs.declared.Configuration.{Configuration}
use Rattle.monitor_answers.specs.Answers.{received, table_rows}
use Rattle.monitor_answers.specs.Turns.{turn_next}
use Rattle.monitor_answers.proofs.Turns.{Opened}
use Rattle.enforcement.specs.Answers.{SameBits}
use Rattle.enforcement.proofs.Answers.{others_ignored}
use Rattle.clients_answers.specs.Listed.{outcome, changed, outcomes, changed_by}
use Rattle.clients_answers.specs.Clients.{none, named, monitored, list_rows, list_refusal, client_rows, receive_for_refusal, refused_for, received_for, answer_of, received_clients}
use Rattle.clients_answers.specs.Clients.{run_for_refusal, day_outcomes, ran_for, ran_clients, ran_for_buffer}
use Rattle.clients_answers.specs.Claims.{ListClear}
use Rattle.monitor_answers.proofs.Eventwise.{same_row, same-emitted, same-sources, same_next}
use Rattle.clients_answers.proofs.Single.{events-alone}
use Rattle.clients_answers.proofs.Refusals.{list_clear, clear_opened, list-stands}
use Rattle.clients_answers.proofs.Room.{day_clear}
use Rattle.clients_answers.proofs.Kept.{event-refused}
use Rattle.clients_answers.proofs.Worded.{client-rows_as_worded}
use Rattle.feed_record.specs.declared.Expected.{Expected}
use Rattle.feed_record.specs.Records.{admission}
use Rattle.feed_answers.specs.Feed.{entry_refusal, fed_for, fed_clients}
use Rattle.enforcement_clients.specs.ClientCalls.{ClientCall, receive_for, run_for, feed_for, receive, run, feed, reply, leaves, replies, leaves_all}
use Rattle.enforcement_clients.specs.Claims.{ClientsOthersIgnored}

module _ (a : Automaton) (t u : List ℕ) (s : short a t ≡ short a u) (b : SameBits a t u) where
  -- the step of one configuration
  module _ (o : Opened a t) where
    p : Opened a u
    p = record { record_valid = o.record_valid; table-long = sym s ∙ o.table-long }

    received-same : (c : Configuration) (e : ℕ) → received a t c e ≡ received a u c e
    received-same c e = (others_ignored a t u s b c).receives e

    says_same : (c : Configuration) (e : ℕ) → (monitored a t).says c e ≡ (monitored a u).says c e
    says_same c e =
        let row = same_row a t o c e ∙ ap (λ r. r.refusal) (received-same c e) ∙ sym (same_row a u p c e) in
        let put = same-emitted a t o c e ∙ ap (λ r. take r.count r.emitted) (received-same c e) ∙ sym (same-emitted a u p c e) in
        let from =
        same-sources a t o c e ∙ ap (λ r. take r.count (map input_number r.places)) (received-same c e) ∙ sym (same-sources a u p c e) in
        λ j. record { refusal = row j; emitted = put j; sources = from j }

    next-same : (c : Configuration) (e : ℕ) → turn_next a t c e ≡ turn_next a u c e
    next-same c e = same_next a t o c e ∙ ap (λ r. r.configuration) (received-same c e) ∙ sym (same_next a u p c e)

    -- events one by one
    outcome-same : (cs : List Configuration) (i e : ℕ) → outcome (monitored a t) cs i e ≡ outcome (monitored a u) cs i e
    unfolding outcome
    outcome-same cs i e = by (ltb i (length cs)) (λ h. rw h (says_same (get_or cs i none) e)) (λ h. rw h)

    changed-same : (cs : List Configuration) (i e : ℕ) → changed (monitored a t) cs i e ≡ changed (monitored a u) cs i e
    unfolding changed
    changed-same cs i e = ap (set cs i) (next-same (get_or cs i none) e)

    outcomes-same : (xs : List (ℕ × ℕ)) (cs : List Configuration) → outcomes (monitored a t) cs xs ≡ outcomes (monitored a u) cs xs
    unfolding outcomes
    outcomes-same [] cs = refl
    outcomes-same ((i, e) ∷ xs) cs =
        ap₂ ◌∷◌ (outcome-same cs i e) (ap (λ ds. outcomes (monitored a t) ds xs) (changed-same cs i e) ∙ outcomes-same xs _)

    all_same : (xs : List (ℕ × ℕ)) (cs : List Configuration) → changed_by (monitored a t) cs xs ≡ changed_by (monitored a u) cs xs
    unfolding changed_by
    all_same [] cs = refl
    all_same ((i, e) ∷ xs) cs = ap (λ ds. changed_by (monitored a t) ds xs) (changed-same cs i e) ∙ all_same xs _

  -- the rows before the events'
  list_same : (n : ℕ) → list_refusal a t n ≡ list_refusal a u n
  unfolding list_refusal list_rows table_rows
  list_same n = rw s

  day-same : (cs : List Configuration) (vs out : List ℕ) → run_for_refusal a t cs vs out ≡ run_for_refusal a u cs vs out
  unfolding run_for_refusal list_rows table_rows
  day-same cs vs out = rw s

  -- one event for a client
  module _ (cs : List Configuration) (i e : ℕ) where
    abbrev n : ℕ
    n = length cs

    clear_same : ListClear a t n → ListClear a u n
    clear_same k = record { record_valid = k.record_valid; table-long = sym s ∙ k.table-long; count-right = k.count-right }

    absent-answer : (w : List ℕ) → ListClear a w n → n ≤ i → received_for a w cs i e ≡ refused_for 19
    absent-answer w k l = (event-refused a w cs 19 (λ z. omega arith) i e (((client-rows_as_worded a w cs).event i e).row-19.1 (k, l))).0

    refused-answer : (w : List ℕ) (m : ℕ) → list_refusal a w n ≡ m → (m ≡ 0 → ⊥) → received_for a w cs i e ≡ refused_for m
    unfolding receive_for_refusal
    refused-answer w m h z = (event-refused a w cs m z i e (list-stands a w n (client_rows a w cs i e) (λ q. z (sym h ∙ q)) ∙ h)).0

    answer-same : received_for a t cs i e ≡ received_for a u cs i e
    answer-same =
        let m = list_refusal a t n in
        by (eqb m 0)
        (λ h.
        let k = list_clear a t n (eqb-true m 0 h) in
        by (ltb i n)
        (λ g.
        let l = ltb-true i n g in
        (events-alone a t cs k i e l).answer ∙
        ap answer_of ((others_ignored a t u s b (get_or cs i none)).receives e) ∙
        sym (events-alone a u cs (clear_same k) i e l).answer)
        (λ g. let l = ltb-false i n g in absent-answer t k l ∙ sym (absent-answer u (clear_same k) l)))
        (λ h. let z = eqb-false m 0 h in refused-answer t m refl z ∙ sym (refused-answer u m (sym (list_same n)) z))

    left-same : received_clients a t cs i e ≡ received_clients a u cs i e
    unfolding received_clients
    left-same =
        let m = list_refusal a t n in
        by (eqb m 0)
        (λ h. rw (sym (list_same n), h) (all_same (clear_opened a t n (list_clear a t n (eqb-true m 0 h))) ((i, e) ∷ []) cs))
        (λ h. rw (sym (list_same n), h))

  -- a day
  module _ (cs : List Configuration) (vs out : List ℕ) where
    abbrev row : ℕ
    row = run_for_refusal a t cs vs out

    day-opened : eqb row 0 ≡ true → Opened a t
    day-opened h = clear_opened a t (length cs) (day_clear a t cs vs out (eqb-true row 0 h))

    events-same : day_outcomes a t cs vs out ≡ day_outcomes a u cs vs out
    unfolding day_outcomes
    events-same =
        by (eqb row 0)
        (λ h. rw (sym (day-same cs vs out), h) (outcomes-same (day-opened h) (named vs) cs))
        (λ h. rw (sym (day-same cs vs out), h))

    ran-same : ran_for a t cs vs out ≡ ran_for a u cs vs out
    unfolding ran_for
    ran-same = rw (day-same cs vs out, events-same)

    output-same : ran_for_buffer a t cs vs out ≡ ran_for_buffer a u cs vs out
    unfolding ran_for_buffer
    output-same = rw events-same

    clients-same : ran_clients a t cs vs out ≡ ran_clients a u cs vs out
    unfolding ran_clients
    clients-same =
        by (eqb row 0)
        (λ h. rw (sym (day-same cs vs out), h) (all_same (day-opened h) (named vs) cs))
        (λ h. rw (sym (day-same cs vs out), h))

  -- a record of the feed
  module _ (cs : List Configuration) (bytes : List ℕ) (x : Expected) where
    entry_same : entry_refusal a t (length cs) bytes x ≡ entry_refusal a u (length cs) bytes x
    unfolding entry_refusal list_rows table_rows
    entry_same = rw s

    fed-same : fed_for a t cs bytes x ≡ fed_for a u cs bytes x
    unfolding fed_for
    fed-same =
        let m = admission bytes x in
        rw (entry_same, list_same (length cs), answer-same cs m.client m.symbol)

    fed-left-same : fed_clients a t cs bytes x ≡ fed_clients a u cs bytes x
    unfolding fed_clients
    fed-left-same =
        let m = admission bytes x in
        rw (entry_same, left-same cs m.client m.symbol)

  -- a call, and all calls
  reply-same : (cs : List Configuration) (x : ClientCall) → reply a t cs x ≡ reply a u cs x
  unfolding reply
  reply-same cs (receive_for n i e) = ap receive (answer-same (take n cs) i e)
  reply-same cs (run_for n vs out) = ap₂ run (ran-same (take n cs) vs out) (output-same (take n cs) vs out)
  reply-same cs (feed_for n bytes x) = ap feed (fed-same (take n cs) bytes x)

  leaves-same : (cs : List Configuration) (x : ClientCall) → leaves a t cs x ≡ leaves a u cs x
  unfolding leaves
  leaves-same cs (receive_for n i e) = ap (λ ds. ds ++ drop n cs) (left-same (take n cs) i e)
  leaves-same cs (run_for n vs out) = ap (λ ds. ds ++ drop n cs) (clients-same (take n cs) vs out)
  leaves-same cs (feed_for n bytes x) = ap (λ ds. ds ++ drop n cs) (fed-left-same (take n cs) bytes x)

  calls_same : (xs : List ClientCall) (cs : List Configuration)
      → (replies a t cs xs ≡ replies a u cs xs) × (leaves_all a t cs xs ≡ leaves_all a u cs xs)
  unfolding replies leaves_all
  calls_same [] cs = (refl, refl)
  calls_same (x ∷ xs) cs =
      let left = leaves-same cs x in
      let more = calls_same xs (leaves a u cs x) in (
        ap₂ ◌∷◌ (reply-same cs x) (ap (λ ds. replies a t ds xs) left ∙ more.0),
        ap (λ ds. leaves_all a t ds xs) left ∙ more.1,
      )

pub clients-others_ignored : ClientsOthersIgnored
clients-others_ignored a t u s b cs calls = calls_same a t u s b calls cs
