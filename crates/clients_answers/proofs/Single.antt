-- One event for a client is the call on its configuration alone.
use Prim.Native.Nat.{ℕ, ◌<◌}
use mathlib.Core.Path.{◌≡◌, refl, sym, ◌∙◌, ap}
use mathlib.Core.List.{List}
use native.Mathlib.Omega.{arith}
use lib.ListN.{length, get_or}
use lib.Dec.{eqb}
use borrow.Author.Tests.{eqb-true, eqb-false, lt-ltb}
use Rattle.base.specs.Rows.{first}
use Rattle.base.proofs.Bools.{by}
use Rattle.base.proofs.Padding.{take-pad, zeros-used}
use Rattle.automaton.specs.declared.Automaton.{Automaton}
use Rattle.configuration.specs.declared.Configuration.{Configuration}
use Rattle.configuration.specs.Configuration.{Position, held_events, position_of, configuration}
use Rattle.monitor_rule.specs.Step.{by_table, advance}
use Rattle.monitor_answers.specs.Answers.{is_winning, received}
use Rattle.monitor_answers.specs.Turns.{turn_refusal}
use Rattle.monitor_answers.proofs.Turns.{Opened, receive_turns, turn_emits, turn_traces, turn_moves}
use Rattle.monitor_answers.proofs.Accepted.{emitted-padded, opened-answers}
use Rattle.monitor_answers.proofs.Eventwise.{same_row, same-emitted, same-sources, same_next}
use Rattle.clients_answers.specs.Listed.{changed_by}
use Rattle.clients_answers.specs.Clients.{none, monitored, client_rows, receive_for_refusal, received_for, answer_of, received_clients}
use Rattle.clients_answers.specs.Claims.{ListClear, EventsAlone, ClientsOpened, ClientsEmittedPadded}
use Rattle.clients_answers.proofs.Isolation.{changed-own}
use Rattle.clients_answers.proofs.Refusals.{list-passes, clear_list, clear_opened}
use Rattle.clients_answers.proofs.Room.{outcome_in}
use Rattle.clients_answers.proofs.Worded.{client-rows_as_worded}
use Rattle.clients_answers.proofs.Kept.{event-refused}

-- the configuration of a position is winning where the position is
pub winning-made : (a : Automaton) (t : List ℕ) (p : Position) → is_winning a t (configuration p) ≡ by_table a t p.buffer p.state
unfolding is_winning held_events
winning-made a t p = ap (λ w. by_table a t w p.state) (take-pad 6 p.buffer)

module _ (a : Automaton) (t : List ℕ) (o : Opened a t) where
  same_answer : (cs : List Configuration) (i e : ℕ) → receive_for_refusal a t cs i e ≡ turn_refusal a t (get_or cs i none) e
      → received_for a t cs i e ≡ answer_of (received a t (get_or cs i none) e)
  unfolding received_for received
  same_answer cs i e h =
      let c = get_or cs i none in
      let n = turn_refusal a t c e in
      by (eqb n 0)
      (λ k.
      let z = eqb-true n 0 k in
      let wins = winning-made a t (advance (by_table a t) a (position_of c) e) in
      rw (h, receive_turns a t c e o, k, turn_emits a t c e z, turn_traces a t c e z, turn_moves a t c e z, wins))
      (λ k. rw (h, receive_turns a t c e o, k))

-- its row is that of its configuration alone
pub own_row : (a : Automaton) (t : List ℕ) (cs : List Configuration) → ListClear a t (length cs) → (i e : ℕ) → i < length cs
    → receive_for_refusal a t cs i e ≡ turn_refusal a t (get_or cs i none) e
unfolding receive_for_refusal client_rows turn_refusal first
own_row a t cs k i e l = list-passes a t (length cs) (client_rows a t cs i e) k ∙ rw (lt-ltb i (length cs) l)

pub events-alone : EventsAlone
unfolding received_clients changed_by
events-alone a t cs k i e l =
    let o = clear_opened a t (length cs) k in
    let c = get_or cs i none in
    record {
      answer = same_answer a t o cs i e (own_row a t cs k i e l);
      next = rw (clear_list a t (length cs) k) (changed-own (monitored a t) cs i e l ∙ same_next a t o c e);
      inside =
          outcome_in a t cs i e l ∙
          (λ j. record { refusal = same_row a t o c e j; emitted = same-emitted a t o c e j; sources = same-sources a t o c e j });
    }

pub clients-opened : ClientsOpened
clients-opened a t cs i e h full =
    let k = ((client-rows_as_worded a t cs).event i e).accepted.0 h in
    let alone = events-alone a t cs k.0 i e k.1 in
    let own = receive_turns a t (get_or cs i none) e (clear_opened a t (length cs) k.0) ∙ sym (own_row a t cs k.0 i e k.1) ∙ h in
    let o = opened-answers a t (get_or cs i none) e own full in
    record { opened = rw (alone.answer, alone.next) o.opened; winning = rw alone.answer o.winning }

pub clients-emitted-padded : ClientsEmittedPadded
clients-emitted-padded a t cs i e =
    let n = receive_for_refusal a t cs i e in
    by (eqb n 0)
    (λ h.
    let k = ((client-rows_as_worded a t cs).event i e).accepted.0 (eqb-true n 0 h) in
    rw (events-alone a t cs k.0 i e k.1).answer (emitted-padded a t (get_or cs i none) e))
    (λ h. rw (event-refused a t cs n (eqb-false n 0 h) i e refl).0 (omega arith, zeros-used 7, zeros-used 7))
