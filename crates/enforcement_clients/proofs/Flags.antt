-- What is said of a client's winning, from any configurations.
use Prim.Native.Nat.{ℕ}
use mathlib.Core.Path.{◌≡◌, refl, sym, ◌∙◌, ap}
use mathlib.Core.List.{List, [], ◌∷◌, map}
use lib.ListN.{get_or}
use Rattle.automaton.specs.declared.Automaton.{Automaton}
use Rattle.configuration.specs.declared.Configuration.{Configuration}
use Rattle.monitor_answers.specs.Answers.{received}
use Rattle.monitor_answers.proofs.Refusals.{clear}
use Rattle.monitor_answers.proofs.Turns.{Opened}
use Rattle.enforcement.specs.Calls.{receive_call, reply, handed_back, configuration_after}
use Rattle.enforcement.specs.Answers.{SaysWinning}
use Rattle.enforcement.proofs.Answers.{status-refusal, flag-is-status, flag-stays}
use Rattle.clients_answers.specs.Listed.{after_alone}
use Rattle.clients_answers.specs.Clients.{none, monitored, received_for}
use Rattle.clients_answers.specs.Claims.{AsReceived}
use Rattle.monitor_answers.proofs.Eventwise.{same_next}
use Rattle.clients_answers.proofs.Single.{events-alone}
use Rattle.clients_answers.proofs.Worded.{client-rows_as_worded}
use Rattle.enforcement_clients.specs.ClientCalls.{own_all, leaves_all}
use Rattle.enforcement_clients.specs.Claims.{ClientsFlagIsStatus, ClientSaysWinning, ClientsFlagStays}
use Rattle.enforcement_clients.proofs.Parts.{parted}

-- an accepted event is the call on its client's configuration alone
module _ (a : Automaton) (t : List ℕ) (cs : List Configuration) (g e : ℕ) (z : (received_for a t cs g e).refusal ≡ 0) where
  pub accepted-alone : AsReceived a t cs g e (received a t (get_or cs g none) e)
  accepted-alone =
      let worded = client-rows_as_worded a t cs in
      let k = (worded.event g e).accepted.0 (sym (worded.answered g e) ∙ z) in
      events-alone a t cs k.0 g e k.1

  pub accepted : (received a t (get_or cs g none) e).refusal ≡ 0
  accepted = sym (ap (λ r. r.refusal) accepted-alone.answer) ∙ z

pub clients-flag-is-status : ClientsFlagIsStatus
clients-flag-is-status a t cs g e z =
    let r = accepted-alone a t cs g e z in
    rw (r.next, ap (λ x. x.winning) r.answer) (flag-is-status a t (get_or cs g none) e (accepted a t cs g e z))

module _ (a : Automaton) (t : List ℕ) where
  -- a client's own events, one after the other, are calls on its configuration alone
  after-calls : Opened a t → (es : List ℕ) (c : Configuration) → after_alone (monitored a t) c es ≡ configuration_after a t c (map receive_call es)
  unfolding after_alone configuration_after reply handed_back
  after-calls o [] c = refl
  after-calls o (e ∷ es) c = ap (λ d. after_alone (monitored a t) d es) (same_next a t o c e) ∙ after-calls o es _

  says_for : (cs : List Configuration) (g : ℕ) → SaysWinning a t (get_or cs g none) → ClientSaysWinning a t cs g
  says_for cs g w =
      record {
        told = w.told;
        flagged = λ e z. ap (λ x. x.winning) (accepted-alone a t cs g e z).answer ∙ w.flagged e (accepted a t cs g e z);
      }

pub clients-flag-stays : ClientsFlagStays
clients-flag-stays a t sv cs g l w calls =
    let c = get_or cs g none in
    let k = clear a t c (status-refusal a t c w).0 in
    let o : Opened a t = record { record_valid = k.record_valid; table-long = k.table-long } in
    let es = own_all a t cs g calls in
    let last = (parted a t (monitored a t).says (monitored a t).absent calls cs g l).last ∙ after-calls a t o es c in
    says_for a t (leaves_all a t cs calls) g (rw last (flag-stays a t sv c w (map receive_call es)))
