-- Proofs by induction over the calls.
use Prim.Native.Nat.{ℕ}
use mathlib.Core.Path.{◌≡◌, refl, ◌∙◌, ap, ap₂}
use mathlib.Core.Bool.{true}
use mathlib.Core.List.{List, [], ◌∷◌, map}
use lib.ListN.{length}
use Rattle.automaton.specs.Automaton.{valid}
use Rattle.configuration.specs.declared.Configuration.{Configuration}
use Rattle.clients_answers.specs.Clients.{initial_clients}
use Rattle.enforcement_clients.specs.ClientCalls.{lent_by, reply, leaves, replies, leaves_all}
use Rattle.enforcement_clients.proofs.Demand3.{clients-demand3}
use Rattle.c_layout.specs.Layout.{automaton_of}
use Rattle.c_layout.specs.Calls.{received_for_left, ran_for_left, fed_left, receive_for_leaves, run_for_leaves, feed_leaves}
use Rattle.c_layout.proofs.Handing.{initial_handed_on}
use Rattle.enforcement_bytes.proofs.ByteCalls.{accepted}
use Rattle.enforcement_bytes.specs.ClientByteCalls.{LentCall, lent_receive, lent_run, lent_feed, call_of}
use Rattle.enforcement_bytes.specs.ClientByteCalls.{leaves_for, next_for, beside_list, beside_all, next_for_all, expected_lent, laid_for, laid_all}
use Rattle.enforcement_bytes.specs.ClientByteCalls.{ListByValue, initial_list, ClientsByValue, ClientBytesEnforced}

module _ (record-bytes t : List ℕ) where
  by_value : (cs : List Configuration) (x : LentCall)
      → beside_list (leaves_for record-bytes t cs x) ≡ laid_for (expected_lent x) (reply (automaton_of record-bytes) t cs (call_of x))
  unfolding leaves_for receive_for_leaves run_for_leaves feed_leaves received_for_left ran_for_left fed_left laid_for expected_lent call_of reply
  by_value cs (lent_receive n i e) = refl
  by_value cs (lent_run n vs out) = refl
  by_value cs (lent_feed n s lent) = refl

  next-is : (cs : List Configuration) (x : LentCall) → next_for record-bytes t cs x ≡ leaves (automaton_of record-bytes) t cs (call_of x)
  unfolding next_for leaves_for receive_for_leaves run_for_leaves feed_leaves received_for_left ran_for_left fed_left call_of leaves lent_by
  next-is cs (lent_receive n i e) = refl
  next-is cs (lent_run n vs out) = refl
  next-is cs (lent_feed n s lent) = refl

  all-by_value : (calls : List LentCall) (cs : List Configuration) → ListByValue record-bytes t cs calls
  unfolding beside_all next_for_all laid_all replies leaves_all
  all-by_value [] cs = record { each-reply = refl; list = refl }
  all-by_value (x ∷ xs) cs =
      let a = automaton_of record-bytes in
      let more = all-by_value xs (leaves a t cs (call_of x)) in
      record {
        each-reply = ap₂ ◌∷◌ (by_value cs x) (ap (λ ds. beside_all record-bytes t ds xs) (next-is cs x) ∙ more.each-reply);
        list = ap (λ ds. next_for_all record-bytes t ds xs) (next-is cs x) ∙ more.list;
      }

pub clients-by_value : ClientsByValue
clients-by_value record-bytes t cs calls = all-by_value record-bytes t calls cs

initial-list : (record-bytes : List ℕ) → valid (automaton_of record-bytes) ≡ true → (lents : List (List ℕ))
    → initial_list record-bytes lents ≡ initial_clients (automaton_of record-bytes) (length lents)
unfolding initial_list initial_clients
initial-list record-bytes v [] = refl
initial-list record-bytes v (lent ∷ lents) =
    ap₂ ◌∷◌ (initial_handed_on record-bytes lent (accepted record-bytes v)) (initial-list record-bytes v lents)

pub client-bytes-enforced : ClientBytesEnforced
client-bytes-enforced record-bytes t v s lents calls = (
  initial-list record-bytes v lents,
  all-by_value record-bytes t calls (initial_list record-bytes lents),
  clients-demand3 (automaton_of record-bytes) t v s (length lents) (map call_of calls),
)
