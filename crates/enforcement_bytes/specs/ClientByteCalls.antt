-- A list of calls over a list of clients through the interface for C: demand 3 over what is lent.
-- The clients' configurations are lent as they lie, one after the other, with their number.
use Rattle.std.specs.Prelude.{ℕ, ◌≡◌, true, List, [], ◌∷◌, ◌++◌, map, length, take, drop}
use Rattle.automaton.specs.Automaton.{valid}
use Rattle.solver_sets.specs.Table.{Solved}
use Rattle.configuration.specs.declared.Configuration.{Configuration}
use Rattle.clients_answers.specs.Clients.{initial_clients}
use Rattle.enforcement_clients.specs.ClientCalls.{ClientCall, receive_for, run_for, feed_for, lent_by, ClientReply, receive, run, feed}
use Rattle.enforcement_clients.specs.ClientCalls.{replies, leaves_all}
use Rattle.enforcement_clients.specs.Claims.{ClientsEnforced}
use Rattle.c_layout.specs.Layout.{automaton_of, configuration_of, expected_of, expected_laid}
use Rattle.c_layout.specs.Answers.{received_for_bytes, ran_for_bytes, fed_bytes}
use Rattle.c_layout.specs.Calls.{initial_bytes, LeftFor, receive_for_leaves, run_for_leaves, feed_leaves}

-- A call as it is made through C: an event, a day, or a record of the feed with the bytes that are
-- lent for the expected serial, which may hold anything.
pub data LentCall : Type 0 where
  lent_receive : ℕ → ℕ → ℕ → LentCall
  lent_run : ℕ → List ℕ → List ℕ → LentCall
  lent_feed : ℕ → List ℕ → List ℕ → LentCall

-- the call by value that it is
unfoldable pub call_of : LentCall → ClientCall
call_of (lent_receive n i e) = receive_for n i e
call_of (lent_run n vs out) = run_for n vs out
call_of (lent_feed n s lent) = feed_for n s (expected_of lent)

-- what a call leaves over the lent record, the table and as many of the caller's configurations as
-- it lends: by the definitions that the contracts of `jaxhophasi_receive_for`,
-- `jaxhophasi_run_for` and `jaxhophasi_feed` cite
unfoldable pub leaves_for : List ℕ → List ℕ → List Configuration → LentCall → LeftFor
leaves_for record-bytes t cs (lent_receive n i e) = receive_for_leaves record-bytes t (take n cs) i e
leaves_for record-bytes t cs (lent_run n vs out) = run_for_leaves record-bytes t (take n cs) vs out
leaves_for record-bytes t cs (lent_feed n s lent) = feed_leaves record-bytes t (take n cs) s lent

-- all the caller's configurations then
unfoldable pub next_for : List ℕ → List ℕ → List Configuration → LentCall → List Configuration
next_for record-bytes t cs x = (leaves_for record-bytes t cs x).configurations ++ drop (lent_by (call_of x)) cs

-- what is left beside the list: the refusal, and the bytes lent for the answer, for the output and
-- for the expected serial
pub record BesideList : Type 0 where
  pub refusal : ℕ
  pub answer : List ℕ
  pub output : List ℕ
  pub expected : List ℕ

abbrev pub beside_list : LeftFor → BesideList
beside_list x = record { refusal = x.refusal; answer = x.answer; output = x.output; expected = x.expected }

-- one call after the other, each over the configurations that the last one left: what is left
-- beside them, and the configurations after all
unfoldable pub beside_all : List ℕ → List ℕ → List Configuration → List LentCall → List BesideList
beside_all record-bytes t cs [] = []
beside_all record-bytes t cs (x ∷ xs) =
    beside_list (leaves_for record-bytes t cs x) ∷ beside_all record-bytes t (next_for record-bytes t cs x) xs

unfoldable pub next_for_all : List ℕ → List ℕ → List Configuration → List LentCall → List Configuration
next_for_all record-bytes t cs [] = cs
next_for_all record-bytes t cs (x ∷ xs) = next_for_all record-bytes t (next_for record-bytes t cs x) xs

-- the bytes that a call lends for an expected serial
unfoldable pub expected_lent : LentCall → List ℕ
expected_lent (lent_receive n i e) = []
expected_lent (lent_run n vs out) = []
expected_lent (lent_feed n s lent) = lent

-- a reply of the calls by value, as it lies in bytes; those of an expected serial that say the one
-- it has stay as they are lent
unfoldable pub laid_for : List ℕ → ClientReply → BesideList
laid_for lent (receive x) = record { refusal = x.refusal; answer = received_for_bytes x; output = []; expected = [] }
laid_for lent (run x out) = record { refusal = x.refusal; answer = ran_for_bytes x; output = out; expected = [] }
laid_for lent (feed x) =
    record { refusal = x.answer.refusal; answer = fed_bytes x; output = []; expected = expected_laid x.expected lent }

-- each of them, beside its call
unfoldable pub laid_all : List LentCall → List ClientReply → List BesideList
laid_all [] rs = []
laid_all (x ∷ xs) [] = []
laid_all (x ∷ xs) (r ∷ rs) = laid_for (expected_lent x) r ∷ laid_all xs rs

-- It is that list of calls by value, laid out, over any record, table and configurations: the
-- replies; and the configurations after all calls, so, the calls being any, after each ..
pub record ListByValue (record-bytes t : List ℕ) (cs : List Configuration) (calls : List LentCall) : Type 0 where
  pub each-reply : beside_all record-bytes t cs calls
      ≡ laid_all calls (replies (automaton_of record-bytes) t cs (map call_of calls))
  pub list : next_for_all record-bytes t cs calls ≡ leaves_all (automaton_of record-bytes) t cs (map call_of calls)

abbrev pub ClientsByValue : Type 0
ClientsByValue =
    (record-bytes t : List ℕ) (cs : List Configuration) (calls : List LentCall) → ListByValue record-bytes t cs calls

-- A list made by `jaxhophasi_initial`, called for each client on the bytes that lay there. (That a
-- list lent from C lies in memory as `configuration_of` reads its bytes is `repr(C)` on a machine
-- with the low byte first; it is tested, not proved.)
unfoldable pub initial_list : List ℕ → List (List ℕ) → List Configuration
initial_list record-bytes lents = map (λ lent. configuration_of (initial_bytes record-bytes lent)) lents

-- .. so from what `jaxhophasi_initial` leaves for each client, over a record that row 11 lets pass
-- and its solved table, it is what demand 3 over clients speaks of.
abbrev pub ClientBytesEnforced : Type 0
ClientBytesEnforced =
    (record-bytes t : List ℕ) → valid (automaton_of record-bytes) ≡ true → Solved (automaton_of record-bytes) t
    → (lents : List (List ℕ)) (calls : List LentCall)
    → let a = automaton_of record-bytes in
    let cs = initial_list record-bytes lents in
    (cs ≡ initial_clients a (length lents)) × ListByValue record-bytes t cs calls
    × ClientsEnforced a t (length lents) (map call_of calls)
