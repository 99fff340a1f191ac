-- Demand 3 over a list of clients.
use Prim.Native.Nat.{ℕ, ◌<◌}
use mathlib.Core.Path.{◌≡◌, refl, sym, ◌∙◌, ap}
use mathlib.Core.Bool.{true}
use mathlib.Core.List.{List, [], ◌∷◌, map}
use lib.ListN.{length, get_or, length-replicate, get_or-replicate}
use Rattle.automaton.specs.declared.Automaton.{Automaton}
use Rattle.automaton.specs.Automaton.{valid}
use Rattle.solver_sets.specs.Table.{Solved}
use Rattle.solver_answers.specs.Solving.{solved_table}
use Rattle.solver_answers.proofs.Answers.{solved-valid, leaves-solved}
use Rattle.configuration.specs.declared.Configuration.{Configuration}
use Rattle.configuration.specs.Configuration.{initial_of, consistent}
use Rattle.monitor_answers.specs.Answers.{is_winning, status}
use Rattle.monitor_answers.proofs.Refusals.{status_clear}
use Rattle.enforcement.specs.Store.{Store, empty, store_all, feed, feed_all}
use Rattle.enforcement.specs.Calls.{Call, receive_call, fed_by, configuration_at, configuration_after}
use Rattle.enforcement.specs.Moments.{moments}
use Rattle.enforcement.proofs.Stores.{initially, initial-sound}
use Rattle.enforcement.proofs.Replies.{consistent-at, not_short}
use Rattle.enforcement.proofs.Alone.{accepted-alone}
use Rattle.enforcement.proofs.Answers.{flag-stays}
use Rattle.enforcement.proofs.Said.{once-winning-said}
use Rattle.enforcement.proofs.Demand3.{demand3}
use Rattle.clients_answers.specs.Clients.{none, initial_clients, Outcome, monitored, emitted_of}
use Rattle.enforcement_clients.specs.ClientCalls.{ClientCall, leaves_all, meetings, moments_of}
use Rattle.enforcement_clients.specs.Functions.{Functions, unfed, fed_all, events_to, refusals_of}
use Rattle.enforcement_clients.specs.Claims.{outcomes_to, OwnEnforced, MetEnforced, ClientTold, ClientsDemand3, ClientsDemand3Solved}
use Rattle.enforcement_clients.proofs.Parts.{parted}
use Rattle.enforcement_clients.proofs.Fed.{function-is}
use Rattle.enforcement_clients.proofs.Replied.{Together, from_first, all_linked}
use Rattle.enforcement_clients.proofs.Meetings.{moments_are, output-is, rows_are}
use Rattle.enforcement_clients.proofs.Told.{client-told}

-- events brought one by one feed a function as they are
feed-each : (a : Automaton) (es : List ℕ) (s : Store) → feed_all a s (map fed_by (map receive_call es)) ≡ store_all a s es
unfolding feed_all feed fed_by store_all
feed-each a [] s = refl
feed-each a (e ∷ es) s = feed-each a es _

-- the initial configuration is said to be winning where it is
first-status : (a : Automaton) (t : List ℕ) → valid a ≡ true → Solved a t → is_winning a t (initial_of a) ≡ true → (status a t (initial_of a)).winning ≡ true
unfolding status
first-status a t v sv w =
    let stands : consistent a (initial_of a) ≡ true = rw (initially a) (consistent-at a t v sv empty (initial-sound a v)) in
    rw (status_clear a t (initial_of a) v (not_short a t v sv) stands) w

module _ (a : Automaton) (t : List ℕ) (v : valid a ≡ true) (sv : Solved a t) (count : ℕ) (calls : List ClientCall) where
  abbrev cs : List Configuration
  cs = initial_clients a count

  abbrev ss : Functions
  ss = fed_all a count unfed calls

  k : Together a t v sv count cs unfed calls
  k = from_first a t v sv count calls

  module _ (g : ℕ) (l : g < count) where
    -- its configuration at first, and in the end
    begins : get_or cs g none ≡ initial_of a
    unfolding initial_clients
    begins = get_or-replicate count g (initial_of a) none l

    abbrev end : Configuration
    end = get_or (leaves_all a t cs calls) g none

    below : g < length cs
    unfolding initial_clients
    below = rw (length-replicate count (initial_of a)) l

    -- its events, and they brought to a monitor of its own
    abbrev own : List ℕ
    own = events_to a count unfed g calls

    abbrev alone : List Call
    alone = map receive_call own

    function : ss g ≡ store_all a empty own
    function = function-is a count calls unfed g

    met-is : moments_of a t cs g calls ≡ moments a t (initial_of a) alone
    unfolding moments_of meetings
    met-is =
        rw ((parted a t {O = Configuration × ℕ} (λ c e. (c, e)) (none, 0) calls cs g below).seen, k.own g, begins) (moments_are a t v sv own)

    received_is : emitted_of (outcomes_to a t cs g calls) ≡ (ss g).output
    unfolding outcomes_to
    received_is =
        rw ((parted a t (monitored a t).says (monitored a t).absent calls cs g below).seen, k.own g, begins, function, initially a)
        (sym (output-is a t v sv own empty (initial-sound a v)))

    rows_is : map (λ (x : Outcome). x.refusal) (outcomes_to a t cs g calls) ≡ refusals_of a empty own
    unfolding outcomes_to
    rows_is =
        rw ((parted a t (monitored a t).says (monitored a t).absent calls cs g below).seen, k.own g, begins, initially a)
        (rows_are a t v sv own empty (initial-sound a v))

    fed-is : feed_all a empty (map fed_by alone) ≡ ss g
    fed-is = feed-each a own empty ∙ sym function

    as_alone : end ≡ configuration_after a t (initial_of a) alone
    as_alone = k.linked.at g l ∙ ap (configuration_at a) (sym fed-is) ∙ sym (demand3 a t v sv alone).enforces.last-configuration

    own-enforced : OwnEnforced a t count calls g
    own-enforced =
        record {
          function = function;
          brought = k.own g;
          rows = rows_is;
          received = received_is;
          last = k.linked.at g l;
          as_alone = as_alone;
          last-consistent = rw (k.linked.at g l) (consistent-at a t v sv (ss g) (k.linked.sound g l));
          same-moments = met-is;
          enforced = demand3 a t v sv alone;
        }

    met-enforced : MetEnforced a t (moments_of a t cs g calls) (ss g) end
    met-enforced =
        let e = demand3 a t v sv alone in
        rw (met-is, as_alone)
        (record {
          alone = ap (store_all a empty) e.accounted.events ∙ accepted-alone a alone ∙ fed-is;
          emitted = e.accounted.emitted ∙ e.enforces.all-emitted ∙ ap (λ (s : Store). s.output) fed-is;
          initially = e.once-winning.initially;
          later = e.once-winning.later;
          opened = e.once-winning.opened;
          said-initially = λ w. flag-stays a t sv (initial_of a) (first-status a t v sv w) alone;
          said = once-winning-said a t v sv alone;
          strategies = e.strategies;
        })

    told : ClientTold a t (leaves_all a t cs calls) g (moments_of a t cs g calls) (ss g)
    told = rw met-is (client-told a t alone (demand3 a t v sv alone) (leaves_all a t cs calls) g (ss g) as_alone fed-is)

pub clients-demand3 : ClientsDemand3
clients-demand3 a t v sv count calls =
    let k = from_first a t v sv count calls in
    record {
      each-reply = k.each-reply;
      last-clients = all_linked a (fed_all a count unfed calls) t v sv count (leaves_all a t (initial_clients a count) calls) k.linked;
      own = own-enforced a t v sv count calls;
      met = met-enforced a t v sv count calls;
      told = told a t v sv count calls;
    }

pub clients-demand3-solved : ClientsDemand3Solved
clients-demand3-solved a t h = clients-demand3 a (solved_table a t) (solved-valid a t h) (leaves-solved a t h)
