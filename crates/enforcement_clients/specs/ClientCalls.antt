-- A list of calls over a list of clients (document 02's growers), by the definitions that the
-- contracts cite: what they answer, the list afterwards, and the part of one client.
use Rattle.std.specs.Prelude.{ℕ, Bool, cond, ◌&&◌, List, [], ◌∷◌, ◌++◌, length, take, drop, eqb, ltb}
use Rattle.automaton.specs.declared.Automaton.{Automaton}
use Rattle.configuration.specs.declared.Configuration.{Configuration}
use Rattle.configuration.specs.Configuration.{position_of}
use Rattle.monitor_answers.specs.Turns.{turn_refusal, turn_emitted, turn_next}
use Rattle.enforcement.specs.Moments.{Moment}
use Rattle.clients_answers.specs.declared.ReceivedFor.{ReceivedFor}
use Rattle.clients_answers.specs.declared.RanFor.{RanFor}
use Rattle.clients_answers.specs.Listed.{Stepping, outcomes, events_of, part_of}
use Rattle.clients_answers.specs.Clients.{none, named, list_refusal, received_for, received_clients}
use Rattle.clients_answers.specs.Clients.{run_for_refusal, ran_for, ran_clients, ran_for_buffer}
use Rattle.feed_record.specs.declared.Expected.{Expected}
use Rattle.feed_answers.specs.declared.Fed.{Fed}
use Rattle.feed_answers.specs.Feed.{entry_refusal, fed_for, event_in, fed_clients}

-- A call lends so many of the caller's configurations, from the front (all of them, where there
-- are no more), so that one call may lend none or too many and another not. Then one event, a
-- client's number and a symbol; or a day of all, its events' numbers and the output lent to it; or
-- one record of the feed, its bytes and the serial that is expected, which may be any.
pub data ClientCall : Type 0 where
  receive_for : ℕ → ℕ → ℕ → ClientCall
  run_for : ℕ → List ℕ → List ℕ → ClientCall
  feed_for : ℕ → List ℕ → Expected → ClientCall

unfoldable pub lent_by : ClientCall → ℕ
lent_by (receive_for n i e) = n
lent_by (run_for n vs out) = n
lent_by (feed_for n s x) = n

-- its events, each with its client's number: of the feed one that is let in
unfoldable pub events_by : ClientCall → List (ℕ × ℕ)
events_by (receive_for n i e) = (i, e) ∷ []
events_by (run_for n vs out) = named vs
events_by (feed_for n s x) = event_in s x

-- what it answers, and for a day the lent output afterwards
pub data ClientReply : Type 0 where
  receive : ReceivedFor → ClientReply
  run : RanFor → List ℕ → ClientReply
  feed : Fed → ClientReply

-- its number of refusal
unfoldable pub refusal_in : ClientReply → ℕ
refusal_in (receive r) = r.refusal
refusal_in (run r out) = r.refusal
refusal_in (feed r) = r.answer.refusal

unfoldable pub reply : Automaton → List ℕ → List Configuration → ClientCall → ClientReply
reply a t cs (receive_for n i e) = receive (received_for a t (take n cs) i e)
reply a t cs (run_for n vs out) = run (ran_for a t (take n cs) vs out) (ran_for_buffer a t (take n cs) vs out)
reply a t cs (feed_for n s x) = feed (fed_for a t (take n cs) s x)

-- all the caller's configurations afterwards: those lent as the call left them, the others as they
-- were
unfoldable pub leaves : Automaton → List ℕ → List Configuration → ClientCall → List Configuration
leaves a t cs (receive_for n i e) = received_clients a t (take n cs) i e ++ drop n cs
leaves a t cs (run_for n vs out) = ran_clients a t (take n cs) vs out ++ drop n cs
leaves a t cs (feed_for n s x) = fed_clients a t (take n cs) s x ++ drop n cs

unfoldable pub replies : Automaton → List ℕ → List Configuration → List ClientCall → List ClientReply
replies a t cs [] = []
replies a t cs (x ∷ xs) = reply a t cs x ∷ replies a t (leaves a t cs x) xs

unfoldable pub leaves_all : Automaton → List ℕ → List Configuration → List ClientCall → List Configuration
leaves_all a t cs [] = cs
leaves_all a t cs (x ∷ xs) = leaves_all a t (leaves a t cs x) xs

-- the row that refuses a call as a whole: 11, 12, 20; 16 of a day; 1, 2, 10, 21 and 22 of a record
unfoldable pub whole_refusal : Automaton → List ℕ → List Configuration → ClientCall → ℕ
whole_refusal a t cs (receive_for n i e) = list_refusal a t (length (take n cs))
whole_refusal a t cs (run_for n vs out) = run_for_refusal a t (take n cs) vs out
whole_refusal a t cs (feed_for n s x) = entry_refusal a t (length (take n cs)) s x

-- a call reaches the client g: it is not refused as a whole, and lends g's configuration
unfoldable pub reaches : Automaton → List ℕ → List Configuration → ℕ → ClientCall → Bool
reaches a t cs g x = eqb (whole_refusal a t cs x) 0 && ltb g (length (take (lent_by x) cs))

-- the events that it brings g
unfoldable pub own_by : Automaton → List ℕ → List Configuration → ℕ → ClientCall → List ℕ
own_by a t cs g x = cond (reaches a t cs g x) (events_of g (events_by x)) []

unfoldable pub own_all : Automaton → List ℕ → List Configuration → ℕ → List ClientCall → List ℕ
own_all a t cs g [] = []
own_all a t cs g (x ∷ xs) = own_by a t cs g x ++ own_all a t (leaves a t cs x) g xs

-- Whatever one wants to know of each event that a client is brought, as the calls go: `says` gets
-- the configuration that stands in the list then, and the event.
abbrev pub watching : {O : Type 0} → Automaton → List ℕ → (Configuration → ℕ → O) → O → Stepping Configuration O
watching a t says absent = record { says = says; next = turn_next a t; absent = absent; none = none }

unfoldable pub seen_by : {O : Type 0} → Automaton → List ℕ → (Configuration → ℕ → O) → O
    → List Configuration → ℕ → ClientCall → List O
seen_by a t says absent cs g x =
    cond (reaches a t cs g x)
    (part_of g (events_by x) (outcomes (watching a t says absent) (take (lent_by x) cs) (events_by x)))
    []

unfoldable pub seen_all : {O : Type 0} → Automaton → List ℕ → (Configuration → ℕ → O) → O
    → List Configuration → ℕ → List ClientCall → List O
seen_all a t says absent cs g [] = []
seen_all a t says absent cs g (x ∷ xs) = seen_by a t says absent cs g x ++ seen_all a t says absent (leaves a t cs x) g xs

-- the configurations that g's events meet in the list, each with the event
unfoldable pub meetings : Automaton → List ℕ → List Configuration → ℕ → List ClientCall → List (Configuration × ℕ)
meetings a t = seen_all a t (λ c e. (c, e)) (none, 0)

-- the accepted ones among them, with the client's own past and output
unfoldable pub moments_from : Automaton → List ℕ → List ℕ → List ℕ → List (Configuration × ℕ) → List Moment
moments_from a t past output [] = []
moments_from a t past output (x ∷ xs) =
    cond (eqb (turn_refusal a t x.0 x.1) 0)
    (record { past = past; output = output; position = position_of x.0; event = x.1 } ∷
    moments_from a t (past ++ x.1 ∷ []) (output ++ turn_emitted a t x.0 x.1) xs)
    (moments_from a t past output xs)

unfoldable pub moments_of : Automaton → List ℕ → List Configuration → ℕ → List ClientCall → List Moment
moments_of a t cs g xs = moments_from a t [] [] (meetings a t cs g xs)
