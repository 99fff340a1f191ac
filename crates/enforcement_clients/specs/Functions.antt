-- The published functions, one for each client (document 02, Card 1): each is fed its client's own
-- events, and together they say what every call answers. They know the automaton, and no table,
-- configuration or list of them. Whether a record of the feed is let in is no matter of theirs:
-- that is `admission` (in words: `RecordsAsWorded` of crate `feed_record`).
use Rattle.std.specs.Prelude.{ℕ, zero, suc, ◌+◌, min, Bool, false, cond, ◌&&◌, ◌||◌, List, [], ◌∷◌, ◌++◌, map, length, drop, replicate, eqb, leb, ltb}
use Rattle.base.specs.Pad.{pad}
use Rattle.automaton.specs.declared.Automaton.{Automaton}
use Rattle.configuration_places.specs.Places.{input_place}
use Rattle.configuration.specs.declared.Configuration.{Configuration}
use Rattle.monitor_rule.specs.Step.{by_sets}
use Rattle.enforcement.specs.Store.{Store, empty, state_of, refusal_at, store, store_all, refused_of}
use Rattle.enforcement.specs.Calls.{since, sources_since, configuration_at}
use Rattle.clients_answers.specs.declared.ReceivedFor.{ReceivedFor}
use Rattle.clients_answers.specs.Listed.{events_of}
use Rattle.clients_answers.specs.Clients.{named}
use Rattle.clients_answers.specs.Claims.{sum_below}
use Rattle.feed_record.specs.Records.{admission}
use Rattle.enforcement_clients.specs.ClientCalls.{ClientCall, receive_for, run_for, feed_for, lent_by, events_by}
use Rattle.enforcement_clients.specs.ClientCalls.{ClientReply, receive, run, feed}

-- by the client's number
abbrev pub Functions : Type 0
Functions = ℕ → Store

-- nothing was fed to any of them yet
abbrev pub unfed : Functions
unfed g = empty

-- each of the first n is fed its own events
unfoldable pub fed_own : Automaton → ℕ → Functions → List (ℕ × ℕ) → Functions
fed_own a n ss xs g = cond (ltb g n) (store_all a (ss g) (events_of g xs)) (ss g)

-- row 20: none lent, or more than 500
unfoldable pub bad_count : ℕ → Bool
bad_count n = eqb n 0 || ltb 500 n

-- row 16: the output is shorter than all the day's events and all their buffers together
unfoldable pub no_room : ℕ → Functions → List ℕ → ℕ → Bool
no_room n ss vs size = ltb size (length vs + sum_below n (λ g. length (ss g).buffer))

-- the row by which they refuse a whole call that lends n
unfoldable pub refusal_of : ℕ → Functions → ClientCall → ℕ
refusal_of n ss (receive_for l i e) = cond (bad_count n) 20 0
refusal_of n ss (run_for l vs out) = cond (bad_count n) 20 (cond (no_room n ss vs (length out)) 16 0)
refusal_of n ss (feed_for l s x) = cond (bad_count n) 20 (admission s x).refusal

-- such a call brings none of them an event
unfoldable pub fed_in : Automaton → ℕ → Functions → ClientCall → Functions
fed_in a n ss x g = cond (eqb (refusal_of n ss x) 0) (fed_own a n ss (events_by x) g) (ss g)

-- what they put out, in the order of the day's events
unfoldable pub put_out : Automaton → ℕ → Functions → List (ℕ × ℕ) → List ℕ
put_out a n ss [] = []
put_out a n ss (x ∷ xs) =
    since (ss x.0) (fed_own a n ss (x ∷ []) x.0) ++ put_out a n (fed_own a n ss (x ∷ [])) xs

-- row 19: the events whose number is not below n
unfoldable pub absentees : ℕ → List (ℕ × ℕ) → ℕ
absentees n [] = 0
absentees n (x ∷ xs) = cond (leb n x.0) 1 0 + absentees n xs

-- the events that they refuse, and 19's, together
unfoldable pub refused_day : Automaton → ℕ → Functions → List (ℕ × ℕ) → ℕ
refused_day a n ss xs = sum_below n (λ g. refused_of a (ss g) (events_of g xs)) + absentees n xs

-- the row of one event: 20, 19, then its client's own function's
unfoldable pub event_refusal_of : Automaton → ℕ → Functions → ℕ → ℕ → ℕ
event_refusal_of a n ss i e = cond (bad_count n) 20 (cond (leb n i) 19 (refusal_at a (ss i) e))

-- what they answer to an event where n are lent: what its client's function put out then with the
-- places, and whether its state lies in S of its buffer
unfoldable pub answer_in : Automaton → ℕ → Functions → ℕ → ℕ → ReceivedFor
answer_in a n ss i e =
    let z = fed_in a n ss (receive_for n i e) i in
    let m = event_refusal_of a n ss i e in
    record {
      refusal = m;
      emitted = pad 7 (since (ss i) z);
      count = length (since (ss i) z);
      winning = eqb m 0 && by_sets a z.buffer (state_of a z);
      places = map input_place (pad 7 (sources_since (ss i) z));
    }

-- the reply that they give to a call that lends n: to a day, what they put out, then the old
-- bytes; to a record that is let in, their answer to its event, with the loss and the serial that
-- is expected next; to one that is not, its row and place, and the expected serial as it was given
unfoldable pub expected_in : Automaton → ℕ → Functions → ClientCall → ClientReply
expected_in a n ss (receive_for l i e) = receive (answer_in a n ss i e)
expected_in a n ss (run_for l vs out) =
    let m = refusal_of n ss (run_for l vs out) in
    let new = cond (eqb m 0) (put_out a n ss (named vs)) [] in
    run (record { refusal = m; length = length new; refused = cond (eqb m 0) (refused_day a n ss (named vs)) 0 })
    (new ++ drop (length new) out)
expected_in a n ss (feed_for l s x) =
    let m = admission s x in
    let row = refusal_of n ss (feed_for l s x) in
    feed (cond (eqb row 0)
    (record { answer = answer_in a n ss m.client m.symbol; place = 0; expected = m.expected; loss = m.loss })
    (record {
      answer = record {
        refusal = row;
        emitted = replicate 7 0;
        count = 0;
        winning = false;
        places = replicate 7 (input_place 0);
      };
      place = cond (bad_count n) 0 m.place;
      expected = x;
      loss = 0;
    }))

-- a call lends what it says, or all
unfoldable pub lent_of : ℕ → ClientCall → ℕ
lent_of count x = min (lent_by x) count

unfoldable pub expected : Automaton → ℕ → Functions → ClientCall → ClientReply
expected a count ss x = expected_in a (lent_of count x) ss x

unfoldable pub fed : Automaton → ℕ → Functions → ClientCall → Functions
fed a count ss x = fed_in a (lent_of count x) ss x

unfoldable pub expected_all : Automaton → ℕ → Functions → List ClientCall → List ClientReply
expected_all a count ss [] = []
expected_all a count ss (x ∷ xs) = expected a count ss x ∷ expected_all a count (fed a count ss x) xs

unfoldable pub fed_all : Automaton → ℕ → Functions → List ClientCall → Functions
fed_all a count ss [] = ss
fed_all a count ss (x ∷ xs) = fed_all a count (fed a count ss x) xs

-- the events that the calls bring g's function
unfoldable pub events_in : ℕ → Functions → ℕ → ClientCall → List ℕ
events_in n ss g x = cond (eqb (refusal_of n ss x) 0 && ltb g n) (events_of g (events_by x)) []

unfoldable pub events_to : Automaton → ℕ → Functions → ℕ → List ClientCall → List ℕ
events_to a count ss g [] = []
events_to a count ss g (x ∷ xs) = events_in (lent_of count x) ss g x ++ events_to a count (fed a count ss x) g xs

-- the rows by which a function refuses events, one after the other (0: none)
unfoldable pub refusals_of : Automaton → Store → List ℕ → List ℕ
refusals_of a s [] = []
refusals_of a s (e ∷ es) = refusal_at a s e ∷ refusals_of a (store a s e) es

-- the configurations that they stand for, of the clients below a count
unfoldable pub configurations_at : Automaton → ℕ → Functions → List Configuration
configurations_at a zero ss = []
configurations_at a (suc n) ss = configurations_at a n ss ++ configuration_at a (ss n) ∷ []
