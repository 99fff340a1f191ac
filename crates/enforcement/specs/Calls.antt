-- A list of calls from the initial configuration, each given the configuration that the last one
-- handed back; and what the published function says of them.
use Rattle.std.specs.Prelude.{ℕ, cond, ◌&&◌, List, [], ◌∷◌, ◌++◌, map, length, take, drop, eqb}
use Rattle.base.specs.Pad.{pad}
use Rattle.automaton.specs.declared.Automaton.{Automaton}
use Rattle.configuration_places.specs.Places.{input_place}
use Rattle.configuration.specs.declared.Configuration.{Configuration}
use Rattle.configuration.specs.Configuration.{configuration}
use Rattle.monitor_answers.specs.declared.Received.{Received}
use Rattle.monitor_answers.specs.declared.Ran.{Ran}
use Rattle.monitor_rule.specs.Step.{by_sets}
use Rattle.monitor_answers.specs.Answers.{received, ran, ran_buffer}
use Rattle.enforcement.specs.Store.{Store, state_of, position_at, refusal_at, store, store_all, refused_of}
use Rattle.enforcement.specs.Store.{Feed, event, events, lacks_room, feed}

-- one event, or many at once (document 01's whole day): the events and the output lent to it, of
-- any length and contents
pub data Call : Type 0 where
  receive_call : ℕ → Call
  run_call : List ℕ → List ℕ → Call

-- what a call hands back: the answer of its contract, and for a day the lent output afterwards
pub data Reply : Type 0 where
  receive : Received → Reply
  run : Ran → List ℕ → Reply

unfoldable pub handed_back : Reply → Configuration
handed_back (receive r) = r.configuration
handed_back (run r out) = r.configuration

-- its number of refusal
unfoldable pub refusal_in : Reply → ℕ
refusal_in (receive r) = r.refusal
refusal_in (run r out) = r.refusal

-- the symbols that it emitted
unfoldable pub emitted_by : Reply → List ℕ
emitted_by (receive r) = take r.count r.emitted
emitted_by (run r out) = take r.length out

-- a call over a table, by the definitions that the contracts of `receive` and `run` cite
unfoldable pub reply : Automaton → List ℕ → Configuration → Call → Reply
reply a t c (receive_call e) = receive (received a t c e)
reply a t c (run_call es out) = run (ran a t c es out) (ran_buffer a t c es out)

unfoldable pub replies : Automaton → List ℕ → Configuration → List Call → List Reply
replies a t c [] = []
replies a t c (x ∷ xs) = reply a t c x ∷ replies a t (handed_back (reply a t c x)) xs

-- the configuration after all calls
unfoldable pub configuration_after : Automaton → List ℕ → Configuration → List Call → Configuration
configuration_after a t c [] = c
configuration_after a t c (x ∷ xs) = configuration_after a t (handed_back (reply a t c x)) xs

-- all that was emitted, end to end
unfoldable pub emitted_all : List Reply → List ℕ
emitted_all [] = []
emitted_all (r ∷ rs) = emitted_by r ++ emitted_all rs

-- what the published function is fed from a call: of a day's output only the length
unfoldable pub fed_by : Call → Feed
fed_by (receive_call e) = event e
fed_by (run_call es out) = events es (length out)

-- the configuration that it stands for
unfoldable pub configuration_at : Automaton → Store → Configuration
configuration_at a s = configuration (position_at a s)

-- what it has put out since it was s, and the places of that
unfoldable pub since : Store → Store → List ℕ
since s z = drop (length s.output) z.output

unfoldable pub sources_since : Store → Store → List ℕ
sources_since s z = drop (length s.sources) z.sources

-- the reply that it gives: its refusal, what it put out then with the places, its configuration,
-- and, for an accepted event, whether its state lies in S of its buffer; a day's bytes are its
-- part of the output, then the old ones, and its count the events refused
unfoldable pub expected : Automaton → Store → Call → Reply
expected a s (receive_call e) =
    let z = store a s e in
    let n = refusal_at a s e in
    receive (record {
      refusal = n;
      configuration = configuration_at a z;
      emitted = pad 7 (since s z);
      count = length (since s z);
      winning = eqb n 0 && by_sets a z.buffer (state_of a z);
      places = map input_place (pad 7 (sources_since s z));
    })
expected a s (run_call es out) =
    let z = store_all a s es in
    cond (lacks_room s es (length out))
    (run (record { refusal = 16; configuration = configuration_at a s; length = 0; refused = 0 }) out)
    (run
    (record { refusal = 0; configuration = configuration_at a z; length = length (since s z); refused = refused_of a s es })
    (since s z ++ drop (length (since s z)) out))

unfoldable pub expected_all : Automaton → Store → List Call → List Reply
expected_all a s [] = []
expected_all a s (x ∷ xs) = expected a s x ∷ expected_all a (feed a s (fed_by x)) xs
