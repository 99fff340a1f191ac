-- The claims on places in the input, on the two counts and on what row 13 asks of them (document
-- 02, Card 4) at sheet W, hypotheses met.
use Rattle.std.specs.Prelude.{ℕ, ◌+◌, ◌<◌, ◌≤◌, ◌≡◌, true, List, [], ◌∷◌, ◌++◌, map, length, take}
use Rattle.configuration_places.specs.Places.{input_place, input_number, output_number, waited}
use Rattle.configuration.specs.declared.Configuration.{Configuration}
use Rattle.configuration.specs.Configuration.{Position, configuration, consistent, initial_of}
use Rattle.configuration.specs.Claims.{input_at}
use Rattle.monitor_rule.specs.Step.{by_table, Effect, effect_from, sources, advance}
use Rattle.monitor_answers.specs.declared.Received.{Received}
use Rattle.monitor_answers.specs.Answers.{received, ran, ran_buffer}
use Rattle.monitor_answers.specs.Claims.{answers_to}
use Rattle.enforcement.specs.Store.{Store, empty, store, Feed, event, events, feed_all, accepted_all}
use Rattle.enforcement.specs.Calls.{Call, receive_call, fed_by}
use Rattle.enforcement.specs.Moments.{sources_at, moments}
use Rattle.enforcement.specs.Places.{event_at, times, Traced}
use Rattle.enforcement.specs.Claims.{accepted_events}
use Rattle.enforcement_cases.specs.Cases.{automaton_w, at}
use Rattle.enforcement_instances.specs.Statements.{table_w}
use Rattle.enforcement_instances.specs.MonitorStatements.{both_held, store_of, after_w, long_calls, long_store}

-- waits between places
pub record Waiting : Type 0 where
  pub later : waited (input_place 9) (input_place 4) ≡ 5
  pub earlier : waited (input_place 4) (input_place 9) ≡ 0
  pub same : waited (input_place 4) (input_place 4) ≡ 0
  pub longest : waited (input_place 4294967294) (input_place 0) ≡ 4294967294
  pub any : (n : ℕ) → waited (input_place (4 + n)) (input_place 4) ≡ n

-- whether row 13 lets a configuration of W pass
abbrev pub Passes : Configuration → Type 0
Passes c = consistent automaton_w c ≡ true

-- what row 13 asks of places and counts
pub record Fitting : Type 0 where
  -- Page and Receipt at places 4 and 7 of nine, seven put out
  pub fits : Passes (configuration (at 0 (2 ∷ 3 ∷ []) (4 ∷ 7 ∷ []) 9 7))
  -- not: a place at the count, equal places, an unused place that is not 0, counts that are not
  -- those of what is held, also where they would be in 32 bits
  pub place-at-count : Passes (configuration (at 0 (2 ∷ []) (1 ∷ []) 1 0)) → ⊥
  pub equal-places : Passes (configuration (at 0 (2 ∷ 2 ∷ []) (1 ∷ 1 ∷ []) 4 2)) → ⊥
  pub unused-place : Passes (configuration (at 0 [] (1 ∷ []) 2 2)) → ⊥
  pub other-counts : Passes (configuration (at 0 (2 ∷ []) (0 ∷ []) 2 0)) → ⊥
  pub wrapped-counts : Passes (configuration (at 0 (2 ∷ []) (0 ∷ []) 0 4294967295)) → ⊥
  -- of any that it lets pass
  pub rising : (c : Configuration) → length c.buffer ≡ 6 → length c.places ≡ 6 → Passes c → 1 < c.held
      → input_at c 0 < input_at c 1
  pub below : (c : Configuration) → length c.buffer ≡ 6 → length c.places ≡ 6 → Passes c → 0 < c.held
      → input_at c 0 < input_number c.received
  pub sum : (c : Configuration) → length c.buffer ≡ 6 → length c.places ≡ 6 → Passes c
      → output_number c.emitted + c.held ≡ input_number c.received

-- what W's monitor makes of an event at a position: what is put out, its places in the input, and
-- the position then
abbrev pub effect_w : Position → ℕ → Effect
effect_w = effect_from (by_table automaton_w table_w) automaton_w

abbrev pub sources_w : Position → ℕ → List ℕ
sources_w = sources (by_table automaton_w table_w) automaton_w

abbrev pub next_w : Position → ℕ → Position
next_w = advance (by_table automaton_w table_w) automaton_w

-- signed, a Page held at place 3 of four
abbrev pub page_held : Position
page_held = at 1 (2 ∷ []) (3 ∷ []) 4 3

-- places go with their events
pub record Keeping : Type 0 where
  -- Sign passes, before Page and Receipt, which go behind it; its place is the count before it
  pub sign : (effect_w both_held 0).emitted ++ (next_w both_held 0).buffer ≡ 0 ∷ 2 ∷ 3 ∷ []
  pub sign-places : sources_w both_held 0 ++ (next_w both_held 0).places ≡ 2 ∷ 0 ∷ 1 ∷ []
  pub sign-have : length (sources_w both_held 0) ≡ 3
  pub sign-received : (next_w both_held 0).received ≡ 3
  pub sign-emitted : (next_w both_held 0).emitted ≡ 3
  -- a second Page is held behind the first
  pub page : (effect_w page_held 2).emitted ++ (next_w page_held 2).buffer ≡ 2 ∷ 2 ∷ []
  pub page-places : sources_w page_held 2 ++ (next_w page_held 2).places ≡ 3 ∷ 4 ∷ []
  pub page-held : length (next_w page_held 2).places ≡ 2
  pub page-received : (next_w page_held 2).received ≡ 5
  pub page-emitted : (next_w page_held 2).emitted ≡ 3

-- Page; a day of Receipt, Sign, a kind that there is not and Page, with room for nine; a day of
-- Sign without room
abbrev pub feeds : List Feed
feeds = event 2 ∷ events (3 ∷ 0 ∷ 7 ∷ 2 ∷ []) 9 ∷ events (0 ∷ []) 1 ∷ []

-- what the published function accepts of them, and is then
abbrev pub taken : List ℕ
taken = 2 ∷ 3 ∷ 0 ∷ 2 ∷ []

abbrev pub last_fed : Store
last_fed = store_of (0 ∷ 2 ∷ 3 ∷ []) (2 ∷ 0 ∷ 1 ∷ []) (2 ∷ []) (3 ∷ []) 4

-- what its places mean
pub record Tracing : Type 0 where
  pub accepted : accepted_all automaton_w empty feeds ≡ taken
  pub function : feed_all automaton_w empty feeds ≡ last_fed
  pub put-out : map (event_at taken) (2 ∷ 0 ∷ 1 ∷ []) ≡ 0 ∷ 2 ∷ 3 ∷ []
  pub held : map (event_at taken) (3 ∷ []) ≡ 2 ∷ []
  pub once : times 3 (2 ∷ 0 ∷ 1 ∷ 3 ∷ []) ≡ 1
  pub no_other : times 4 (2 ∷ 0 ∷ 1 ∷ 3 ∷ []) ≡ 0
  pub counted : last_fed.accepted ≡ length taken
  -- whatever it is fed, it counts to the end at most
  pub bounded : (xs : List Feed) → (feed_all automaton_w empty xs).accepted ≤ 4294967295

-- the accepted events of the long day's calls
abbrev pub long_taken : List ℕ
long_taken = 2 ∷ 3 ∷ 0 ∷ 2 ∷ 1 ∷ 2 ∷ 1 ∷ 0 ∷ []

-- Page and Receipt, and the answer to Sign after them
abbrev pub waiting_calls : List Call
waiting_calls = receive_call 2 ∷ receive_call 3 ∷ []

abbrev pub signed_places : List ℕ
signed_places = take 3 (map input_number (received automaton_w table_w (after_w waiting_calls) 0).places)

-- and the function after it
abbrev pub signed : Store
signed = store automaton_w (feed_all automaton_w empty (map fed_by waiting_calls)) 0

-- the places that the calls tell
pub record Told : Type 0 where
  pub accepted : accepted_events automaton_w table_w long_calls ≡ long_taken
  pub sources : sources_at automaton_w table_w (moments automaton_w table_w (initial_of automaton_w) long_calls)
      ≡ 2 ∷ 0 ∷ 1 ∷ 4 ∷ 6 ∷ 7 ∷ []
  pub function : Traced long_taken long_store
  pub put-out : map (event_at long_taken) (2 ∷ 0 ∷ 1 ∷ 4 ∷ 6 ∷ 7 ∷ []) ≡ 0 ∷ 2 ∷ 3 ∷ 1 ∷ 1 ∷ 0 ∷ []
  pub held : map (event_at long_taken) (3 ∷ 5 ∷ []) ≡ 2 ∷ 2 ∷ []
  pub received-count : input_number (after_w long_calls).received ≡ 8
  pub emitted-count : output_number (after_w long_calls).emitted ≡ 6
  pub answer-places : signed_places ≡ 2 ∷ 0 ∷ 1 ∷ []
  pub answered : map (event_at (2 ∷ 3 ∷ 0 ∷ [])) signed_places ≡ 0 ∷ 2 ∷ 3 ∷ []
  pub answer-output : signed.output ≡ [] ++ 0 ∷ 2 ∷ 3 ∷ []
  pub answer-sources : signed.sources ≡ [] ++ signed_places

-- one event before the end of the input count: a day of Sign, Sign and what is no kind
abbrev pub near_end : Configuration
near_end = configuration (at 0 [] [] 4294967294 4294967294)

abbrev pub end_day : List ℕ
end_day = 0 ∷ 0 ∷ 9 ∷ []

-- it is its events: the first is taken, the second finds the count at its end
pub record DayAtEnd : Type 0 where
  pub rows : map (λ (r : Received). r.refusal) (answers_to automaton_w table_w near_end end_day) ≡ 0 ∷ 23 ∷ 14 ∷ []
  pub answer : ran automaton_w table_w near_end end_day (9 ∷ 9 ∷ 9 ∷ [])
      ≡ record { refusal = 0; configuration = configuration (at 1 [] [] 4294967295 4294967295); length = 1; refused = 2 }
  pub output : ran_buffer automaton_w table_w near_end end_day (9 ∷ 9 ∷ 9 ∷ []) ≡ 0 ∷ 9 ∷ 9 ∷ []
