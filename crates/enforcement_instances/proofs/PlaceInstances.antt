-- The instances of the claims on places in the input and on the two counts.
use Prim.Native.Nat.{ℕ, zero, suc, ◌+◌, ◌<◌}
use mathlib.Core.Path.{◌≡◌, refl, sym, ◌∙◌, ap}
use mathlib.Core.List.{[], ◌∷◌, ◌++◌, map}
use native.Mathlib.Omega.{arith}
use lib.ListN.{length, get_or, take, get_or-map}
use Rattle.base.specs.Pad.{pad}
use Rattle.base.proofs.Padding.{pad-outside}
use Rattle.automaton.specs.Automaton.{class}
use Rattle.configuration_places.specs.Places.{input_place, input_number, output_number}
use Rattle.configuration_places.specs.Claims.{Waits}
use Rattle.configuration_places.proofs.Facts.{wait_as_worded}
use Rattle.configuration.specs.declared.Configuration.{Configuration}
use Rattle.configuration.specs.Configuration.{Position, configuration, held_events, place_numbers, initial_of}
use Rattle.configuration.specs.Claims.{Stands, input_at}
use Rattle.configuration.proofs.Facts.{consistent_as_worded}
use Rattle.monitor_rule.specs.Step.{by_table}
use Rattle.monitor_rule.specs.Claims.{PlacesKept}
use Rattle.monitor_rule.proofs.Effects.{places_as_worded}
use Rattle.monitor_answers.specs.declared.Received.{Received}
use Rattle.monitor_answers.specs.Answers.{received, run_refusal}
use Rattle.monitor_answers.specs.Claims.{answers_to, last_after, emitted_in, refused_in}
use Rattle.monitor_answers.proofs.Eventwise.{runs_as_events}
use Rattle.enforcement.specs.Store.{empty, feed_all, accepted_all}
use Rattle.enforcement.specs.Calls.{configuration_after, fed_by}
use Rattle.enforcement.specs.Moments.{sources_at, moments}
use Rattle.enforcement.specs.Places.{event_at, Traced, PlacesTold}
use Rattle.enforcement.specs.Claims.{accepted_events}
use Rattle.enforcement.proofs.Places.{function-traced}
use Rattle.enforcement_cases.specs.Cases.{automaton_w, at}
use Rattle.enforcement_instances.specs.Statements.{table_w}
use Rattle.enforcement_instances.specs.MonitorStatements.{both_held, store_of, after_w, long_calls, long_last, long_store}
use Rattle.enforcement_instances.specs.PlaceStatements.{Waiting, Passes, Fitting, effect_w, next_w, page_held, Keeping}
use Rattle.enforcement_instances.specs.PlaceStatements.{feeds, taken, last_fed, Tracing, long_taken, waiting_calls, signed_places, Told}
use Rattle.enforcement_instances.specs.PlaceStatements.{near_end, end_day, DayAtEnd}
use Rattle.enforcement_instances.proofs.Sheets.{valid-w, computing}
use Rattle.enforcement_instances.proofs.MonitorInstances.{calling, publishing, enforced, fed-long, day}

-- waits between places
waits : (later earlier : ℕ) → Waits (input_place later) (input_place earlier)
waits later earlier = wait_as_worded (input_place later) (input_place earlier)

pub waiting : Waiting
waiting =
    record {
      later = omega (arith, (waits 9 4).leads (omega arith));
      earlier = (waits 4 9).none (omega arith);
      same = (waits 4 4).none (omega arith);
      longest = omega (arith, (waits 4294967294 0).leads (omega arith));
      any = λ n. omega (arith, (waits (4 + n) 4).leads (omega arith));
    }

-- what row 13 says of a configuration that it lets pass
stands : (c : Configuration) → length c.buffer ≡ 6 → length c.places ≡ 6 → Passes c → Stands automaton_w c
stands c l m h = (consistent_as_worded automaton_w c valid-w l m).0 h

-- Page and Receipt at places 4 and 7 of nine, seven put out
abbrev held : Configuration
held = configuration (at 0 (2 ∷ 3 ∷ []) (4 ∷ 7 ∷ []) 9 7)

held-controllable : (i : ℕ) → i < 2 → (get_or held.buffer i 0 < automaton_w.symbols) × (class automaton_w (get_or held.buffer i 0) ≡ 1)
unfolding automaton_w pad
held-controllable zero l = (omega arith, refl)
held-controllable (suc zero) l = (omega arith, refl)
held-controllable (suc (suc i)) l = absurd (omega arith)

held-rising : (i j : ℕ) → i < j → j < 2 → input_at held i < input_at held j
unfolding pad
held-rising zero zero l b = absurd (omega arith)
held-rising zero (suc zero) l b = omega arith
held-rising (suc i) j l b = absurd (omega arith)
held-rising zero (suc (suc j)) l b = absurd (omega arith)

held_below : (i : ℕ) → i < 2 → input_at held i < 9
unfolding pad
held_below zero l = omega arith
held_below (suc zero) l = omega arith
held_below (suc (suc i)) l = absurd (omega arith)

held-stands : Stands automaton_w held
unfolding automaton_w
held-stands =
    record {
      state-below = omega arith;
      few = omega arith;
      events = held-controllable;
      unused = λ i l b. pad-outside 6 (2 ∷ 3 ∷ []) i l;
      rising = held-rising;
      below = held_below;
      unused-places = λ i l b. ap input_number (get_or-map input_place (pad 6 (4 ∷ 7 ∷ [])) i 0) ∙ pad-outside 6 (4 ∷ 7 ∷ []) i l;
      sum = refl;
    }

pub fitting : Fitting
unfolding pad
fitting =
    record {
      fits = (consistent_as_worded automaton_w held valid-w refl refl).1 held-stands;
      place-at-count = λ h. let k = (stands _ refl refl h).below 0 (omega arith) in omega arith;
      equal-places = λ h. let k = (stands _ refl refl h).rising 0 1 (omega arith) (omega arith) in omega arith;
      unused-place = λ h. let k = (stands _ refl refl h).unused-places 0 (omega arith) (omega arith) in omega arith;
      other-counts = λ h. let k = (stands _ refl refl h).sum in omega arith;
      wrapped-counts = λ h. let k = (stands _ refl refl h).sum in omega arith;
      rising = λ c l m h b. (stands c l m h).rising 0 1 (omega arith) b;
      below = λ c l m h b. (stands c l m h).below 0 b;
      sum = λ c l m h. (stands c l m h).sum;
    }

-- places go with their events
kept : (p : Position) (e : ℕ) → length p.places ≡ length p.buffer → PlacesKept (by_table automaton_w table_w) automaton_w p e
kept = places_as_worded (by_table automaton_w table_w) automaton_w

-- what Sign puts out, and what is held behind a second Page
sign_emits : (effect_w both_held 0).emitted ≡ 0 ∷ 2 ∷ 3 ∷ []
unfolding computing
sign_emits = refl

page_waits : (effect_w page_held 2).emitted ≡ []
unfolding computing
page_waits = refl

page-buffer : (next_w page_held 2).buffer ≡ 2 ∷ 2 ∷ []
unfolding computing
page-buffer = refl

pub keeping : Keeping
unfolding automaton_w pad
keeping =
    let sign = kept both_held 0 refl in
    let page = kept page_held 2 refl in
    record {
      sign = (sign.passing (λ c. omega arith)).0;
      sign-places = (sign.passing (λ c. omega arith)).1;
      sign-have = sign.emitted-have ∙ ap length sign_emits;
      sign-received = sign.received-grows;
      sign-emitted = sign.emitted-grows ∙ ap (λ l. 0 + length l) sign_emits;
      page = (page.holding refl).0;
      page-places = (page.holding refl).1;
      page-held = page.held-have ∙ ap length page-buffer;
      page-received = page.received-grows;
      page-emitted = page.emitted-grows ∙ ap (λ l. 3 + length l) page_waits;
    }

-- the published function fed these
taken-w : accepted_all automaton_w empty feeds ≡ taken
unfolding publishing
taken-w = refl

fed-w : feed_all automaton_w empty feeds ≡ last_fed
unfolding publishing
fed-w = refl

traced-w : Traced taken last_fed
traced-w = rw (taken-w, fed-w) at (function-traced automaton_w feeds)

pub tracing : Tracing
tracing =
    record {
      accepted = taken-w;
      function = fed-w;
      put-out = traced-w.put-out;
      held = traced-w.held;
      once = traced-w.once 3 (omega arith);
      no_other = traced-w.no_other 4 (omega arith);
      counted = traced-w.counted;
      bounded = λ xs. let k = function-traced automaton_w xs in omega (arith, k.counted, k.bounded);
    }

-- the long day's calls: what the function accepts of them, and so what the calls do; the places of
-- all that is put out; and what they tell
taken-long : accepted_all automaton_w empty (map fed_by long_calls) ≡ long_taken
unfolding publishing
taken-long = refl

accepted-long : accepted_events automaton_w table_w long_calls ≡ long_taken
accepted-long = (enforced long_calls).accounted.events ∙ taken-long

sources-long : sources_at automaton_w table_w (moments automaton_w table_w (initial_of automaton_w) long_calls) ≡ long_store.sources
sources-long = (enforced long_calls).accounted.traced ∙ ap (λ s. s.sources) fed-long

told-long : PlacesTold automaton_w table_w long_calls long_taken (configuration long_last)
told-long = rw (accepted-long, day.last-configuration) at (enforced long_calls).places-told

-- Page and Receipt are held
both_wait : accepted_events automaton_w table_w waiting_calls ≡ 2 ∷ 3 ∷ []
unfolding calling
both_wait = refl

after_both : after_w waiting_calls ≡ configuration both_held
unfolding calling configuration_after
after_both = refl

fed-both : feed_all automaton_w empty (map fed_by waiting_calls) ≡ store_of [] [] (2 ∷ 3 ∷ []) (0 ∷ 1 ∷ []) 2
unfolding publishing
fed-both = refl

-- and Sign then
sign-row : (received automaton_w table_w (after_w waiting_calls) 0).refusal ≡ 0
unfolding calling configuration_after
sign-row = refl

sign-count : (received automaton_w table_w (after_w waiting_calls) 0).count ≡ 3
unfolding calling configuration_after
sign-count = refl

sign-out : take 3 (received automaton_w table_w (after_w waiting_calls) 0).emitted ≡ 0 ∷ 2 ∷ 3 ∷ []
unfolding calling configuration_after
sign-out = refl

sign_from : signed_places ≡ 2 ∷ 0 ∷ 1 ∷ []
unfolding calling configuration_after
sign_from = refl

pub told : Told
unfolding held_events place_numbers pad
told =
    let answer = rw (both_wait, sign-count) at ((enforced waiting_calls).places-told.answered 0 sign-row) in
    record {
      accepted = accepted-long;
      sources = sources-long;
      function = rw fed-long at told-long.function;
      put-out = ap (map (event_at long_taken)) (sym sources-long) ∙ told-long.put-out ∙ day.all-emitted;
      held = told-long.held;
      received-count = ap (λ c. input_number c.received) day.last-configuration ∙ told-long.received-count;
      emitted-count =
          ap (λ c. output_number c.emitted) day.last-configuration ∙ told-long.emitted-count ∙ ap length day.all-emitted;
      answer-places = sign_from;
      answered = answer.found ∙ sign-out;
      answer-output = answer.output ∙ rw (fed-both, sign-out) refl;
      answer-sources = answer.sources ∙ ap (λ s. s.sources ++ signed_places) fed-both;
    }

-- a day over the end of the input count
day-room : run_refusal automaton_w table_w near_end end_day (9 ∷ 9 ∷ 9 ∷ []) ≡ 0
unfolding calling
day-room = refl

day-rows : map (λ (r : Received). r.refusal) (answers_to automaton_w table_w near_end end_day) ≡ 0 ∷ 23 ∷ 14 ∷ []
unfolding calling answers_to
day-rows = refl

day-last : last_after automaton_w table_w near_end end_day ≡ configuration (at 1 [] [] 4294967295 4294967295)
unfolding calling last_after
day-last = refl

day-bytes : emitted_in (answers_to automaton_w table_w near_end end_day) ≡ 0 ∷ []
unfolding calling answers_to emitted_in
day-bytes = refl

day-refused : refused_in (answers_to automaton_w table_w near_end end_day) ≡ 2
unfolding calling answers_to refused_in
day-refused = refl

pub day-at_end : DayAtEnd
day-at_end =
    let day = runs_as_events automaton_w table_w near_end end_day (9 ∷ 9 ∷ 9 ∷ []) day-room in
    record { rows = day-rows; answer = day.answer ∙ rw (day-last, day-bytes, day-refused); output = day.output ∙ rw day-bytes }
