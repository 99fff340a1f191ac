-- The instances of the claims on the calls over a list of clients.
use Prim.Native.Nat.{ℕ, ◌+◌, ◌<◌, ◌≤◌}
use mathlib.Core.Path.{◌≡◌, refl, sym, ◌∙◌, ap}
use mathlib.Core.Logic.{inl, inr}
use mathlib.Core.Bool.{true, false}
use mathlib.Core.List.{List, [], ◌∷◌, ◌++◌, map}
use native.Mathlib.Omega.{arith}
use lib.ListN.{length, get_or, take, drop, length-replicate, get_or-replicate}
use Rattle.base.specs.Pad.{pad}
use Rattle.base.proofs.Bools.{either}
use Rattle.solver_sets.specs.Table.{short, table}
use Rattle.solver_sets.proofs.Tables.{short_as_worded}
use Rattle.configuration_places.specs.Places.{input_number}
use Rattle.configuration.specs.declared.Configuration.{Configuration}
use Rattle.configuration.specs.Configuration.{configuration, held_events, consistent, initial_of}
use Rattle.monitor_rule.specs.Step.{by_table}
use Rattle.monitor_rule.specs.Claims.{Full, Shut, Tabled}
use Rattle.monitor_rule.proofs.Rows.{opens-releases}
use Rattle.monitor_answers.specs.Answers.{table_rows, call_rows, receive_refusal, refused_event, received}
use Rattle.enforcement_cases.specs.Cases.{automaton_v, automaton_w, at, answer}
use Rattle.enforcement_instances.specs.Statements.{filled, table_w}
use Rattle.enforcement_instances.specs.MonitorStatements.{wide_v}
use Rattle.enforcement_instances.proofs.Sheets.{valid-w, buffers-w}
use Rattle.enforcement_instances.proofs.MonitorInstances.{sign_fits, invalid_wide}
use Rattle.clients_answers.specs.Listed.{events_of, part_of, alone, after_alone, outcome, outcomes, changed_by}
use Rattle.clients_answers.specs.Clients.{none, named, Outcome, initial_clients, monitored, emitted_of, held_in, held_in_all}
use Rattle.clients_answers.specs.declared.RanFor.{RanFor}
use Rattle.clients_answers.specs.Clients.{receive_for_refusal, refused_for, received_for, answer_of, received_clients}
use Rattle.clients_answers.specs.Clients.{run_for_refusal, day_outcomes, ran_for, ran_clients, ran_for_buffer, refused_run_for}
use Rattle.clients_answers.specs.Claims.{ListClear, RightCount, holds, outcome_of}
use Rattle.clients_answers.proofs.Isolation.{isolation, own-events_as_worded}
use Rattle.clients_answers.proofs.Parting.{noninterference, event_noninterference}
use Rattle.clients_answers.proofs.Worded.{client-rows_as_worded}
use Rattle.clients_answers.proofs.Kept.{others-kept, numbers_as_worded}
use Rattle.clients_answers.proofs.Room.{room_suffices}
use Rattle.clients_answers.proofs.Single.{events-alone, clients-emitted-padded}
use Rattle.clients_answers.proofs.Eventwise.{days_as_events}
use Rattle.clients_answers.proofs.Days.{bytes-placed}
use Rattle.enforcement_clients_instances.proofs.Computing.{stepping, listing}
use Rattle.enforcement_clients_instances.specs.ListStatements.{sent, broken, waiting, waiting_signed, full, here, there, day_here, day_there, beside, day_beside}
use Rattle.enforcement_clients_instances.specs.ListStatements.{brings, own_outcomes, after_day, answer_for, Isolating, adding, added, AnyStep}
use Rattle.enforcement_clients_instances.specs.ListStatements.{crowd, pair, at_end, end_pair, OpensW, Rows, DayRows}
use Rattle.enforcement_clients_instances.specs.ListStatements.{OneDay, Refusals, Keeping, Alone, numbers, Numbering}

-- a day that is accepted is not one that 16 refuses, nor is one that 12 refuses
not_16 : (n m : ℕ) → n ≡ m → m < 16 → n ≡ 16 → ⊥
not_16 n m h l z = omega arith

-- noninterference: its hypotheses, and what the days bring the client
own-events : events_of 0 (named day_here) ≡ events_of 2 (named day_there)
unfolding listing
own-events = refl

accepted-here : run_for_refusal automaton_w table_w here day_here (filled 10 9) ≡ 0
unfolding listing
accepted-here = rw valid-w refl

accepted-there : run_for_refusal automaton_w table_w there day_there (filled 13 9) ≡ 0
unfolding listing
accepted-there = rw valid-w refl

part-here : part_of 0 (named day_here) (day_outcomes automaton_w table_w here day_here (filled 10 9)) ≡ own_outcomes
unfolding listing
part-here = rw valid-w refl

last-here : get_or (ran_clients automaton_w table_w here day_here (filled 10 9)) 0 none ≡ after_day
unfolding listing
last-here = rw valid-w refl

-- of the broken one, over nines
broken-events : events_of 1 (named day_here) ≡ events_of 0 (named day_beside)
unfolding listing
broken-events = refl

nines_here : run_for_refusal automaton_w (filled 14 9) here day_here (filled 10 9) ≡ 0
unfolding listing
nines_here = rw valid-w refl

nines_beside : run_for_refusal automaton_w (filled 14 9) beside day_beside (filled 5 9) ≡ 0
unfolding listing
nines_beside = rw valid-w refl

broken-here : part_of 1 (named day_here) (day_outcomes automaton_w (filled 14 9) here day_here (filled 10 9)) ≡ brings 13 ∷ []
unfolding listing
broken-here = rw valid-w refl

broken-last-here : get_or (ran_clients automaton_w (filled 14 9) here day_here (filled 10 9)) 1 none ≡ broken
unfolding listing
broken-last-here = rw valid-w refl

-- with no table
short-here : run_for_refusal automaton_w [] here day_here [] ≡ 12
unfolding listing
short-here = rw valid-w refl

short-there : run_for_refusal automaton_w [] there day_there [] ≡ 12
unfolding listing
short-there = rw valid-w refl

short-last-here : get_or (ran_clients automaton_w [] here day_here []) 0 none ≡ waiting
unfolding listing
short-last-here = rw valid-w refl

no_room-there : run_for_refusal automaton_w table_w there day_there (filled 12 9) ≡ 16
unfolding listing
no_room-there = rw valid-w refl

-- one event here
event-here : received_for automaton_w table_w here 0 0 ≡ answer_for (0 ∷ []) (1 ∷ [])
unfolding listing
event-here = rw valid-w refl

event-last-here : get_or (received_clients automaton_w table_w here 0 0) 0 none ≡ waiting_signed
unfolding listing
event-last-here = rw valid-w refl

broken-event-here : (received_for automaton_w (filled 14 9) here 1 2).refusal ≡ 13
unfolding listing
broken-event-here = rw valid-w refl

broken-event-last-here : get_or (received_clients automaton_w (filled 14 9) here 1 2) 1 none ≡ broken
unfolding listing
broken-event-last-here = rw valid-w refl

pub isolating : Isolating
isolating =
    let same =
    noninterference automaton_w table_w here there day_here day_there (filled 10 9) (filled 13 9) 0 2 refl (omega arith) (omega arith) refl
    own-events (not_16 _ 0 accepted-here (omega arith)) (not_16 _ 0 accepted-there (omega arith)) in
    let nines =
    noninterference automaton_w (filled 14 9) here beside day_here day_beside (filled 10 9) (filled 5 9) 1 0 refl (omega arith) (omega arith) refl
    broken-events (not_16 _ 0 nines_here (omega arith)) (not_16 _ 0 nines_beside (omega arith)) in
    let short =
    noninterference automaton_w [] here there day_here day_there [] [] 0 2 refl (omega arith) (omega arith) refl
    own-events (not_16 _ 12 short-here (omega arith)) (not_16 _ 12 short-there (omega arith)) in
    let one = event_noninterference automaton_w table_w here there 0 2 0 refl (omega arith) (omega arith) refl in
    let broken-one = event_noninterference automaton_w (filled 14 9) here beside 1 0 2 refl (omega arith) (omega arith) refl in
    record {
      part-here = part-here;
      last-here = last-here;
      refusal = sym same.refusal ∙ accepted-here;
      part = sym same.part ∙ part-here;
      last = sym same.last ∙ last-here;
      broken-here = broken-here;
      broken-part = sym nines.part ∙ broken-here;
      broken-last = sym nines.last ∙ broken-last-here;
      short = sym short.refusal ∙ short-here;
      short-last = sym short.last ∙ short-last-here;
      no_room = no_room-there;
      event = sym one.0 ∙ event-here;
      event-last = sym one.1 ∙ event-last-here;
      broken-event = ap (λ r. r.refusal) (sym broken-one.0) ∙ broken-event-here;
      broken-event-last = sym broken-one.1 ∙ broken-event-last-here;
    }

-- isolation for any step
own-added : events_of 1 added ≡ 1 ∷ 2 ∷ []
own-added =
    let said = own-events_as_worded ℕ 1 in
    said.own 1 _ ∙
    ap (λ es. 1 ∷ es) (said.other 0 5 _ (λ h. omega arith) ∙ said.other 7 3 _ (λ h. omega arith) ∙ said.own 2 _ ∙ ap (λ es. 2 ∷ es) said.no_event)

part-added : part_of {O = ℕ} 1 added (11 ∷ 12 ∷ 13 ∷ 14 ∷ []) ≡ 11 ∷ 14 ∷ []
part-added =
    let said = own-events_as_worded ℕ 1 in
    said.own-part 1 _ 11 _ ∙
    ap (λ os. 11 ∷ os)
    (said.other-part 0 5 _ 12 _ (λ h. omega arith) ∙
    said.other-part 7 3 _ 13 _ (λ h. omega arith) ∙
    said.own-part 2 _ 14 _ ∙
    ap (λ os. 14 ∷ os) (said.no_part []))

alone-added : alone adding 20 (1 ∷ 2 ∷ []) ≡ 21 ∷ 23 ∷ []
unfolding listing
alone-added = refl

after-added : after_alone adding 20 (1 ∷ 2 ∷ []) ≡ 23
unfolding listing
after-added = refl

pub any_step : AnyStep
any_step =
    let said = isolation ℕ ℕ adding (10 ∷ 20 ∷ []) added 1 (omega arith) in
    record {
      part = said.part ∙ ap (alone adding 20) own-added ∙ alone-added;
      last = said.last ∙ ap (after_alone adding 20) own-added ∙ after-added;
      count = said.count;
      own = own-added;
      own-part = part-added;
    }

-- the rows: what 11, 12 and 13 refuse
pub short_13 : short automaton_w (filled 13 9) ≡ true
unfolding listing
short_13 = refl

pub long-w : short automaton_w table_w ≡ false
unfolding listing
long-w = refl

pub broken_fails : consistent automaton_w broken ≡ false
unfolding listing
broken_fails = refl

pub held-stands : consistent automaton_w full ≡ true
unfolding listing
held-stands = refl

-- with two Pages held, signed, W is full for Receipt, which does not open the buffer
receipt-full : Full automaton_w (held_events full) 3
unfolding automaton_w pad held_events
receipt-full = (omega arith, refl, omega arith)

receipt-opens-nothing : OpensW full 3 → ⊥
unfolding stepping
receipt-opens-nothing o = omega (arith, opens-releases (by_table automaton_w table_w) automaton_w 1 (2 ∷ 2 ∷ []) 3 o)

pub receipt-shut : Shut (Tabled automaton_w table_w) automaton_w full.state (held_events full) 3
receipt-shut = (receipt-full, receipt-opens-nothing)

pub waiting-stands : consistent automaton_w waiting ≡ true
unfolding listing
waiting-stands = refl

pub end_stands : consistent automaton_w at_end ≡ true
unfolding listing
end_stands = refl

pub crowd-length : (n : ℕ) → length (crowd n) ≡ n
unfolding initial_clients
crowd-length n = length-replicate n (initial_of automaton_w)

one_of : (n i : ℕ) → i < n → get_or (crowd n) i none ≡ initial_of automaton_w
unfolding initial_clients
one_of n i h = get_or-replicate n i (initial_of automaton_w) none h

one-stands : (n i : ℕ) → i < n → consistent automaton_w (get_or (crowd n) i none) ≡ true
unfolding stepping
one-stands n i h = ap (consistent automaton_w) (one_of n i h)

one_holds : (n i : ℕ) → i < n → length (held_events (get_or (crowd n) i none)) ≡ 0
unfolding initial_of held_events pad
one_holds n i h = ap (λ (c : Configuration). length (held_events c)) (one_of n i h)

one-counts : (n i : ℕ) → i < n → input_number (get_or (crowd n) i none).received ≡ 0
unfolding initial_of
one-counts n i h = ap (λ (c : Configuration). input_number c.received) (one_of n i h)

pub clear_w : (cs : List Configuration) → RightCount (length cs) → ListClear automaton_w table_w (length cs)
clear_w cs h = record { record_valid = valid-w; table-long = long-w; count-right = h }

clear_crowd : (n : ℕ) → RightCount n → ListClear automaton_w table_w (length (crowd n))
clear_crowd n h = rw (crowd-length n) (record { record_valid = valid-w; table-long = long-w; count-right = h })

-- and what they hold
holds-pair : holds automaton_w pair ≡ 2
unfolding listing
holds-pair = refl

holds-crowd : holds automaton_w (crowd 500) ≡ 0
unfolding listing
holds-crowd = refl

holds-one : holds automaton_w (crowd 1) ≡ 0
unfolding listing
holds-one = refl

pub rows : Rows
unfolding automaton_w pad
rows =
    let said = client-rows_as_worded automaton_w table_w in
    let two = clear_w pair (omega arith, omega arith) in
    let ends = clear_w end_pair (omega arith, omega arith) in
    record {
      row_11 = ((client-rows_as_worded wide_v (table automaton_v) []).event-first 0 0).row_11.1 invalid_wide;
      row_12 = ((client-rows_as_worded automaton_w (filled 13 9) []).event-first 0 0).row_12.1 (valid-w, short_13);
      none_lent = λ i e. ((said []).event-first i e).row-20.1 (valid-w, long-w, inl refl);
      too_many = λ i e. ((said (crowd 501)).event-first i e).row-20.1 (valid-w, long-w, inr (omega (arith, crowd-length 501)));
      one_lent =
          ((said (crowd 1)).event 0 0).accepted.1 (
            clear_crowd 1 (omega arith, omega arith),
            omega (arith, crowd-length 1),
            one-stands 1 0 (omega arith),
            (sign_fits _ _ _, λ z. omega (arith, one-counts 1 0 (omega arith))),
          );
      past_one = ((said (crowd 1)).event 1 0).row-19.1 (clear_crowd 1 (omega arith, omega arith), omega (arith, crowd-length 1));
      last-of-500 =
          ((said (crowd 500)).event 499 2).accepted.1 (
            clear_crowd 500 (omega arith, omega arith),
            omega (arith, crowd-length 500),
            one-stands 500 499 (omega arith),
            ((omega arith, inr (inl (omega (arith, one_holds 500 499 (omega arith))))), λ z. omega (arith, one-counts 500 499 (omega arith))),
          );
      past-500 = ((said (crowd 500)).event 500 2).row-19.1 (clear_crowd 500 (omega arith, omega arith), omega (arith, crowd-length 500));
      no-client = ((said pair).event 2 9).row-19.1 (two, omega arith);
      row-13 = ((said pair).event 0 9).row-13.1 (two, omega arith, broken_fails);
      row-14 = ((said pair).event 1 4).row-14.1 (two, omega arith, held-stands, omega arith);
      row-15 = ((said pair).event 1 3).row-15.1 (two, omega arith, held-stands, receipt-shut);
      row-23 = ((said end_pair).event 0 0).row-23.1 (ends, omega arith, end_stands, (sign_fits _ _ _, refl));
      row-0-beside = ((said end_pair).event 1 0).accepted.1 (ends, omega arith, waiting-stands, (sign_fits _ _ _, λ z. omega arith));
      row_0 = ((said pair).event 1 1).accepted.1 (two, omega arith, held-stands, ((omega arith, inl λ c. omega arith), λ z. omega arith));
      answered =
          (said (crowd 500)).answered 500 2 ∙
          ((said (crowd 500)).event 500 2).row-19.1 (clear_crowd 500 (omega arith, omega arith), omega (arith, crowd-length 500));
      only-11 = λ a i e h. ((client-rows_as_worded a table_w here).event-first i e).row_11.0 h;
      only-12 = λ t h.
          let k = (short_as_worded automaton_w t).0 (((client-rows_as_worded automaton_w t here).event-first 0 0).row_12.0 h).1 in
          omega (arith, buffers-w);
      only-20 = λ cs i e h. (((said cs).event-first i e).row-20.0 h).2;
      only-19 = λ cs i e h. (((said cs).event i e).row-19.0 h).1;
      only-13 = λ c e h. (((said (broken ∷ c ∷ [])).event 1 e).row-13.0 h).2;
      only-14 = λ cs i e h. (((said cs).event i e).row-14.0 h).3;
      only-15 = λ cs i e h. let k = (((said cs).event i e).row-15.0 h).3 in (k.0.2, k.1);
      only-23 = λ cs i e h. (((said cs).event i e).row-23.0 h).3.1;
      only-0 = λ c h. either (((said (broken ∷ c ∷ [])).event 1 2).accepted.0 h).3.0.1 (λ k. absurd (k refl)) (λ l. l);
    }

pub day-rows : DayRows
unfolding automaton_w pad
day-rows =
    let said = client-rows_as_worded automaton_w table_w in
    let two = clear_w pair (omega arith, omega arith) in
    record {
      row_11 = ((client-rows_as_worded wide_v (table automaton_v) []).day-first (0 ∷ []) []).row_11.1 invalid_wide;
      row_12 = ((client-rows_as_worded automaton_w (filled 13 9) []).day-first (0 ∷ []) []).row_12.1 (valid-w, short_13);
      none_lent = λ vs. ((said []).day-first vs []).row-20.1 (valid-w, long-w, inl refl);
      too_many = λ vs. ((said (crowd 501)).day-first vs []).row-20.1 (valid-w, long-w, inr (omega (arith, crowd-length 501)));
      one_lent = ((said (crowd 1)).accepted _ _).1 (clear_crowd 1 (omega arith, omega arith), omega (arith, holds-one));
      full-count = ((said (crowd 500)).accepted _ _).1 (clear_crowd 500 (omega arith, omega arith), omega (arith, holds-crowd));
      exact-room = ((said pair).accepted (sent 0 0 ∷ []) (filled 3 9)).1 (two, omega (arith, holds-pair));
      row-16 = ((said pair).row-16 (sent 0 0 ∷ []) (filled 2 9)).1 (two, omega (arith, holds-pair));
      broken-holds = (said pair).broken broken broken_fails;
      waiting-holds = (said pair).holding waiting waiting-stands;
      together = (said pair).together ∙ holds-pair;
      answered =
          (said pair).day-answered (sent 0 0 ∷ []) (filled 2 9) ∙
          ((said pair).row-16 (sent 0 0 ∷ []) (filled 2 9)).1 (two, omega (arith, holds-pair));
      only-11 = λ a vs out h. ((client-rows_as_worded a table_w here).day-first vs out).row_11.0 h;
      only-12 = λ t vs out h. (((client-rows_as_worded automaton_w t here).day-first vs out).row_12.0 h).1;
      only-20 = λ cs vs out h. (((said cs).day-first vs out).row-20.0 h).2;
      only-16 = λ out h. let l = (((said pair).row-16 (sent 0 0 ∷ []) out).0 h).1 in omega (arith, holds-pair);
      only-0 = λ out h. let l = (((said pair).accepted (sent 0 0 ∷ []) out).0 h).1 in omega (arith, holds-pair);
      inside-19 = ((said pair).inside 2 9).row-19.1 (tt, omega arith);
      inside-13 = ((said pair).inside 0 9).row-13.1 (tt, omega arith, broken_fails);
      inside-14 = ((said pair).inside 1 4).row-14.1 (tt, omega arith, held-stands, omega arith);
      inside-15 = ((said pair).inside 1 3).row-15.1 (tt, omega arith, held-stands, receipt-shut);
      inside-23 = ((said end_pair).inside 0 0).row-23.1 (tt, omega arith, end_stands, (sign_fits _ _ _, refl));
      inside-0 =
          ((said pair).inside 1 1).accepted.1 (tt, omega arith, held-stands, ((omega arith, inl λ c. omega arith), λ z. omega arith));
      inside-only-19 = λ cs i e h. (((said cs).inside i e).row-19.0 h).1;
      inside-only-14 = λ cs i e h. (((said cs).inside i e).row-14.0 h).3;
      inside-only-15 = λ cs i e h. let k = (((said cs).inside i e).row-15.0 h).3 in (k.0.2, k.1);
      inside-only-23 = λ cs i e h. (((said cs).inside i e).row-23.0 h).3.1;
      inside-only-0 = λ cs i e h. (((said cs).inside i e).accepted.0 h).2;
      inside-only-13 = λ c e h. (((said (broken ∷ c ∷ [])).inside 1 e).row-13.0 h).2;
    }

-- the day here
rows-here : map (λ (x : Outcome). x.refusal) (day_outcomes automaton_w table_w here day_here (filled 10 9))
    ≡ 0 ∷ 13 ∷ 0 ∷ 0 ∷ 0 ∷ 0 ∷ 19 ∷ 15 ∷ 14 ∷ []
unfolding listing
rows-here = rw valid-w refl

ran-here : ran_for automaton_w table_w here day_here (filled 10 9) ≡ record { refusal = 0; length = 4; refused = 4 }
unfolding listing
ran-here = rw valid-w refl

output-here : ran_for_buffer automaton_w table_w here day_here (filled 10 9) ≡ 0 ∷ 2 ∷ 3 ∷ 3 ∷ 9 ∷ 9 ∷ 9 ∷ 9 ∷ 9 ∷ 9 ∷ []
unfolding listing
output-here = rw valid-w refl

clients-here : ran_clients automaton_w table_w here day_here (filled 10 9)
    ≡ after_day ∷ broken ∷ configuration (at 1 [] [] 2 2) ∷ []
unfolding listing
clients-here = rw valid-w refl

-- its events before Receipt and after client 2's, which comes right behind it
abbrev first_two : List (ℕ × ℕ)
first_two = (0, 0) ∷ (1, 2) ∷ []

abbrev last_five : List (ℕ × ℕ)
last_five = (0, 2) ∷ (0, 2) ∷ (3, 0) ∷ (0, 2) ∷ (0, 7) ∷ []

parts-here : named day_here ≡ first_two ++ (0, 3) ∷ (2, 3) ∷ last_five
unfolding listing
parts-here = refl

-- a byte's place: what the claim says of it, and its values
placed-own : take 2 (drop 1 (ran_for_buffer automaton_w table_w here day_here (filled 10 9))) ≡ 2 ∷ 3 ∷ []
unfolding stepping
placed-own = bytes-placed automaton_w table_w here day_here (filled 10 9) accepted-here first_two (0, 3) ((2, 3) ∷ last_five) parts-here

placed-other : take 1 (drop 3 (ran_for_buffer automaton_w table_w here day_here (filled 10 9))) ≡ 3 ∷ []
unfolding stepping
placed-other =
    bytes-placed automaton_w table_w here day_here (filled 10 9) accepted-here (first_two ++ (0, 3) ∷ []) (2, 3) last_five parts-here

emitted-here : length (emitted_of (outcomes (monitored automaton_w table_w) here (named day_here))) ≡ 4
unfolding listing
emitted-here = refl

held-here : held_in_all automaton_w (changed_by (monitored automaton_w table_w) here (named day_here)) ≡ 2
unfolding listing
held-here = refl

-- a day that uses up its room
tight-here : ran_for_buffer automaton_w table_w here (sent 0 0 ∷ sent 0 3 ∷ []) (filled 3 9) ≡ 0 ∷ 2 ∷ 3 ∷ []
unfolding listing
tight-here = rw valid-w refl

fits-here : length (emitted_of (outcomes (monitored automaton_w table_w) here (named day_here)))
    + held_in_all automaton_w (changed_by (monitored automaton_w table_w) here (named day_here)) ≤ 10
unfolding named held_in_all held_in stepping
fits-here = (room_suffices automaton_w table_w here).fits (named day_here)

pub one-day : OneDay
one-day =
    let events = days_as_events automaton_w table_w here day_here (filled 10 9) accepted-here in
    let room = room_suffices automaton_w table_w here in
    let ran = sym events.ran ∙ ran-here in
    record {
      rows = rows-here;
      ran = ran-here;
      output = output-here;
      clients = clients-here;
      events-clients = sym events.clients ∙ clients-here;
      events-rows = ap (map (λ (x : Outcome). x.refusal)) (sym events.each) ∙ rows-here;
      events-written = ap (λ (r : RanFor). r.length) ran;
      events-refused = ap (λ (r : RanFor). r.refused) ran;
      events-output = sym events.output ∙ output-here;
      placed = placed-own;
      placed-other = placed-other;
      emitted-count = emitted-here;
      held_after = held-here;
      fits = fits-here;
      written = room.written day_here (filled 10 9);
      output-length = room.output-length day_here (filled 10 9);
      tight = tight-here;
      tight-written = room.written (sent 0 0 ∷ sent 0 3 ∷ []) (filled 3 9);
    }

-- refused calls
refusals_wide : (received_for wide_v table_w here 0 0 ≡ refused_for 11) × (ran_for wide_v table_w here day_here (filled 10 9) ≡ refused_run_for 11)
unfolding listing
refusals_wide = (rw invalid_wide refl, rw invalid_wide refl)

pub refusals : Refusals
unfolding listing
refusals =
    record {
      event-11 = refusals_wide.0;
      event-12 = rw valid-w refl;
      event-20 = rw valid-w refl;
      event-19 = rw valid-w refl;
      event-13 = rw valid-w refl;
      day-11 = refusals_wide.1;
      day-12 = rw valid-w refl;
      day_20 = rw valid-w refl;
      day_16 = rw valid-w refl;
    }

-- a Page of the broken one here, and Sign of a client that is not there
refused-broken : receive_for_refusal automaton_w table_w here 1 2 ≡ 13
refused-broken =
    ((client-rows_as_worded automaton_w table_w here).event 1 2).row-13.1 (clear_w here (omega arith, omega arith), omega arith, broken_fails)

refused-absent : receive_for_refusal automaton_w table_w here 3 0 ≡ 19
refused-absent = ((client-rows_as_worded automaton_w table_w here).event 3 0).row-19.1 (clear_w here (omega arith, omega arith), omega arith)

passed-absent : (outcome (monitored automaton_w table_w) here 3 0).refusal ≡ 19
passed-absent = ((client-rows_as_worded automaton_w table_w here).inside 3 0).row-19.1 (tt, omega arith)

no_room-here : run_for_refusal automaton_w table_w here day_here (filled 9 9) ≡ 16
unfolding listing
no_room-here = rw valid-w refl

no_own : events_of 2 (named (sent 0 0 ∷ sent 1 2 ∷ [])) ≡ []
unfolding listing
no_own = refl

not_0 : (n m : ℕ) → n ≡ m → 0 < m → n ≡ 0 → ⊥
not_0 n m h l z = omega arith

pub keeping : Keeping
keeping =
    let kept = others-kept automaton_w table_w here in
    record {
      others = kept.others 0 0 1 (λ h. omega arith);
      other-end = kept.others 0 0 2 (λ h. omega arith);
      refused_13 = kept.refused-event 1 2 (not_0 _ 13 refused-broken (omega arith));
      refused-19 = kept.refused-event 3 0 (not_0 _ 19 refused-absent (omega arith));
      passed_over = kept.passed_over 3 0 (not_0 _ 19 passed-absent (omega arith));
      refused-day = kept.refused-day day_here (filled 9 9) (not_0 _ 16 no_room-here (omega arith));
      refused-output = kept.refused-output day_here (filled 9 9) (not_0 _ 16 no_room-here (omega arith));
      refused-answer = kept.refused-answer 3 0 (not_0 _ 19 refused-absent (omega arith)) ∙ ap refused_for refused-absent;
      refused-ran = kept.refused-ran day_here (filled 9 9) (not_0 _ 16 no_room-here (omega arith)) ∙ ap refused_run_for no_room-here;
      without = kept.without (sent 0 0 ∷ sent 1 2 ∷ []) (filled 3 9) 2 (omega arith) no_own;
      count-event = kept.count-event 0 0;
      count-day = kept.count-day day_here (filled 10 9);
    }

-- what the calls on their configurations alone answer
sign-alone : received automaton_w table_w waiting 0 ≡ answer 0 (0 ∷ []) (1 ∷ []) (at 1 (2 ∷ []) (0 ∷ []) 2 1) true
unfolding stepping table_rows call_rows receive_refusal received
sign-alone = rw valid-w refl

broken-alone : received automaton_w table_w broken 2 ≡ refused_event 13 broken
unfolding stepping table_rows call_rows receive_refusal received
broken-alone = rw valid-w refl

pub alone-w : Alone
unfolding pad
alone-w =
    let clear = clear_w here (omega arith, omega arith) in
    let sign = events-alone automaton_w table_w here clear 0 0 (omega arith) in
    let page = events-alone automaton_w table_w here clear 1 2 (omega arith) in
    let few : (received_for automaton_w table_w here 0 0).count ≤ 1 = rw (sign.answer, sign-alone) (omega arith) in
    record {
      answer = sign.answer ∙ ap answer_of sign-alone;
      next = sign.next ∙ ap (λ r. r.configuration) sign-alone;
      inside = sign.inside ∙ ap (λ r. outcome_of (answer_of r)) sign-alone;
      padded = (clients-emitted-padded automaton_w table_w here 0 0).1.1 1 few;
      places-padded = (clients-emitted-padded automaton_w table_w here 0 0).2.1 1 few;
      broken-answer = page.answer ∙ ap answer_of broken-alone;
      broken-next = page.next ∙ ap (λ r. r.configuration) broken-alone;
    }

parts-numbers : named numbers ≡ (65535, 65535) ∷ (2, 3) ∷ (0, 65535) ∷ []
unfolding listing
parts-numbers = refl

pub numbering : Numbering
numbering =
    let said = rw parts-numbers at (numbers_as_worded numbers) in
    record { parts = parts-numbers; whole = said.0; small = said.1.0 }
