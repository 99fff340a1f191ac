-- The instances of the claims on the monitor's calls and on the published function.
use Prim.Native.Nat.{ℕ, zero, suc, ◌*◌, ◌<◌, ◌≤◌}
use mathlib.Core.Path.{◌≡◌, refl, sym, ◌∙◌, ap, subst}
use mathlib.Core.Logic.{inl, inr}
use mathlib.Core.Bool.{true, false}
use mathlib.Core.List.{List, [], ◌∷◌, ◌++◌, map}
use native.Mathlib.Omega.{arith}
use lib.ListN.{length, get_or, take, drop, get_or-append}
use borrow.Author.Tests.{le-ltb}
use Rattle.base.specs.Pad.{pad}
use Rattle.base.specs.Masks.{has}
use Rattle.base.proofs.Bools.{either}
use Rattle.automaton.specs.declared.Automaton.{Automaton}
use Rattle.automaton.specs.Automaton.{accepts, reached, valid}
use Rattle.automaton.proofs.Facts.{valid_as_worded}
use Rattle.automaton.proofs.Classes.{class-one, flag_one}
use Rattle.solver_sets.specs.Sets.{accepting_set, admits, stays, refine, settle, settled, sets_of, empty_sets, into, sets_for}
use Rattle.solver_sets.specs.Table.{index, short, table, Buffer}
use Rattle.solver_sets.specs.Claims.{Winning}
use Rattle.solver_sets.proofs.Numbering.{numbered}
use Rattle.solver_sets.proofs.Tables.{short_as_worded}
use Rattle.configuration.specs.Configuration.{Position, held_events, consistent, configuration, initial_of}
use Rattle.monitor_rule.specs.Step.{by_sets, by_table, qualifying, release}
use Rattle.automaton_symbols.specs.Symbols.{ranks_to, ranking_of}
use Rattle.monitor_rule.specs.Fronts.{index_in, rest_in, found_in}
use Rattle.monitor_rule.specs.Claims.{Full, Opens, Shut, Fits, Tabled, RowsOfEvent, Among, ListsQualifying, Longest}
use Rattle.monitor_rule.proofs.Rows.{opens-releases, event-rows_as_worded}
use Rattle.monitor_rule.proofs.Worded.{search_as_worded, releases-longest, only-longest}
use Rattle.monitor_rule.proofs.Solved.{search_of_solved}
use Rattle.monitor_answers.specs.Answers.{is_winning, status, received}
use Rattle.monitor_answers.specs.Claims.{Clear}
use Rattle.configuration.proofs.Facts.{consistent_as_worded}
use Rattle.monitor_answers.proofs.Accepted.{emitted-padded}
use Rattle.monitor_answers.proofs.Worded.{status-rows_as_worded, receive-rows_as_worded, run-rows_as_worded, room_as_worded}
use Rattle.enforcement.specs.Store.{Store, empty, state_of, added, released, store, store_all, lacks_room, feed, feed_all, refused_of}
use Rattle.enforcement.specs.Store.{accepted_of, accepted_by, accepted_all}
use Rattle.enforcement.specs.Calls.{Call, handed_back, reply, fed_by, configuration_at, since, sources_since, expected, expected_all}
use Rattle.enforcement.specs.Moments.{Moment, effect_at, within, brought_by, brought_all, moments}
use Rattle.enforcement.specs.Strategy.{Lost, lost_bound}
use Rattle.enforcement.specs.Claims.{Enforced, winning_after, output_after}
use Rattle.enforcement.specs.Claims.{arrival_at, strategy_release, our_release, strategy_output, strategy_buffer, LongerIsLost}
use Rattle.enforcement.specs.Published.{Releases, ShutAt, EndedAt, AdmittedAt}
use Rattle.enforcement.specs.Answers.{SameBits}
use Rattle.enforcement.proofs.Published.{follows_published}
use Rattle.enforcement.proofs.Tables.{table_exists}
use Rattle.enforcement.proofs.Demand3.{demand3, demand3-solved}
use Rattle.enforcement.proofs.Driven.{driven_out}
use Rattle.enforcement.proofs.Alone.{accepted-alone}
use Rattle.enforcement.proofs.Said.{once-winning-said}
use Rattle.enforcement.proofs.Answers.{flag-is-status, flag-stays, others_ignored}
use Rattle.enforcement_cases.specs.Cases.{automaton_v, automaton_w, at}
use Rattle.enforcement_instances.specs.Statements.{filled, table_w}
use Rattle.enforcement_instances.specs.MonitorStatements.{wide_v, start_v, two_pages, both_held, at_end, row_w, Rows, automaton_loops, found_w, SearchFinds, store_of, two_held, ended, Releasing}
use Rattle.enforcement_instances.specs.MonitorStatements.{calls, page, sign, withdraw, withdrawn, eager, answers, Fields}
use Rattle.enforcement_instances.specs.MonitorStatements.{long_calls, long_last, long_answers, long_store, Day, Enforcing}
use Rattle.enforcement_instances.proofs.Sheets.{valid-w, valid-v, solves_w, buffers-w, solved-w, solved-v, computing}

-- V's start, with its table; and W with two Pages held, and at the count's end
clear_v : Clear automaton_v (table automaton_v) start_v
unfolding computing automaton_v
clear_v =
    record {
      record_valid = valid-v;
      table-long = le-ltb (length (table automaton_v)) _ solved-v.long;
      configuration-consistent = refl;
    }

clear_w : Clear automaton_w table_w (configuration two_pages)
unfolding computing
clear_w = record { record_valid = valid-w; table-long = refl; configuration-consistent = refl }

clear_end : Clear automaton_w table_w (configuration at_end)
unfolding computing
clear_end = record { record_valid = valid-w; table-long = refl; configuration-consistent = refl }

-- Sign is taken whatever is held and wherever one may rest
pub sign_fits : (P : List ℕ → ℕ → Type 0) (q : ℕ) (w : List ℕ) → Fits P automaton_w q w 0
unfolding automaton_w pad
sign_fits P q w = (omega arith, inl λ c. omega arith)

-- with two Pages held W is full for a third, which does not open the buffer, by its table
pub third-full : Full automaton_w (2 ∷ 2 ∷ []) 2
unfolding automaton_w pad
third-full = (omega arith, refl, omega arith)

third-opens-nothing : Opens (Tabled automaton_w table_w) automaton_w 0 (2 ∷ 2 ∷ []) 2 → ⊥
unfolding computing
third-opens-nothing o = omega (arith, opens-releases (by_table automaton_w table_w) automaton_w 0 (2 ∷ 2 ∷ []) 2 o)

pub third-shut : Shut (Tabled automaton_w table_w) automaton_w 0 (2 ∷ 2 ∷ []) 2
third-shut = (third-full, third-opens-nothing)

-- the rows of W's events, by its table
rows-w : (p : Position) (e : ℕ) → RowsOfEvent (Tabled automaton_w table_w) automaton_w p.state p.buffer p.received e (row_w p e)
unfolding by_table
rows-w p e = event-rows_as_worded (by_table automaton_w table_w) automaton_w p e

-- what rows 11, 12 and 13 refuse
pub invalid_wide : valid wide_v ≡ false
unfolding computing automaton_v
invalid_wide = refl

short-three : short automaton_v (filled 3 0) ≡ true
unfolding computing automaton_v
short-three = refl

inconsistent_three : consistent automaton_v (configuration (at 3 [] [] 0 0)) ≡ false
unfolding computing automaton_v
inconsistent_three = refl

pub rows : Rows
unfolding automaton_v automaton_w pad held_events initial_of
rows =
    let t = table automaton_v in
    let status-rows = status-rows_as_worded automaton_v t in
    let run-rows = run-rows_as_worded automaton_v t start_v (0 ∷ 1 ∷ []) in
    record {
      class-one = (class-one automaton_w 2).1 refl;
      row_11 = (status-rows_as_worded wide_v t start_v).first_rows.row_11.1 invalid_wide;
      row_12 = (status-rows_as_worded automaton_v (filled 3 0) start_v).first_rows.row_12.1 (valid-v, short-three);
      row-13 = (status-rows (configuration (at 3 [] [] 0 0))).first_rows.row-13.1 (valid-v, clear_v.table-long, inconsistent_three);
      passed = (status-rows start_v).accepted.1 clear_v;
      row-14 = (receive-rows_as_worded automaton_v t start_v 2).row-14.1 (clear_v, omega arith);
      row-15 = (receive-rows_as_worded automaton_w table_w (configuration two_pages) 2).row-15.1 (clear_w, third-shut);
      row-23 = (receive-rows_as_worded automaton_w table_w (configuration at_end) 0).row-23.1 (clear_end, (sign_fits _ 1 [], refl));
      row-16 = (run-rows (9 ∷ [])).row-16.1 (clear_v, omega arith);
      only-14 = λ p e. (rows-w p e).row-14.0;
      only-15 = λ p h. let k = (rows-w p 2).row-15.0 h in (k.0.2, k.1);
      only-23 = λ p e h. ((rows-w p e).row-23.0 h).1;
      only-0 = λ p h.
          let k = (rows-w p 2).accepted.0 h in
          (either k.0.1 (λ c. absurd (c refl)) (λ l. l), k.1);
      event-14 = λ p. (rows-w p 4).row-14.1 (omega arith);
      event-23 = λ p h. (rows-w p 0).row-23.1 (sign_fits _ p.state p.buffer, h);
      event-15 = (rows-w (at 0 (2 ∷ 2 ∷ []) (7 ∷ 8 ∷ []) 4294967295 4294967293) 2).row-15.1 third-shut;
      event-0 = (rows-w (at 0 [] [] 0 0) 2).accepted.1 ((omega arith, inr (inl (omega arith))), λ z. omega arith);
      receive-11 = (receive-rows_as_worded wide_v t start_v 0).first_rows.row_11.1 invalid_wide;
      receive-0 =
          (receive-rows_as_worded automaton_v t start_v 1).accepted.1 (clear_v, ((omega arith, inr (inl (omega arith))), λ z. omega arith));
      receive-only-0 = λ e h. ((receive-rows_as_worded automaton_w table_w (configuration two_pages) e).accepted.0 h).1;
      receive-only-23 = λ e h. ((receive-rows_as_worded automaton_w table_w (configuration at_end) e).row-23.0 h).1;
      run-11 = (run-rows_as_worded wide_v t start_v (0 ∷ 1 ∷ []) (9 ∷ [])).first_rows.row_11.1 invalid_wide;
      run-0 = (run-rows (9 ∷ 9 ∷ [])).accepted.1 (clear_v, omega arith);
      run-only-0 = λ out h. ((run-rows out).accepted.0 h).1;
      lacks = (room_as_worded 1 (0 ∷ 1 ∷ []) 0).lacks.1 (omega arith);
      enough = λ size h. (room_as_worded size (0 ∷ 1 ∷ []) 0).enough.0 h;
      valid-words = λ h. ((valid_as_worded wide_v).0 h).states-high;
      short-words = λ l h. let k = (short_as_worded automaton_w l).0 h in omega (arith, buffers-w);
      consistent-words = λ c l m h. ((consistent_as_worded automaton_v c valid-v l m).0 h).state-below;
      flag_one = (flag_one automaton_v 2).1 refl;
      only-16 = λ out h. ((run-rows out).row-16.0 h).1;
    }

-- what computes calls over W's table, and their accepted events
unfoldable pub calling : ℕ
unfolding computing handed_back reply effect_at within brought_by brought_all moments winning_after
calling = 0

-- what computes the published function
unfoldable pub publishing : ℕ
unfolding
    computing accepting_set admits stays refine settle settled sets_of empty_sets into sets_for accepts by_sets
    state_of added released store store_all lacks_room feed feed_all refused_of accepted_of accepted_by accepted_all
    fed_by configuration_at since sources_since expected expected_all
publishing = 0

-- what W's search finds with Page and Receipt held, signed, over its table, and in state 3 with
-- Page; V's and the loops'
found-w : found_w 1 (2 ∷ 3 ∷ []) ≡ 0 ∷ 2 ∷ []
unfolding computing ranking_of ranks_to index_in rest_in
found-w = refl

none-w : found_w 3 (2 ∷ []) ≡ []
unfolding computing ranking_of ranks_to index_in rest_in
none-w = refl

found-v : qualifying (by_sets automaton_v) automaton_v 0 (1 ∷ []) ≡ 0 ∷ []
unfolding publishing automaton_v
found-v = refl

found_loops : qualifying (by_sets automaton_loops) automaton_loops 0 (filled 6 0) ≡ 0 ∷ 1 ∷ 2 ∷ 3 ∷ 4 ∷ 5 ∷ 6 ∷ []
unfolding publishing automaton_loops
found_loops = refl

-- the search's words where it finds a known list
lists : (a : Automaton) (q : ℕ) (w l : List ℕ) → length w ≤ 6 → qualifying (by_sets a) a q w ≡ l
    → ListsQualifying (Winning a) a q w (pad 7 l) (length l)
unfolding by_sets found_in
lists a q w l few e = rw e at (search_as_worded (by_sets a) a q w few)

-- .. and over W's solved table
lists_w : (q : ℕ) (w l : List ℕ) → q < 4 → Buffer automaton_w w → found_w q w ≡ l → ListsQualifying (Winning automaton_w) automaton_w q w (pad 7 l) (length l)
unfolding found_in automaton_w
lists_w q w l h b e = rw e at (search_of_solved automaton_w table_w valid-w solved-w q w h b)

both-held : Buffer automaton_w (2 ∷ 3 ∷ [])
unfolding computing
both-held = (((omega arith, refl), ((omega arith, refl), tt)), omega arith)

page-held : Buffer automaton_w (2 ∷ [])
unfolding computing
page-held = (((omega arith, refl), tt), omega arith)

not-one : Among (0 ∷ 2 ∷ filled 5 0) 2 1 → ⊥
not-one l = one_of l.place l.below l.holds
  where
    one_of : (i : ℕ) → i < 2 → get_or (0 ∷ 2 ∷ filled 5 0) i 0 ≡ 1 → ⊥
    one_of zero b h = omega (arith, h)
    one_of (suc zero) b h = omega (arith, h)
    one_of (suc (suc i)) b h = omega arith

pub search_finds : SearchFinds
unfolding pad
search_finds =
    let w = lists_w 1 (2 ∷ 3 ∷ []) (0 ∷ 2 ∷ []) (omega arith) both-held found-w in
    record {
      by-table = found-w;
      found = w;
      empty-found = (w.exactly 0).0 (record { place = 0; below = omega arith; holds = refl });
      whole-found = (w.exactly 2).0 (record { place = 1; below = omega arith; holds = refl });
      page-not = λ h. not-one ((w.exactly 1).1 h);
      rising = w.rising 0 1 (omega arith) (omega arith);
      enough = w.enough;
      seven-places = w.used.0;
      zeros-past = w.used.1;
      none-by-table = none-w;
      none = lists_w 3 (2 ∷ []) [] (omega arith) page-held none-w;
      empty-by-sets = found-v;
      empty-alone = lists automaton_v 0 (1 ∷ []) (0 ∷ []) (omega arith) found-v;
      seven-by-sets = found_loops;
      seven = lists automaton_loops 0 (filled 6 0) (0 ∷ 1 ∷ 2 ∷ 3 ∷ 4 ∷ 5 ∷ 6 ∷ []) (omega arith) found_loops;
    }

-- W's longest release
longest-w : (q : ℕ) (w : List ℕ)
    → let k = release (by_sets automaton_w) automaton_w q w in Longest (Winning automaton_w) automaton_w q w (take k w) (drop k w)
unfolding by_sets
longest-w = releases-longest (by_sets automaton_w) automaton_w

both_go : release (by_sets automaton_w) automaton_w 1 (2 ∷ 3 ∷ []) ≡ 2
unfolding publishing
both_go = refl

page-stays : release (by_sets automaton_w) automaton_w 1 (2 ∷ []) ≡ 0
unfolding publishing
page-stays = refl

none-goes : release (by_sets automaton_w) automaton_w 3 (2 ∷ []) ≡ 0
unfolding publishing
none-goes = refl

-- where an output leads W
abbrev leads-w : List ℕ → ℕ
leads-w output = reached automaton_w automaton_w.initial output

signed : leads-w (0 ∷ []) ≡ 1
unfolding computing
signed = refl

-- the function after a release is settled by what the longest one is, and how many it has accepted
settles : (output sources w places v r : List ℕ) (n : ℕ) (z : Store)
    → Releases automaton_w output sources w places z → Longest (Winning automaton_w) automaton_w (leads-w output) w v r → z.accepted ≡ n
    → z ≡ store_of (output ++ v) (sources ++ take (length v) places) r (drop (length v) places) n
settles output sources w places v r n z g l count =
    let o = only-longest (Winning automaton_w) automaton_w (leads-w output) w g.front z.buffer v r g.longest l in
    λ i. record {
      output = (g.put-out ∙ ap (λ x. output ++ x) o.0) i;
      sources = (g.moved ∙ ap (λ x. sources ++ take (length x) places) o.0) i;
      buffer = o.1 i;
      places = (g.left ∙ ap (λ x. drop (length x) places) o.0) i;
      accepted = count i;
    }

-- a third Page does not open the buffer by the sets either
third-opens-none : Opens (Winning automaton_w) automaton_w (leads-w []) (2 ∷ 2 ∷ []) 2 → ⊥
unfolding publishing
third-opens-none o = omega (arith, opens-releases (by_sets automaton_w) automaton_w 0 (2 ∷ 2 ∷ []) 2 o)

pub third-shut-out : ShutAt automaton_w two_held 2
third-shut-out = (third-full, third-opens-none)

pub releasing : Releasing
unfolding automaton_w pad store_all refused_of
releasing =
    let go = rw both_go at (longest-w 1 (2 ∷ 3 ∷ [])) in
    let stay = rw page-stays at (longest-w 1 (2 ∷ [])) in
    let ready = follows_published automaton_w (store_of [] [] (2 ∷ 3 ∷ []) (0 ∷ 1 ∷ []) 2) in
    let after-sign = follows_published automaton_w (store_of (0 ∷ []) (0 ∷ []) [] [] 1) in
    let full = follows_published automaton_w two_held in
    let end = follows_published automaton_w ended in
    let passed : AdmittedAt automaton_w (store_of [] [] (2 ∷ 3 ∷ []) (0 ∷ 1 ∷ []) 2) 0 = (sign_fits _ _ _, λ z. omega arith) in
    let held : AdmittedAt automaton_w (store_of (0 ∷ []) (0 ∷ []) [] [] 1) 2 = ((omega arith, inr (inl (omega arith))), λ z. omega arith) in
    let signed-out : EndedAt automaton_w ended 0 = (sign_fits _ _ _, refl) in
    let room : EndedAt automaton_w ended 2 = ((omega arith, inr (inl (omega arith))), refl) in
    record {
      released = go;
      only = λ v r l. only-longest (Winning automaton_w) automaton_w 1 (2 ∷ 3 ∷ []) v r (2 ∷ 3 ∷ []) [] l go;
      none = rw none-goes at (longest-w 3 (2 ∷ []));
      passes =
          settles (0 ∷ []) (2 ∷ []) (2 ∷ 3 ∷ []) (0 ∷ 1 ∷ []) (2 ∷ 3 ∷ []) [] 3 _ (ready.passes 0 (λ c. omega arith) passed) (rw signed go)
          (ready.counts 0 passed);
      holds =
          settles (0 ∷ []) (0 ∷ []) (2 ∷ []) (1 ∷ []) [] (2 ∷ []) 2 _ (after-sign.holds 2 refl held) (rw signed stay)
          (after-sign.counts 2 held);
      full = full.refuses 2 (inr (inl third-shut-out));
      unknown = full.refuses 4 (inl (omega arith));
      at-end = end.refuses 0 (inr (inr signed-out));
      run_short = full.run_short (0 ∷ []) 2 (omega arith);
      run-fed = full.run-fed (0 ∷ []) 3 (omega arith);
      event-fed = full.event-fed 0;
      one_by_one = full.first-fed 4 (0 ∷ []) ∙ (follows_published automaton_w _).first-fed 0 [] ∙ (follows_published automaton_w _).none-fed;
      run-accepted = (full.run_row (0 ∷ []) (9 ∷ 9 ∷ 9 ∷ [])).accepted.1 (omega arith);
      counts =
          full.counted 2 (4 ∷ 1 ∷ []) (inr (inl third-shut-out)) ∙
          ap suc (full.counted 4 (1 ∷ []) (inl (omega arith))) ∙
          ap (λ n. suc (suc n)) (full.not-counted 1 [] ((omega arith, inl λ c. omega arith), λ z. omega arith));
      end-counts =
          end.counted 0 (2 ∷ []) (inr (inr signed-out)) ∙ ap suc (end.counted 2 [] (inr (inr room))) ∙
          ap (λ n. suc (suc n)) end.none-counted;
      event-row = (full.event-row 2).row-15.1 third-shut-out;
      end_row = (end.event-row 0).row-23.1 signed-out;
      run_row = (full.run_row (0 ∷ []) (9 ∷ 9 ∷ [])).row-16.1 (omega arith);
    }

-- the accepted events of the calls, as they are met
met : moments automaton_w table_w (initial_of automaton_w) calls ≡ page ∷ sign ∷ withdraw ∷ []
unfolding calling
met = refl

pub begins_winning : is_winning automaton_w table_w (initial_of automaton_w) ≡ true
unfolding calling
begins_winning = refl

stays-winning : winning_after automaton_w table_w page ≡ true
unfolding calling
stays-winning = refl

-- after Sign we let nothing go, and an eager one the Page
longer : length (our_release automaton_w table_w sign) < length (strategy_release automaton_w eager sign)
unfolding calling arrival_at our_release strategy_release
longer = omega arith

-- what is claimed of Withdraw and of Sign, by their values
abbrev Fine : Moment → List ℕ → Type 0
Fine m output = (winning_after automaton_w table_w m ≡ true) × (accepts automaton_w (leads-w output) ≡ true)

fine_w : Fine withdraw (output_after automaton_w table_w withdraw) → Fine withdraw (0 ∷ 1 ∷ [])
unfolding calling output_after
fine_w h = h

lost_w : LongerIsLost automaton_w table_w sign → Lost automaton_w 0 eager (2 ∷ 0 ∷ []) (0 ∷ 2 ∷ []) [] 2
unfolding calling arrival_at strategy_release strategy_output strategy_buffer lost_bound accepts
lost_w h = h eager longer

-- the published function: its answers, what it is after the calls, and after what it accepts alone
abbrev last : Store
last = store_of (0 ∷ 1 ∷ []) (1 ∷ 2 ∷ []) (2 ∷ []) (0 ∷ []) 3

expected-w : expected_all automaton_w empty calls ≡ answers
unfolding publishing
expected-w = refl

fed-w : feed_all automaton_w empty (map fed_by calls) ≡ last
unfolding publishing
fed-w = refl

accepted-w : accepted_all automaton_w empty (map fed_by calls) ≡ 2 ∷ 0 ∷ 1 ∷ []
unfolding publishing
accepted-w = refl

alone-w : store_all automaton_w empty (2 ∷ 0 ∷ 1 ∷ []) ≡ last
unfolding publishing
alone-w = refl

last-w : configuration_at automaton_w last ≡ configuration withdrawn
unfolding publishing
last-w = refl

-- demand 3 at W
pub enforced : (xs : List Call) → Enforced automaton_w table_w xs
enforced = demand3 automaton_w table_w valid-w solved-w

pub fields : Fields
unfolding automaton_w
fields =
    let whole = enforced calls in
    let said = whole.enforces in
    let account = whole.accounted in
    let accepted = account.events ∙ accepted-w in
    let put-out = said.all-emitted ∙ ap (λ s. s.output) fed-w in
    let afresh = ap (store_all automaton_w empty) accepted ∙ alone-w in
    let lost = lost_w (rw met at whole.strategies).1.0 in
    record {
      each-reply = said.each-reply ∙ expected-w;
      all-emitted = put-out;
      last-configuration = said.last-configuration ∙ ap (configuration_at automaton_w) fed-w ∙ last-w;
      last-consistent = said.last-consistent;
      alone-emitted = whole.alone-emitted ∙ ap (λ s. s.output) afresh;
      alone-configuration = whole.alone-configuration ∙ ap (configuration_at automaton_w) afresh ∙ last-w;
      events = accepted;
      emitted = rw met at account.emitted ∙ put-out;
      traced = rw met at account.traced ∙ ap (λ s. s.sources) fed-w;
      history = account.history (page ∷ sign ∷ []) withdraw [] met;
      leads = (rw met at account.leads).1.1.0;
      fed = (rw met at account.fed).1.1.0;
      initially = fine_w (rw met at (whole.once-winning.initially begins_winning)).1.1.0;
      later = fine_w (whole.once-winning.later [] page (sign ∷ withdraw ∷ []) met stays-winning).1.1.0;
      strategies = (lost.list, lost.uncontrollable, lost.short, lost.outside);
    }

-- the same of the long day
expected-long : expected_all automaton_w empty long_calls ≡ long_answers
unfolding publishing
expected-long = refl

pub fed-long : feed_all automaton_w empty (map fed_by long_calls) ≡ long_store
unfolding publishing
fed-long = refl

last-long : configuration_at automaton_w long_store ≡ configuration long_last
unfolding publishing
last-long = refl

pub day : Day
day =
    let said = (enforced long_calls).enforces in
    record {
      each-reply = said.each-reply ∙ expected-long;
      all-emitted = said.all-emitted ∙ ap (λ s. s.output) fed-long;
      last-configuration = said.last-configuration ∙ ap (configuration_at automaton_w) fed-long ∙ last-long;
    }

-- S of the empty list has W's states 0 and 1, not 2
outside-w : has (sets_for automaton_w []).winning 2 ≡ false
unfolding publishing
outside-w = refl

leads_to_two : leads-w (0 ∷ 2 ∷ []) ≡ 2
unfolding computing
leads_to_two = refl

says-winning : (status automaton_w table_w (initial_of automaton_w)).winning ≡ true
unfolding computing
says-winning = refl

accepts-sign : (received automaton_w table_w (initial_of automaton_w) 0).refusal ≡ 0
unfolding computing
accepts-sign = refl

-- a longer table has the same bits
same_w : SameBits automaton_w table_w (table_w ++ 9 ∷ [])
same_w w b q h =
    let l : 2 * index automaton_w w < length table_w = omega (arith, numbered automaton_w valid-w w b, buffers-w) in
    ap (λ x. has x q) (sym (get_or-append table_w (9 ∷ []) 0 (2 * index automaton_w w) l))

both_long : short automaton_w table_w ≡ short automaton_w (table_w ++ 9 ∷ [])
unfolding short
both_long = rw buffers-w refl

few-emitted : (received automaton_w table_w (configuration both_held) 0).count ≤ 3
unfolding calling
few-emitted = omega arith

pub enforcing : Enforcing
unfolding automaton_w
enforcing =
    let start = initial_of automaton_w in
    let padded = emitted-padded automaton_w table_w (configuration both_held) 0 in
    record {
      demand3 = demand3 automaton_v (table automaton_v) valid-v solved-v;
      table_exists = table_exists automaton_w valid-w;
      demand3-solved = demand3-solved automaton_w (filled 16 9) solves_w;
      accepted-alone =
          subst (λ es. store_all automaton_w empty es ≡ feed_all automaton_w empty (map fed_by calls)) accepted-w
          (accepted-alone automaton_w calls);
      driven_out = driven_out automaton_w valid-w [] 2 (omega arith) outside-w 0 eager (0 ∷ 2 ∷ []) (0 ∷ 2 ∷ []) leads_to_two;
      flag-is-status = flag-is-status automaton_w table_w start 0 accepts-sign;
      flag-stays = flag-stays automaton_w table_w solved-w start says-winning;
      once-winning-said =
          once-winning-said automaton_w table_w valid-w solved-w calls [] page (sign ∷ withdraw ∷ []) met stays-winning;
      emitted-padded = padded.1.1 3 few-emitted;
      places-padded = padded.2.1 3 few-emitted;
      others_ignored = others_ignored automaton_w table_w (table_w ++ 9 ∷ []) both_long same_w start;
    }
