-- The claims on the monitor's calls and on the published function at sheet V or W, hypotheses met.
use Rattle.std.specs.Prelude.{ℕ, ◌<◌, ◌≤◌, ◌≡◌, ◌⊎◌, true, false, List, [], ◌∷◌, ◌++◌, map, length, get_or}
use Rattle.automaton.specs.declared.Automaton.{Automaton}
use Rattle.automaton.specs.Automaton.{controllable, accepts, reached, valid, assembled}
use Rattle.solver_sets.specs.Table.{short, table, Solved}
use Rattle.solver_sets.specs.Definition6.{AllUncontrollable}
use Rattle.solver_sets.specs.Claims.{Winning}
use Rattle.configuration_places.specs.Places.{input_number}
use Rattle.configuration.specs.declared.Configuration.{Configuration}
use Rattle.configuration.specs.Configuration.{Position, configuration, consistent, initial_of}
use Rattle.solver_answers.specs.Solving.{solved_table}
use Rattle.automaton_symbols.specs.Symbols.{ranking_of}
use Rattle.monitor_rule.specs.Step.{by_sets, by_table, qualifying, event_refusal}
use Rattle.monitor_rule.specs.Fronts.{rest_in, over}
use Rattle.monitor_rule.specs.Claims.{Opens, CountEnded, Admitted, Tabled, Qualifies, ListsQualifying, Longest}
use Rattle.monitor_answers.specs.Answers.{too_short, call_refusal, status, receive_refusal, received, refused_run, run_refusal}
use Rattle.enforcement.specs.Store.{Store, empty, position_at, store, store_all, event, events, feed, feed_all, refused_of}
use Rattle.enforcement.specs.Calls.{Call, receive_call, run_call, Reply, receive, refusal_in}
use Rattle.enforcement.specs.Calls.{replies, configuration_after, emitted_all, expected, fed_by}
use Rattle.enforcement.specs.Moments.{Moment, emitted_at, sources_at}
use Rattle.enforcement.specs.Strategy.{Strategy, play, Lost, lost_bound}
use Rattle.enforcement.specs.Claims.{Enforced, accepted_events, winning_after}
use Rattle.enforcement.specs.Answers.{SaysWinning, SameAnswers}
use Rattle.enforcement_cases.specs.Cases.{automaton_v, automaton_w, at, answer}
use Rattle.enforcement_instances.specs.Statements.{filled, table_w}

-- V's record with 40 states
abbrev pub wide_v : Automaton
wide_v =
    assembled 40 automaton_v.symbols automaton_v.capacity automaton_v.initial automaton_v.classes automaton_v.accepting
    automaton_v.next

-- V's start
abbrev pub start_v : Configuration
start_v = initial_of automaton_v

-- W with two Pages held, and with Page and Receipt; and signed, with the input count at its end
abbrev pub two_pages : Position
two_pages = at 0 (2 ∷ 2 ∷ []) (0 ∷ 1 ∷ []) 2 0

abbrev pub both_held : Position
both_held = at 0 (2 ∷ 3 ∷ []) (0 ∷ 1 ∷ []) 2 0

abbrev pub at_end : Position
at_end = at 1 [] [] 4294967295 4294967295

-- the row that refuses an event of W at a position
abbrev pub row_w : Position → ℕ → ℕ
row_w p e = event_refusal (by_table automaton_w table_w) automaton_w p e

-- the calls' rows at document 01's examples
pub record Rows : Type 0 where
  pub class-one : controllable automaton_w 2 ≡ true
  pub row_11 : call_refusal wide_v (table automaton_v) start_v ≡ 11
  pub row_12 : call_refusal automaton_v (filled 3 0) start_v ≡ 12
  pub row-13 : call_refusal automaton_v (table automaton_v) (configuration (at 3 [] [] 0 0)) ≡ 13
  pub passed : call_refusal automaton_v (table automaton_v) start_v ≡ 0
  pub row-14 : receive_refusal automaton_v (table automaton_v) start_v 2 ≡ 14
  pub row-15 : receive_refusal automaton_w table_w (configuration two_pages) 2 ≡ 15
  pub row-23 : receive_refusal automaton_w table_w (configuration at_end) 0 ≡ 23
  pub row-16 : run_refusal automaton_v (table automaton_v) start_v (0 ∷ 1 ∷ []) (9 ∷ []) ≡ 16
  -- and the other way: what 14 refuses is none of W's four kinds; a Page that 15 refuses finds two
  -- held and does not open the buffer, and one that is accepted finds fewer or opens it, with the
  -- count not at its end, where it is for 23; a day of two that 16 refuses has room for less
  pub only-14 : (p : Position) (e : ℕ) → row_w p e ≡ 14 → 4 ≤ e
  pub only-15 : (p : Position) → row_w p 2 ≡ 15
      → (2 ≤ length p.buffer) × (Opens (Tabled automaton_w table_w) automaton_w p.state p.buffer 2 → ⊥)
  pub only-23 : (p : Position) (e : ℕ) → row_w p e ≡ 23 → p.received ≡ 4294967295
  pub only-0 : (p : Position) → row_w p 2 ≡ 0
      → ((length p.buffer < 2) ⊎ Opens (Tabled automaton_w table_w) automaton_w p.state p.buffer 2)
      × (p.received ≡ 4294967295 → ⊥)
  -- the same of a call: what refuses one event or a day by 11, and what accepts it
  pub event-14 : (p : Position) → row_w p 4 ≡ 14
  -- at the count's end Sign is refused by 23, and a third Page by 15
  pub event-23 : (p : Position) → p.received ≡ 4294967295 → row_w p 0 ≡ 23
  pub event-15 : row_w (at 0 (2 ∷ 2 ∷ []) (7 ∷ 8 ∷ []) 4294967295 4294967293) 2 ≡ 15
  pub event-0 : row_w (at 0 [] [] 0 0) 2 ≡ 0
  pub receive-11 : receive_refusal wide_v (table automaton_v) start_v 0 ≡ 11
  pub receive-0 : receive_refusal automaton_v (table automaton_v) start_v 1 ≡ 0
  pub receive-only-0 : (e : ℕ) → receive_refusal automaton_w table_w (configuration two_pages) e ≡ 0
      → Admitted (Tabled automaton_w table_w) automaton_w 0 (2 ∷ 2 ∷ []) 2 e
  pub receive-only-23 : (e : ℕ) → receive_refusal automaton_w table_w (configuration at_end) e ≡ 23
      → CountEnded (Tabled automaton_w table_w) automaton_w 1 [] 4294967295 e
  pub run-11 : run_refusal wide_v (table automaton_v) start_v (0 ∷ 1 ∷ []) (9 ∷ []) ≡ 11
  pub run-0 : run_refusal automaton_v (table automaton_v) start_v (0 ∷ 1 ∷ []) (9 ∷ 9 ∷ []) ≡ 0
  pub run-only-0 : (out : List ℕ) → run_refusal automaton_v (table automaton_v) start_v (0 ∷ 1 ∷ []) out ≡ 0 → 2 ≤ length out
  pub lacks : too_short 1 (0 ∷ 1 ∷ []) 0 ≡ true
  pub enough : (size : ℕ) → too_short size (0 ∷ 1 ∷ []) 0 ≡ false → 2 ≤ size
  -- rows 11, 12 and 13 themselves: no record that passes has 40 states, W's table has 14 places at
  -- least, V has no state 3
  pub valid-words : valid wide_v ≡ true → 40 ≤ 32
  pub short-words : (t : List ℕ) → short automaton_w t ≡ true → length t < 14
  pub consistent-words : (c : Configuration) → length c.buffer ≡ 6 → length c.places ≡ 6
      → consistent automaton_v c ≡ true → c.state < 3
  pub flag_one : accepts automaton_v 2 ≡ true
  pub only-16 : (out : List ℕ) → run_refusal automaton_v (table automaton_v) start_v (0 ∷ 1 ∷ []) out ≡ 16 → length out < 2

-- the published function with so much put out and held, the places in the input of both, and so
-- many accepted
abbrev pub store_of : List ℕ → List ℕ → List ℕ → List ℕ → ℕ → Store
store_of output sources buffer places accepted =
    record { output = output; sources = sources; buffer = buffer; places = places; accepted = accepted }

-- two Pages held; and nothing, with the count at its end
abbrev pub two_held : Store
two_held = store_of [] [] (2 ∷ 2 ∷ []) (0 ∷ 1 ∷ []) 2

abbrev pub ended : Store
ended = store_of [] [] [] [] 4294967295

-- a sheet with one state, which accepts, and one kind, of which up to six may be held
unfoldable pub automaton_loops : Automaton
automaton_loops = assembled 1 1 6 0 (filled 1 1 ++ filled 15 0) (filled 1 1 ++ filled 31 0) (filled 512 0)

-- what the search finds with W's own ranks and next states, over W's solved table
abbrev pub found_w : ℕ → List ℕ → List ℕ
found_w q w =
    let own = ranking_of automaton_w.classes automaton_w.symbols in
    qualifying (rest_in table_w own.ranks own.count) (over own.ranks automaton_w.next) q w

-- the front parts that qualify, as the search lists them
pub record SearchFinds : Type 0 where
  -- signed, with Page and Receipt held, the search over W's solved table finds the empty front
  -- part and the whole, not Page alone
  pub by-table : found_w 1 (2 ∷ 3 ∷ []) ≡ 0 ∷ 2 ∷ []
  pub found : ListsQualifying (Winning automaton_w) automaton_w 1 (2 ∷ 3 ∷ []) (0 ∷ 2 ∷ filled 5 0) 2
  pub empty-found : Qualifies (Winning automaton_w) automaton_w 1 (2 ∷ 3 ∷ []) 0
  pub whole-found : Qualifies (Winning automaton_w) automaton_w 1 (2 ∷ 3 ∷ []) 2
  pub page-not : Qualifies (Winning automaton_w) automaton_w 1 (2 ∷ 3 ∷ []) 1 → ⊥
  pub rising : get_or (0 ∷ 2 ∷ filled 5 0) 0 0 < get_or (0 ∷ 2 ∷ filled 5 0) 1 0
  pub enough : 2 ≤ 7
  pub seven-places : length (0 ∷ 2 ∷ filled 5 0) ≡ 7
  pub zeros-past : (j : ℕ) → 2 ≤ j → get_or (0 ∷ 2 ∷ filled 5 0) j 0 ≡ 0
  -- in state 3 no front part qualifies
  pub none-by-table : found_w 3 (2 ∷ []) ≡ []
  pub none : ListsQualifying (Winning automaton_w) automaton_w 3 (2 ∷ []) (filled 7 0) 0
  -- with Answer held V finds the empty front part alone
  pub empty-by-sets : qualifying (by_sets automaton_v) automaton_v 0 (1 ∷ []) ≡ 0 ∷ []
  pub empty-alone : ListsQualifying (Winning automaton_v) automaton_v 0 (1 ∷ []) (filled 7 0) 1
  -- where every list leads back, all seven front parts of six events
  pub seven-by-sets : qualifying (by_sets automaton_loops) automaton_loops 0 (filled 6 0) ≡ 0 ∷ 1 ∷ 2 ∷ 3 ∷ 4 ∷ 5 ∷ 6 ∷ []
  pub seven : ListsQualifying (Winning automaton_loops) automaton_loops 0 (filled 6 0) (0 ∷ 1 ∷ 2 ∷ 3 ∷ 4 ∷ 5 ∷ 6 ∷ []) 7

-- the longest release, and the published function by it
pub record Releasing : Type 0 where
  -- signed, W lets Page and Receipt go, and nothing else would do; in state 3 no front part does
  pub released : Longest (Winning automaton_w) automaton_w 1 (2 ∷ 3 ∷ []) (2 ∷ 3 ∷ []) []
  pub only : (v r : List ℕ) → Longest (Winning automaton_w) automaton_w 1 (2 ∷ 3 ∷ []) v r → (v ≡ 2 ∷ 3 ∷ []) × (r ≡ [])
  pub none : Longest (Winning automaton_w) automaton_w 3 (2 ∷ []) [] (2 ∷ [])
  -- Sign passes, and then they go, with their places; after it a Page is held; a third Page, an
  -- event that is no kind, and one at the count's end change nothing
  pub passes : store automaton_w (store_of [] [] (2 ∷ 3 ∷ []) (0 ∷ 1 ∷ []) 2) 0
      ≡ store_of (0 ∷ 2 ∷ 3 ∷ []) (2 ∷ 0 ∷ 1 ∷ []) [] [] 3
  pub holds : store automaton_w (store_of (0 ∷ []) (0 ∷ []) [] [] 1) 2 ≡ store_of (0 ∷ []) (0 ∷ []) (2 ∷ []) (1 ∷ []) 2
  pub full : store automaton_w two_held 2 ≡ two_held
  pub unknown : store automaton_w two_held 4 ≡ two_held
  pub at-end : store automaton_w ended 0 ≡ ended
  -- a day of Sign, with two held, wants room for three
  pub run_short : feed automaton_w two_held (events (0 ∷ []) 2) ≡ two_held
  pub run-fed : feed automaton_w two_held (events (0 ∷ []) 3) ≡ store automaton_w two_held 0
  pub event-fed : feed automaton_w two_held (event 0) ≡ store automaton_w two_held 0
  pub one_by_one : store_all automaton_w two_held (4 ∷ 0 ∷ []) ≡ store automaton_w (store automaton_w two_held 4) 0
  pub run-accepted : refusal_in (expected automaton_w two_held (run_call (0 ∷ []) (9 ∷ 9 ∷ 9 ∷ []))) ≡ 0
  -- of a day of Page, a kind that there is not and Withdraw it then refuses two
  pub counts : refused_of automaton_w two_held (2 ∷ 4 ∷ 1 ∷ []) ≡ 2
  -- at the count's end both of a day of Sign and Page
  pub end-counts : refused_of automaton_w ended (0 ∷ 2 ∷ []) ≡ 2
  pub event-row : refusal_in (expected automaton_w two_held (receive_call 2)) ≡ 15
  pub end_row : refusal_in (expected automaton_w ended (receive_call 0)) ≡ 23
  pub run_row : refusal_in (expected automaton_w two_held (run_call (0 ∷ []) (9 ∷ 9 ∷ []))) ≡ 16

-- what W's monitor answers to calls from its start, and the configuration after them
abbrev pub replies_w : List Call → List Reply
replies_w = replies automaton_w table_w (initial_of automaton_w)

abbrev pub after_w : List Call → Configuration
after_w = configuration_after automaton_w table_w (initial_of automaton_w)

-- a day's reply: the position after it, bytes written, events refused, and the lent output
abbrev pub run_reply : Position → ℕ → ℕ → List ℕ → Reply
run_reply p written refused out =
    Rattle.enforcement.specs.Calls.run
    (record { refusal = 0; configuration = configuration p; length = written; refused = refused })
    out

-- Page; then a day with a kind that there is not, Sign and Withdraw, and room for five
abbrev pub calls : List Call
calls = receive_call 2 ∷ run_call (4 ∷ 0 ∷ 1 ∷ []) (filled 5 9) ∷ []

-- their accepted events
abbrev pub page : Moment
page = record { past = []; output = []; position = at 0 [] [] 0 0; event = 2 }

abbrev pub sign : Moment
sign = record { past = 2 ∷ []; output = []; position = at 0 (2 ∷ []) (0 ∷ []) 1 0; event = 0 }

abbrev pub withdraw : Moment
withdraw = record { past = 2 ∷ 0 ∷ []; output = 0 ∷ []; position = at 1 (2 ∷ []) (0 ∷ []) 2 1; event = 1 }

-- and the position after them
abbrev pub withdrawn : Position
withdrawn = at 0 (2 ∷ []) (0 ∷ []) 3 2

-- the rule that lets every held request go at once
abbrev pub eager : Strategy
eager past output held = 6

-- what they answer
abbrev pub answers : List Reply
answers =
    receive (answer 0 [] [] (at 0 (2 ∷ []) (0 ∷ []) 1 0) true) ∷
    run_reply withdrawn 2 1 (0 ∷ 1 ∷ 9 ∷ 9 ∷ 9 ∷ []) ∷ []

-- every field of demand 3, out of the one statement at W and these calls, with its values
pub record Fields : Type 0 where
  pub each-reply : replies_w calls ≡ answers
  pub all-emitted : emitted_all (replies_w calls) ≡ 0 ∷ 1 ∷ []
  pub last-configuration : after_w calls ≡ configuration withdrawn
  pub last-consistent : consistent automaton_w (after_w calls) ≡ true
  pub alone-emitted : emitted_all (replies_w calls) ≡ 0 ∷ 1 ∷ []
  pub alone-configuration : after_w calls ≡ configuration withdrawn
  pub events : accepted_events automaton_w table_w calls ≡ 2 ∷ 0 ∷ 1 ∷ []
  pub emitted : emitted_at automaton_w table_w (page ∷ sign ∷ withdraw ∷ []) ≡ 0 ∷ 1 ∷ []
  pub traced : sources_at automaton_w table_w (page ∷ sign ∷ withdraw ∷ []) ≡ 1 ∷ 2 ∷ []
  -- of Withdraw, inside the day: Page and Sign were before it and put out Sign, which leads to
  -- state 1; fed them, the function holds the Page
  pub history : (withdraw.past ≡ map (λ (m : Moment). m.event) (page ∷ sign ∷ []))
      × (withdraw.output ≡ emitted_at automaton_w table_w (page ∷ sign ∷ []))
  pub leads : reached automaton_w 0 (0 ∷ []) ≡ 1
  pub fed : let z = store_all automaton_w empty (2 ∷ 0 ∷ []) in (z.output ≡ 0 ∷ [])
      × (position_at automaton_w z ≡ withdraw.position)
  -- winning at first, and after Page, W is so after Withdraw, and its output, Sign and Withdraw,
  -- leads to an accepting state
  pub initially : (winning_after automaton_w table_w withdraw ≡ true)
      × (accepts automaton_w (reached automaton_w 0 (0 ∷ 1 ∷ [])) ≡ true)
  pub later : (winning_after automaton_w table_w withdraw ≡ true)
      × (accepts automaton_w (reached automaton_w 0 (0 ∷ 1 ∷ [])) ≡ true)
  -- whoever lets the Page go after Sign, inside the day, is driven out by at most two events
  pub strategies : (us : List ℕ)
      × AllUncontrollable automaton_w us
      × (length us ≤ 2)
      × (accepts automaton_w (reached automaton_w 0 (play automaton_w eager (2 ∷ 0 ∷ []) (0 ∷ 2 ∷ []) [] us)) ≡ false)

-- Page; a day of Receipt, Sign, Page, Withdraw, Page, Page, a kind that there is not and Withdraw,
-- with room for ten; a day of Sign, with room for two; Sign
abbrev pub long_calls : List Call
long_calls =
    receive_call 2 ∷ run_call (3 ∷ 0 ∷ 2 ∷ 1 ∷ 2 ∷ 2 ∷ 4 ∷ 1 ∷ []) (filled 10 9) ∷ run_call (0 ∷ []) (filled 2 9) ∷
    receive_call 0 ∷ []

-- the position after the first day, and after all of them
abbrev pub long_day : Position
long_day = at 0 (2 ∷ 2 ∷ []) (3 ∷ 5 ∷ []) 7 5

abbrev pub long_last : Position
long_last = at 1 (2 ∷ 2 ∷ []) (3 ∷ 5 ∷ []) 8 6

-- what they answer: the third is refused by 16, since two are held
abbrev pub long_answers : List Reply
long_answers =
    receive (answer 0 [] [] (at 0 (2 ∷ []) (0 ∷ []) 1 0) true) ∷
    run_reply long_day 5 2 (0 ∷ 2 ∷ 3 ∷ 1 ∷ 1 ∷ 9 ∷ 9 ∷ 9 ∷ 9 ∷ 9 ∷ []) ∷
    Rattle.enforcement.specs.Calls.run (refused_run 16 (configuration long_day)) (9 ∷ 9 ∷ []) ∷
    receive (answer 0 (0 ∷ []) (7 ∷ []) long_last true) ∷ []

-- the published function after them
abbrev pub long_store : Store
long_store = store_of (0 ∷ 2 ∷ 3 ∷ 1 ∷ 1 ∷ 0 ∷ []) (2 ∷ 0 ∷ 1 ∷ 4 ∷ 6 ∷ 7 ∷ []) (2 ∷ 2 ∷ []) (3 ∷ 5 ∷ []) 8

-- demand 3 at W and these calls, worked out
pub record Day : Type 0 where
  pub each-reply : replies_w long_calls ≡ long_answers
  pub all-emitted : emitted_all (replies_w long_calls) ≡ 0 ∷ 2 ∷ 3 ∷ 1 ∷ 1 ∷ 0 ∷ []
  pub last-configuration : after_w long_calls ≡ configuration long_last

-- demand 3 at V and over what the solver leaves, and the claims beside it
pub record Enforcing : Type 0 where
  pub demand3 : (xs : List Call) → Enforced automaton_v (table automaton_v) xs
  pub table_exists : (t : List ℕ) × Solved automaton_w t
  pub demand3-solved : (xs : List Call) → Enforced automaton_w (solved_table automaton_w (filled 16 9)) xs
  -- the day's event 4 is refused
  pub accepted-alone : store_all automaton_w empty (2 ∷ 0 ∷ 1 ∷ []) ≡ feed_all automaton_w empty (map fed_by calls)
  pub driven_out : Lost automaton_w 0 eager (0 ∷ 2 ∷ []) (0 ∷ 2 ∷ []) [] (lost_bound automaton_w [])
  pub flag-is-status : status automaton_w table_w (received automaton_w table_w (initial_of automaton_w) 0).configuration
      ≡ record { refusal = 0; winning = (received automaton_w table_w (initial_of automaton_w) 0).winning }
  pub flag-stays : (xs : List Call) → SaysWinning automaton_w table_w (after_w xs)
  -- Page leaves W winning, and so it stays
  pub once-winning-said : SaysWinning automaton_w table_w (after_w calls)
  -- Sign with Page and Receipt held emits three, and the fourth place holds 0, of their places in
  -- the input too
  pub emitted-padded : get_or (received automaton_w table_w (configuration both_held) 0).emitted 3 0 ≡ 0
  pub places-padded : get_or (map input_number (received automaton_w table_w (configuration both_held) 0).places) 3 0 ≡ 0
  pub others_ignored : SameAnswers automaton_w table_w (table_w ++ 9 ∷ []) (initial_of automaton_w)
