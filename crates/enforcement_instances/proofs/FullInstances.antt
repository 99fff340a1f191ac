-- The instances of the claims on an event that comes at a full buffer.
use Prim.Native.Nat.{ℕ, ◌<◌}
use mathlib.Core.Path.{◌≡◌, refl, sym, ◌∙◌}
use mathlib.Core.Logic.{inr}
use mathlib.Core.Bool.{true, false}
use mathlib.Core.List.{List, [], ◌∷◌}
use native.Mathlib.Omega.{arith}
use lib.ListN.{length}
use borrow.Author.Tests.{lt-leb}
use Rattle.base.specs.Pad.{pad}
use Rattle.automaton.specs.Automaton.{reached, accepts}
use Rattle.solver_sets.specs.Table.{Solved}
use Rattle.solver_sets.specs.Claims.{Winning}
use Rattle.configuration.specs.Configuration.{held_events, configuration, initial_of}
use Rattle.monitor_rule.specs.Step.{Rest, by_sets, by_table, event_refusal}
use Rattle.monitor_rule.specs.Claims.{Full, Opens, Tabled, Opened}
use Rattle.monitor_rule.proofs.Rows.{opens-releases, opens_as_worded}
use Rattle.monitor_rule.proofs.Effects.{wider_ignored}
use Rattle.monitor_answers.specs.Answers.{receive_refusal}
use Rattle.monitor_answers.specs.Claims.{Clear, OpenedAnswer}
use Rattle.monitor_answers.proofs.Accepted.{opened-answers}
use Rattle.monitor_answers.proofs.Worded.{receive-rows_as_worded}
use Rattle.enforcement.specs.Store.{empty, store}
use Rattle.enforcement.specs.Calls.{receive, receive_call, refusal_in, expected, expected_all}
use Rattle.enforcement.specs.Moments.{Moment, moments}
use Rattle.enforcement.specs.Strategy.{Lost, lost_bound}
use Rattle.enforcement.specs.Claims.{winning_after, output_after, arrival_at, strategy_release, our_release, strategy_output, strategy_buffer, LongerIsLost}
use Rattle.enforcement.specs.Published.{AdmittedAt, OpensBuffer}
use Rattle.enforcement.proofs.Published.{follows_published}
use Rattle.enforcement.proofs.Demand3.{demand3}
use Rattle.enforcement_cases.specs.Cases.{automaton_v, automaton_w, at, answer}
use Rattle.enforcement_cases.proofs.Cases.{marked-cases}
use Rattle.enforcement_instances.specs.Statements.{filled, table_w}
use Rattle.enforcement_instances.specs.MonitorStatements.{two_pages, store_of, two_held, run_reply, eager}
use Rattle.enforcement_instances.specs.FullStatements.{table_v, one_answer, answer_at_end, rests_with_two, FullRows, answer_v, FullAnswer, answer_held, FullFunction}
use Rattle.enforcement_instances.specs.FullStatements.{opening_calls, first_answer, second_answer, query, FullEnforced}
use Rattle.enforcement_instances.proofs.Sheets.{valid-v, solved-v, computing}
use Rattle.enforcement_instances.proofs.MonitorInstances.{calling, publishing}

-- V's table is that of the marked cases
pub solved_tv : Solved automaton_v table_v
solved_tv = rw marked-cases.1.1.0.0 at solved-v

clear_one : Clear automaton_v table_v (configuration one_answer)
unfolding computing automaton_v
clear_one = record { record_valid = valid-v; table-long = refl; configuration-consistent = refl }

clear_ended : Clear automaton_v table_v (configuration answer_at_end)
unfolding computing automaton_v
clear_ended = record { record_valid = valid-v; table-long = refl; configuration-consistent = refl }

-- the second Answer opens the buffer: the first goes, which leaves V in state 0 with the second
pub answer-full : Full automaton_v (1 ∷ []) 1
unfolding automaton_v pad
answer-full = (omega arith, refl, omega arith)

pub answer-opens : Opens (Tabled automaton_v table_v) automaton_v 0 (1 ∷ []) 1
unfolding computing automaton_v
answer-opens = record { front = 1 ∷ []; left = 1 ∷ []; parts = refl; some = omega arith; leads = refl }

-- W's third Page
third-refused : receive_refusal automaton_w table_w (configuration two_pages) 2 ≡ 15
unfolding computing
third-refused = refl

accepts-second : receive_refusal automaton_v table_v (configuration one_answer) 1 ≡ 0
unfolding computing automaton_v
accepts-second =
    (receive-rows_as_worded automaton_v table_v (configuration one_answer) 1).accepted.1
    (clear_one, ((omega arith, inr (inr answer-opens)), λ z. omega arith))

-- tables that nobody solved
clear_any : (x : ℕ) → Clear automaton_v (filled 4 x) (configuration one_answer)
unfolding computing automaton_v
clear_any x = record { record_valid = valid-v; table-long = refl; configuration-consistent = refl }

no_bits-shut : Opens (Tabled automaton_v (filled 4 0)) automaton_v 0 (1 ∷ []) 1 → ⊥
unfolding computing automaton_v
no_bits-shut o = omega (arith, opens-releases (by_table automaton_v (filled 4 0)) automaton_v 0 (1 ∷ []) 1 o)

all_bits_accepted : receive_refusal automaton_v (filled 4 7) (configuration one_answer) 1 ≡ 0
unfolding computing automaton_v
all_bits_accepted = refl

all_bits_answer : OpenedAnswer automaton_v (filled 4 7) (configuration one_answer) 1
unfolding computing automaton_v
all_bits_answer = opened-answers automaton_v (filled 4 7) (configuration one_answer) 1 all_bits_accepted answer-full

-- by a test that lets one rest nowhere the second Answer is refused, so by `rests_with_two` too
never : Rest
never w q = false

never_shut : event_refusal never automaton_v one_answer 1 ≡ 15
unfolding computing automaton_v never
never_shut = refl

wider-shut : event_refusal rests_with_two automaton_v one_answer 1 ≡ 15
unfolding computing automaton_v never
wider-shut =
    (wider_ignored rests_with_two never automaton_v valid-v (λ w q _ b. lt-leb 2 (length w) (omega (arith, b.1))) one_answer 1
    (omega arith) (((answer-full.0, refl), tt), omega arith)).0 ∙ never_shut

pub full-rows : FullRows
unfolding computing automaton_v
full-rows =
    let second = receive-rows_as_worded automaton_v table_v (configuration one_answer) 1 in
    record {
      full = answer-full;
      opens = answer-opens;
      accepted = accepts-second;
      not-15 = λ h. (second.row-15.0 h).1.1 answer-opens;
      row-23 = (receive-rows_as_worded automaton_v table_v (configuration answer_at_end) 1).row-23.1
          (clear_ended, ((omega arith, inr (inr answer-opens)), refl));
      row-15 = third-refused;
      shut = ((receive-rows_as_worded automaton_w table_w (configuration two_pages) 2).row-15.0 third-refused).1.1;
      no_bits =
          (receive-rows_as_worded automaton_v (filled 4 0) (configuration one_answer) 1).row-15.1 (clear_any 0, (answer-full, no_bits-shut));
      all-bits = all_bits_answer.opened;
      all-bits-winning = all_bits_answer.winning;
      wider = wider-shut;
    }

-- the answer, and its claim by its values
answer-whole : answer_v ≡ answer 0 (1 ∷ []) (0 ∷ []) (at 0 (1 ∷ []) (1 ∷ []) 2 1) true
unfolding computing automaton_v
answer-whole = refl

opened-v : OpenedAnswer automaton_v table_v (configuration one_answer) 1
unfolding computing automaton_v
opened-v = opened-answers automaton_v table_v (configuration one_answer) 1 accepts-second answer-full

opened-by_table : Opened (Tabled automaton_v table_v) automaton_v 0 (1 ∷ []) 1 (1 ∷ []) (1 ∷ []) 0
unfolding computing automaton_v
opened-by_table = opened-v.opened

accepts-by_sets : event_refusal (by_sets automaton_v) automaton_v one_answer 1 ≡ 0
unfolding publishing automaton_v
accepts-by_sets = refl

opened-by_sets : Opened (λ w q. by_sets automaton_v w q ≡ true) automaton_v 0 (1 ∷ []) 1 (1 ∷ []) (1 ∷ []) 0
unfolding publishing automaton_v
opened-by_sets = opens_as_worded (by_sets automaton_v) automaton_v one_answer 1 accepts-by_sets answer-full

pub full-answer : FullAnswer
unfolding held_events pad
full-answer =
    let o = opened-v.opened in
    record {
      whole = answer-whole;
      parts = o.parts;
      some = o.some;
      led = o.led;
      rests = o.rests;
      longest = opened-by_table.longest (1 ∷ 1 ∷ []) [] refl;
      winning = opened-v.winning;
      by-table = opened-by_table;
      by-sets = opened-by_sets;
    }

-- the published function
opens-by_sets : Opens (Winning automaton_v) automaton_v (reached automaton_v automaton_v.initial []) (1 ∷ []) 1
unfolding publishing automaton_v
opens-by_sets = record { front = 1 ∷ []; left = 1 ∷ []; parts = refl; some = omega arith; leads = refl }

pub admitted-v : AdmittedAt automaton_v answer_held 1
unfolding automaton_v
admitted-v = ((omega arith, inr (inr opens-by_sets)), λ z. omega arith)

after-v : store automaton_v answer_held 1 ≡ store_of (1 ∷ []) (0 ∷ []) (1 ∷ []) (1 ∷ []) 2
unfolding publishing automaton_v
after-v = refl

opened-function : Opened (Winning automaton_v) automaton_v 0 (1 ∷ []) 1 (1 ∷ []) (1 ∷ []) 0
unfolding publishing automaton_v
opened-function =
    let o : OpensBuffer automaton_v answer_held 1 (store_of (1 ∷ []) (0 ∷ []) (1 ∷ []) (1 ∷ []) 2) =
    rw after-v at ((follows_published automaton_v answer_held).opens 1 answer-full admitted-v) in
    rw (sym o.put-out) at o.opened

third-row : refusal_in (expected automaton_w two_held (receive_call 2)) ≡ 15
unfolding publishing refusal_in
third-row = refl

pub full-function : FullFunction
unfolding automaton_w reached
full-function =
    let f = follows_published automaton_v answer_held in
    record {
      row = (f.event-row 1).accepted.1 admitted-v;
      function = after-v;
      opened = opened-function;
      not-counted = f.not-counted 1 [] admitted-v ∙ (follows_published automaton_v _).none-counted;
      row-15 = third-row;
      shut = (((follows_published automaton_w two_held).event-row 2).row-15.0 third-row).1;
    }

-- demand 3
met-v : moments automaton_v table_v (initial_of automaton_v) opening_calls ≡ first_answer ∷ second_answer ∷ query ∷ []
unfolding calling automaton_v
met-v = refl

expected-v : expected_all automaton_v empty opening_calls
    ≡ receive (answer 0 [] [] one_answer true) ∷ run_reply (at 2 [] [] 3 3) 3 0 (1 ∷ 0 ∷ 1 ∷ []) ∷ []
unfolding publishing automaton_v
expected-v = refl

abbrev Fine : Moment → List ℕ → Type 0
Fine m output = (winning_after automaton_v table_v m ≡ true) × (accepts automaton_v (reached automaton_v 0 output) ≡ true)

fine_second : Fine second_answer (output_after automaton_v table_v second_answer) → Fine second_answer (1 ∷ [])
unfolding calling output_after automaton_v
fine_second h = h

fine_query : Fine query (output_after automaton_v table_v query) → Fine query (1 ∷ 0 ∷ 1 ∷ [])
unfolding calling output_after automaton_v
fine_query h = h

two_in_hand : length (arrival_at automaton_v second_answer).buffer ≡ 2
unfolding calling arrival_at automaton_v
two_in_hand = refl

-- we let one Answer go, and an eager one both
longer_v : length (our_release automaton_v table_v second_answer) < length (strategy_release automaton_v eager second_answer)
unfolding calling arrival_at our_release strategy_release automaton_v
longer_v = omega arith

lost_v : LongerIsLost automaton_v table_v second_answer → Lost automaton_v 0 eager (1 ∷ 1 ∷ []) (1 ∷ 1 ∷ []) [] 2
unfolding calling arrival_at strategy_release strategy_output strategy_buffer lost_bound accepts automaton_v
lost_v h = h eager longer_v

pub full-enforced : FullEnforced
unfolding automaton_v
full-enforced =
    let whole = demand3 automaton_v table_v valid-v solved_tv opening_calls in
    let stays = whole.once-winning.opened (first_answer ∷ []) second_answer (query ∷ []) met-v answer-full in
    let lost = lost_v (rw met-v at whole.strategies).1.0 in
    record {
      each-reply = whole.enforces.each-reply ∙ expected-v;
      met = met-v;
      full = answer-full;
      opened = fine_second stays.0;
      opened_after = fine_query stays.1.0;
      in-hand = two_in_hand;
      strategies = (lost.list, lost.uncontrollable, lost.short, lost.outside);
    }
