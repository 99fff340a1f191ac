-- The claim on the published functions of a list of clients at sheet W, hypotheses met.
use Rattle.std.specs.Prelude.{ℕ, zero, suc, ◌<◌, ◌≤◌, ◌≡◌, ◌⊎◌, List, [], ◌∷◌, length}
use Rattle.automaton.specs.Automaton.{reached}
use Rattle.solver_sets.specs.Claims.{Winning}
use Rattle.monitor_rule.specs.Claims.{Opens}
use Rattle.enforcement.specs.Store.{Store}
use Rattle.enforcement_cases.specs.Cases.{automaton_w}
use Rattle.enforcement_instances.specs.Statements.{filled}
use Rattle.enforcement_instances.specs.MonitorStatements.{store_of, two_held, ended}
use Rattle.clients_answers.specs.Clients.{refused_for}
use Rattle.clients_answers.specs.Claims.{WrongCount}
use Rattle.feed_record.specs.declared.Expected.{Expected}
use Rattle.feed_record.specs.declared.Expected.TheVariants.{Any, Serial}
use Rattle.enforcement_clients.specs.ClientCalls.{receive_for, run_for, feed_for, receive, feed, refusal_in}
use Rattle.enforcement_clients.specs.Functions.{Functions, fed_own, fed_in, put_out, refused_day, expected_in}
use Rattle.enforcement_clients_instances.specs.ListStatements.{sent, answer_for}
use Rattle.enforcement_clients_instances.specs.CallStatements.{refused, ran}
use Rattle.enforcement_clients_instances.specs.RecordStatements.{repeated, one_more, in_turn}
use Rattle.enforcement_clients_instances.specs.FeedStatements.{fed_as, kept_as}

-- a function that put out Sign and holds nothing; and then holds a Page
abbrev pub signed_store : Store
signed_store = store_of (0 ∷ []) (0 ∷ []) [] [] 1

abbrev pub paged_store : Store
paged_store = store_of (0 ∷ []) (0 ∷ []) (2 ∷ []) (1 ∷ []) 2

-- client 0's function holds two Pages; every other put out Sign and holds nothing
abbrev pub family : Functions
family zero = two_held
family (suc g) = signed_store

-- client 0's function has its count at the end; no other has
abbrev pub ending : Functions
ending zero = ended
ending (suc g) = signed_store

-- an event opens the buffer of a function, by W's sets
abbrev pub OpensAt : Store → ℕ → Type 0
OpensAt s e = Opens (Winning automaton_w) automaton_w (reached automaton_w automaton_w.initial s.output) s.buffer e

-- the rows by which they refuse an event, and a day, where n are lent
abbrev pub row_of : ℕ → ℕ → ℕ → ℕ
row_of n i e = refusal_in (expected_in automaton_w n family (receive_for n i e))

abbrev pub day_row_of : ℕ → List ℕ → List ℕ → ℕ
day_row_of n vs out = refusal_in (expected_in automaton_w n family (run_for n vs out))

-- one event
pub record EventFields : Type 0 where
  pub row-20 : row_of 0 0 0 ≡ 20
  pub row-20-many : row_of 501 0 0 ≡ 20
  pub row-19 : row_of 2 2 9 ≡ 19
  pub row-14 : row_of 2 0 4 ≡ 14
  pub row-15 : row_of 2 0 3 ≡ 15
  -- 23 by the client's own count: the other's Sign is accepted
  pub row-23 : refusal_in (expected_in automaton_w 2 ending (receive_for 2 0 0)) ≡ 23
  pub accepted-beside : refusal_in (expected_in automaton_w 2 ending (receive_for 2 1 0)) ≡ 0
  pub accepted : row_of 2 1 3 ≡ 0
  pub last-of-500 : row_of 500 499 2 ≡ 0
  -- and the other way
  pub only-20 : (n i e : ℕ) → row_of n i e ≡ 20 → WrongCount n
  pub only-19 : (n i e : ℕ) → row_of n i e ≡ 19 → n ≤ i
  pub only-14 : (n i e : ℕ) → row_of n i e ≡ 14 → 4 ≤ e
  pub only-15 : (n i e : ℕ) → row_of n i e ≡ 15
      → (2 ≤ length (family i).buffer) × (OpensAt (family i) e → ⊥)
  pub only-23 : (n i e : ℕ) → refusal_in (expected_in automaton_w n ending (receive_for n i e)) ≡ 23
      → (ending i).accepted ≡ 4294967295
  pub only-0 : (n i : ℕ) → row_of n i 2 ≡ 0 → (length (family i).buffer < 2) ⊎ OpensAt (family i) 2
  -- client 1's Page is held, and client 0's function is what it was; so is each where the call is
  -- refused by 20 or 19
  pub fed : fed_in automaton_w 2 family (receive_for 2 1 2) 1 ≡ paged_store
  pub others : fed_in automaton_w 2 family (receive_for 2 1 2) 0 ≡ two_held
  pub wrong-count : fed_in automaton_w 501 family (receive_for 501 1 2) 1 ≡ signed_store
  pub absent : fed_in automaton_w 2 family (receive_for 2 2 2) 2 ≡ signed_store
  -- client 1's Receipt goes at once; client 0's finds the buffer full, and does not open it
  pub answer : expected_in automaton_w 2 family (receive_for 2 1 3) ≡ receive (answer_for (3 ∷ []) (1 ∷ []))
  pub answer-refused : expected_in automaton_w 2 family (receive_for 2 0 3) ≡ refused 15

-- Page of client 1, Sign of a client 5, Receipt of client 1, Page of client 0, and of client 1 a
-- kind that there is not
abbrev pub xs : List (ℕ × ℕ)
xs = (1, 2) ∷ (5, 0) ∷ (1, 3) ∷ (0, 2) ∷ (1, 4) ∷ []

-- events one after the other: client 1's Page and Receipt go together; three are refused
pub record EventsFields : Type 0 where
  pub none-fed : fed_own automaton_w 2 family [] 0 ≡ two_held
  pub fed : fed_own automaton_w 2 family ((0, 2) ∷ (5, 0) ∷ (1, 2) ∷ []) 1 ≡ paged_store
  pub fed-other : fed_own automaton_w 2 family ((0, 2) ∷ (5, 0) ∷ (1, 2) ∷ []) 0 ≡ two_held
  pub put : put_out automaton_w 2 family xs ≡ 2 ∷ 3 ∷ []
  pub counted : refused_day automaton_w 2 family xs ≡ 3
  -- of Sign of client 0, whose count is at its end, and Sign of client 1, the first
  pub end-counted : refused_day automaton_w 2 ending ((0, 0) ∷ (1, 0) ∷ []) ≡ 1

-- a day of Page and Receipt of client 1, with two held by client 0's function
pub record DayFields : Type 0 where
  pub row-20 : day_row_of 0 (sent 1 2 ∷ []) [] ≡ 20
  pub row-20-many : day_row_of 501 (sent 1 2 ∷ []) [] ≡ 20
  pub row-16 : day_row_of 2 (sent 1 2 ∷ sent 1 3 ∷ []) (filled 3 9) ≡ 16
  pub accepted : day_row_of 2 (sent 1 2 ∷ sent 1 3 ∷ []) (filled 4 9) ≡ 0
  -- and the other way
  pub only-20 : (n : ℕ) (vs out : List ℕ) → day_row_of n vs out ≡ 20 → WrongCount n
  pub only-16 : (out : List ℕ) → day_row_of 2 (sent 1 2 ∷ sent 1 3 ∷ []) out ≡ 16 → length out < 4
  pub only-0 : (out : List ℕ) → day_row_of 2 (sent 1 2 ∷ sent 1 3 ∷ []) out ≡ 0 → 4 ≤ length out
  -- refused by 16
  pub refused-fed : (g : ℕ) → fed_in automaton_w 2 family (run_for 2 (sent 1 2 ∷ sent 1 3 ∷ []) (filled 3 9)) g ≡ family g
  pub refused : expected_in automaton_w 2 family (run_for 2 (sent 1 2 ∷ sent 1 3 ∷ []) (filled 3 9)) ≡ ran 16 0 0 (9 ∷ 9 ∷ 9 ∷ [])
  -- accepted
  pub fed : fed_in automaton_w 2 family (run_for 2 (sent 1 2 ∷ sent 1 3 ∷ []) (filled 4 9)) 1
      ≡ store_of (0 ∷ 2 ∷ 3 ∷ []) (0 ∷ 1 ∷ 2 ∷ []) [] [] 3
  pub answer : expected_in automaton_w 2 family (run_for 2 (sent 1 2 ∷ sent 1 3 ∷ []) (filled 4 9))
      ≡ ran 0 2 0 (2 ∷ 3 ∷ 9 ∷ 9 ∷ [])

-- the row by which they refuse a record of the feed
abbrev pub feed_row_of : ℕ → List ℕ → Expected → ℕ
feed_row_of n s x = refusal_in (expected_in automaton_w n family (feed_for n s x))

-- one record of the feed
pub record FeedFields : Type 0 where
  -- 20, before the record's own rows
  pub row-20 : feed_row_of 0 [] Any ≡ 20
  pub row-20-many : feed_row_of 501 [] Any ≡ 20
  -- and the other way
  pub only-20 : (n : ℕ) (s : List ℕ) (x : Expected) → feed_row_of n s x ≡ 20 → WrongCount n
  -- not let in, by 20, for a byte too many and as a repeat: the expected serial is kept, and each
  -- function
  pub wrong-count : expected_in automaton_w 501 family (feed_for 501 one_more (Serial 7)) ≡ feed (kept_as 7 20 0)
  pub one-more : expected_in automaton_w 2 family (feed_for 2 one_more (Serial 7)) ≡ feed (kept_as 7 10 3)
  pub late : expected_in automaton_w 3 family (feed_for 3 repeated (Serial 7)) ≡ feed (kept_as 7 22 0)
  pub wrong-count-fed : fed_in automaton_w 501 family (feed_for 501 (in_turn 1 2) (Serial 2)) 1 ≡ signed_store
  pub late-fed : fed_in automaton_w 3 family (feed_for 3 repeated (Serial 7)) 2 ≡ signed_store
  -- let in, with five lost before it: client 1's Page is held, and client 0's function is what it
  -- was
  pub fed : fed_in automaton_w 2 family (feed_for 2 (in_turn 1 2) (Serial 2)) 1 ≡ paged_store
  pub others : fed_in automaton_w 2 family (feed_for 2 (in_turn 1 2) (Serial 2)) 0 ≡ two_held
  -- client 1's Receipt goes at once; client 0's finds the buffer full, and does not open it
  pub let-in : expected_in automaton_w 2 family (feed_for 2 (in_turn 1 3) (Serial 2))
      ≡ feed (fed_as (answer_for (3 ∷ []) (1 ∷ [])) 8 5)
  pub let-in-refused : expected_in automaton_w 2 family (feed_for 2 (in_turn 0 3) (Serial 2)) ≡ feed (fed_as (refused_for 15) 8 5)
