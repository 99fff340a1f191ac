-- The claims on the product of two automata (document 02, Card 6), hypotheses met: most at sheet V
-- and a second sheet on its symbols, by which no Answer is to go out.
use Rattle.std.specs.Prelude.{ℕ, ◌*◌, ◌/◌, ◌%◌, ◌<◌, ◌≤◌, min, ◌≡◌, true, false, List, [], ◌∷◌, ◌++◌, replicate}
use Rattle.base.specs.Pad.{pad}
use Rattle.automaton.specs.declared.Automaton.{Automaton}
use Rattle.automaton.specs.Automaton.{class, step, reached, valid, assembled, blank}
use Rattle.automaton_format.specs.Reading.{parsed, parse}
use Rattle.solver_sets.specs.Table.{Buffer, table}
use Rattle.solver_sets.specs.Definition6.{Union, Final}
use Rattle.solver_sets.specs.Claims.{Winning, Intermediate, Projects}
use Rattle.product_rule.specs.Pairs.{pair}
use Rattle.product_rule.specs.Product.{Product, product_of, product_refusal, product_answer}
use Rattle.product_rule.specs.Claims.{SymbolsDiffer, Matching, Merges, EndsAccepting, sheet_v, no_answer, Converse}
use Rattle.configuration.specs.declared.Configuration.{Configuration}
use Rattle.configuration.specs.Configuration.{configuration}
use Rattle.monitor_answers.specs.declared.Status.{Status}
use Rattle.monitor_answers.specs.Answers.{status}
use Rattle.c_layout.specs.Offsets.{automaton_size}
use Rattle.c_layout.specs.Layout.{automaton_bytes, automaton_of}
use Rattle.enforcement_cases.specs.Cases.{bytes_v, automaton_v, at}

-- V and the other sheet merged
abbrev pub together : Automaton
together = product_of sheet_v no_answer

-- n states, m symbols that cannot be stopped and a capacity: every state accepts, every symbol
-- leads to state 0
unfoldable pub looping : ℕ → ℕ → ℕ → Automaton
looping n m b = assembled n m b 0 (replicate 16 0) (pad 32 (replicate n 1)) (replicate 512 0)

-- V with another capacity and another initial state
unfoldable pub like_v : ℕ → ℕ → Automaton
like_v b q = assembled 3 2 b q sheet_v.classes sheet_v.accepting sheet_v.next

-- the rows of two records
pub record Refusing : Type 0 where
  -- 11: the record with 0 everywhere is the first, the second, both; and the first has a capacity
  -- of seven, beside which the symbols differ and there are 36 pairs
  pub first-broken : product_refusal blank sheet_v ≡ 11
  pub second-broken : product_refusal sheet_v blank ≡ 11
  pub both-broken : product_refusal blank blank ≡ 11
  pub broken-before-all : product_refusal (looping 6 2 7) (looping 6 3 1) ≡ 11
  -- 11 says that one of the two is broken: beside V it is the other
  pub which-broken : valid blank ≡ false
  pub not_11 : product_refusal sheet_v no_answer ≡ 11 → ⊥
  -- 24: V beside three symbols, and beside two of which the second is of another class
  pub other-number : product_refusal sheet_v (looping 1 3 1) ≡ 24
  pub other-class : product_refusal sheet_v (looping 2 2 1) ≡ 24
  -- 24 says that they differ: in number, or in the class of the second
  pub number-differs : SymbolsDiffer sheet_v (looping 1 3 1)
  pub class-differs : class sheet_v 1 ≡ class (looping 2 2 1) 1 → ⊥
  pub not-24 : product_refusal sheet_v no_answer ≡ 24 → ⊥
  -- 24 and not 25 where the symbols differ and there are 36 pairs
  pub both-faults : product_refusal (looping 6 2 1) (looping 6 3 1) ≡ 24
  pub not-25 : product_refusal (looping 6 2 1) (looping 6 3 1) ≡ 25 → ⊥
  -- 25: 36 pairs, 33 pairs
  pub pairs-36 : product_refusal (looping 6 2 1) (looping 6 2 1) ≡ 25
  pub pairs-33 : product_refusal (looping 3 2 1) (looping 11 2 1) ≡ 25
  -- 25 says that they match and the pairs are too many
  pub too_many : Matching (looping 3 2 1) (looping 11 2 1) × (32 < 3 * 11)
  pub not-merged : product_refusal (looping 3 2 1) (looping 11 2 1) ≡ 0 → ⊥
  -- one of four numbers: of V and the other sheet none, as it is none of the three
  pub known : product_refusal sheet_v no_answer ≡ 0
  -- none: 6 pairs, 32 pairs
  pub pairs-6 : product_refusal sheet_v no_answer ≡ 0
  pub pairs-32 : product_refusal (looping 4 2 1) (looping 8 2 1) ≡ 0
  -- that none stands says that they match and the pairs are not too many
  pub not-too-many : Matching (looping 4 2 1) (looping 8 2 1) × (4 * 8 ≤ 32)

-- a row with the record that has 0 everywhere
abbrev pub refused_by : ℕ → Product
refused_by row = record { refusal = row; automaton = blank }

-- V and the other sheet merged, written out: 6 2 1 0, 0 1, 1 0 0 0 1 0, and the next states of
-- the six pairs, 2 1, 3 1, 2 5, 3 5, 4 5, 5 5
unfoldable pub written : Automaton
written =
    assembled 6 2 1 0
    (pad 16 (0 ∷ 1 ∷ []))
    (pad 32 (1 ∷ 0 ∷ 0 ∷ 0 ∷ 1 ∷ 0 ∷ []))
    (pad 512 (pad 16 (2 ∷ 1 ∷ []) ++ (pad 16 (3 ∷ 1 ∷ []) ++ (pad 16 (2 ∷ 5 ∷ [])
    ++ (pad 16 (3 ∷ 5 ∷ []) ++ (pad 16 (4 ∷ 5 ∷ []) ++ pad 16 (5 ∷ 5 ∷ [])))))))

-- the merged record
pub record Merging : Type 0 where
  pub passes : valid together ≡ true
  pub states : together.states ≡ 6
  pub symbols : (together.symbols ≡ 2) × (together.symbols ≡ 2)
  -- Answer may be held, in both
  pub classes : (class together 1 ≡ 1) × (class together 1 ≡ 1)
  -- state 2 of V and state 0 of the other accept, and so pair 4 does; pair 4 accepts, and so they
  -- do; pair 1 does not, for state 1 of the other does not
  pub pair-accepts : Final together 4
  pub states-accept : Final sheet_v 2 × Final no_answer 0
  pub pair-does-not : Final together 1 → ⊥
  -- an Answer leads from pair 2, of states 1 and 0, to pair 5, of states 2 and 1
  pub next : step together 2 1 ≡ 5
  -- of the capacities 3 and 2 it has 2, whichever comes first
  pub second-smaller : (product_of (like_v 3 2) (like_v 2 1)).capacity ≡ 2
  pub first-smaller : (product_of (like_v 2 1) (like_v 3 2)).capacity ≡ 2
  -- the initial states are 2 and 1 of three
  pub initial : (product_of (like_v 3 2) (like_v 2 1)).initial ≡ 7
  pub initial-turned : (product_of (like_v 2 1) (like_v 3 2)).initial ≡ 5
  -- the one written out is the two merged too, so it is this one
  pub only : written ≡ together

-- the whole answer: its number and its record, out of the words; and by them alone, the merged
-- sheet written out, and a row with 0 everywhere
pub record Answering : Type 0 where
  pub number : (product_answer sheet_v no_answer).refusal ≡ 0
  pub merged : Merges sheet_v no_answer (product_answer sheet_v no_answer).automaton
  pub zeros : (product_answer sheet_v blank).automaton ≡ blank
  pub made : record { refusal = 0; automaton = written } ≡ product_answer sheet_v no_answer
  pub refused_11 : refused_by 11 ≡ product_answer sheet_v blank
  pub refused-24 : refused_by 24 ≡ product_answer sheet_v (looping 2 2 1)
  pub refused-25 : refused_by 25 ≡ product_answer (looping 3 2 1) (looping 11 2 1)

-- states and held lists of V and the other sheet merged
pub record Pairing : Type 0 where
  -- 5 is the pair of 2 and 1
  pub state-5 : (5 / 2 < 3) × (5 % 2 < 2) × (pair 2 (5 / 2) (5 % 2) ≡ 5)
  -- an Answer can be held by it, and so by both; and the other way round
  pub by_both : Buffer sheet_v (1 ∷ []) × Buffer no_answer (1 ∷ [])
  pub by_product : Buffer together (1 ∷ [])

-- A second pair of sheets, for the converse too. A, 2 2 1 0, 0 1, 1 0, 0 1, 0 1: a list shall not
-- end in 1. B, 3 2 1 0, 0 1, 1 0 1, 1 1, 2 2, 2 2: a list shall not be one event alone.
unfoldable pub sheet_a : Automaton
sheet_a =
    assembled 2 2 1 0
    (pad 16 (0 ∷ 1 ∷ []))
    (pad 32 (1 ∷ 0 ∷ []))
    (pad 512 (pad 16 (0 ∷ 1 ∷ []) ++ pad 16 (0 ∷ 1 ∷ [])))

unfoldable pub sheet_b : Automaton
sheet_b =
    assembled 3 2 1 0
    (pad 16 (0 ∷ 1 ∷ []))
    (pad 32 (1 ∷ 0 ∷ 1 ∷ []))
    (pad 512 (pad 16 (1 ∷ 1 ∷ []) ++ (pad 16 (2 ∷ 2 ∷ []) ++ pad 16 (2 ∷ 2 ∷ []))))

-- A and B merged
abbrev pub both : Automaton
both = product_of sheet_a sheet_b

-- where lists lead
pub record Leading : Type 0 where
  -- from states 1 and 0, pair 2, Query and Answer lead to 2 and 1, pair 5; from state 1 of A and
  -- state 1 of B, pair 4, the list 0 1 0 leads to 0 and 2, pair 2
  pub query-answer : reached together 2 (0 ∷ 1 ∷ []) ≡ 5
  pub three : reached both 4 (0 ∷ 1 ∷ 0 ∷ []) ≡ 2
  -- on the list 1 0 A and B end accepting, and so the product does; it does, and so they do
  pub product-ends : EndsAccepting both (1 ∷ 0 ∷ [])
  pub parts_end : EndsAccepting sheet_a (1 ∷ 0 ∷ []) × EndsAccepting sheet_b (1 ∷ 0 ∷ [])
  -- on 0 only A does, on 1 1 only B, and the product on neither
  pub only-first : EndsAccepting sheet_a (0 ∷ []) × (EndsAccepting both (0 ∷ []) → ⊥)
  pub only-second : EndsAccepting sheet_b (1 ∷ 1 ∷ []) × (EndsAccepting both (1 ∷ 1 ∷ []) → ⊥)

-- where an automaton may rest, or come to rest
abbrev pub ComesToRest : Automaton → List ℕ → ℕ → Type 0
ComesToRest a w = Union (Winning a w) (Intermediate a w)

-- V merged with itself
abbrev pub twice : Automaton
twice = product_of sheet_v sheet_v

-- where the product may rest each part may
pub record PartsResting : Type 0 where
  -- in states 2 and 0, pair 4, with nothing held, with an Answer, and with two, one more than
  -- either capacity
  pub product-empty : Winning together [] 4
  pub parts-empty : Winning sheet_v [] 2 × Winning no_answer [] 0
  pub product-held : Winning together (1 ∷ []) 4
  pub parts_held : Winning sheet_v (1 ∷ []) 2 × Winning no_answer (1 ∷ []) 0
  pub product-long : Winning together (1 ∷ 1 ∷ []) 4
  pub parts-long : Winning sheet_v (1 ∷ 1 ∷ []) 2 × Winning no_answer (1 ∷ 1 ∷ []) 0
  -- it may rest, and so it may come to rest
  pub parts-come : ComesToRest sheet_v (1 ∷ []) 2 × ComesToRest no_answer (1 ∷ []) 0
  -- in state 1 of V twice, pair 4 of nine, with an Answer held, the product must release and may
  -- not rest
  pub twice-releases : Intermediate twice (1 ∷ []) 4
  pub twice_may_not : Winning twice (1 ∷ []) 4 → ⊥
  pub twice-come : ComesToRest sheet_v (1 ∷ []) 1 × ComesToRest sheet_v (1 ∷ []) 1
  pub parts-release : Intermediate sheet_v (1 ∷ []) 1 × Intermediate sheet_v (1 ∷ []) 1

-- V with its state 2 twice, each leading to the other
unfoldable pub doubled : Automaton
doubled =
    assembled 4 2 1 0
    (pad 16 (0 ∷ 1 ∷ []))
    (pad 32 (1 ∷ 0 ∷ 1 ∷ 1 ∷ []))
    (pad 512 (pad 16 (1 ∷ 0 ∷ []) ++ (pad 16 (1 ∷ 2 ∷ []) ++ (pad 16 (3 ∷ 3 ∷ []) ++ pad 16 (2 ∷ 2 ∷ [])))))

-- both are V's state 2
abbrev pub folded : ℕ → ℕ
folded q = min q 2

-- where it may rest its image may
pub record Folding : Type 0 where
  pub projects : Projects doubled sheet_v folded
  -- in state 3 with an Answer held
  pub rests : Winning doubled (1 ∷ []) 3
  pub image_rests : Winning sheet_v (1 ∷ []) 2
  -- in state 1 it must release and may not rest
  pub releases : Intermediate doubled (1 ∷ []) 1
  pub may-not : Winning doubled (1 ∷ []) 1 → ⊥
  pub image-comes : ComesToRest sheet_v (1 ∷ []) 1
  pub image-releases : Intermediate sheet_v (1 ∷ []) 1

-- with 1 held A and B may rest in state 0, and their product neither rests in pair 0 nor comes to
-- rest there; so by these two as well the converse does not hold
pub record ApartAgain : Type 0 where
  pub merged : product_refusal sheet_a sheet_b ≡ 0
  pub held : Buffer both (1 ∷ [])
  pub first-rests : Winning sheet_a (1 ∷ []) 0
  pub second-rests : Winning sheet_b (1 ∷ []) 0
  pub product-does-not : ComesToRest both (1 ∷ []) 0 → ⊥
  pub no_converse : Converse → ⊥

-- the marked cases' V is this V, and the other sheet is that of its bytes
pub record SameSheets : Type 0 where
  pub sheet-v : sheet_v ≡ automaton_v
  pub sheet-no-answer : parse (2 ∷ 2 ∷ 1 ∷ 0 ∷ 0 ∷ 1 ∷ 1 ∷ 0 ∷ 0 ∷ 1 ∷ 1 ∷ 1 ∷ []) ≡ parsed no_answer

-- state 0 with an Answer held, the first of the input
abbrev pub answer_held : Configuration
answer_held = configuration (at 0 (1 ∷ []) (0 ∷ []) 1 0)

-- what the call says of it over the solved table (winning is document 01's guarded)
abbrev pub says : Automaton → Status
says a = status a (table a) answer_held

pub record Asking : Type 0 where
  pub first : says sheet_v ≡ record { refusal = 0; winning = true }
  pub second : says no_answer ≡ record { refusal = 0; winning = true }
  pub product : says together ≡ record { refusal = 0; winning = false }

-- a solved table (a table is solved whatever follows it: here nothing does)
abbrev pub table_of : Automaton → List ℕ
table_of a = table a ++ []

-- states 2 and 0, pair 4, with an Answer held: the product is winning, and so both parts are
pub record PartsWinning : Type 0 where
  pub product : (status together (table_of together) (configuration (at 4 (1 ∷ []) (0 ∷ []) 1 0))).winning ≡ true
  pub first : (status sheet_v (table_of sheet_v) (configuration (at 2 (1 ∷ []) (0 ∷ []) 1 0))).winning ≡ true
  pub second : (status no_answer (table_of no_answer) (configuration (at 0 (1 ∷ []) (0 ∷ []) 1 0))).winning ≡ true

-- V with a byte behind it
abbrev pub followed_v : List ℕ
followed_v = bytes_v ++ 0 ∷ []

-- the records that calls answer with, in their bytes
pub record Handing : Type 0 where
  -- the product comes back from its bytes, and so does the record of a refused one
  pub handed_on : automaton_of (automaton_bytes written) ≡ written
  pub refused-handed-on : automaton_of (automaton_bytes blank) ≡ blank
  -- and so does V, read
  pub read-handed-on : automaton_of (automaton_bytes automaton_v) ≡ automaton_v
  -- refused, each byte is 0
  pub row_10 : (parse followed_v).refusal ≡ 10
  pub read-blank : (parse followed_v).automaton ≡ blank
  pub read-zero : automaton_bytes (parse followed_v).automaton ≡ replicate automaton_size 0
  pub product-zero : automaton_bytes (product_answer sheet_v (looping 2 2 1)).automaton ≡ replicate automaton_size 0
