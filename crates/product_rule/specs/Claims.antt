-- What is proved of the product of two automata, in document 02's words (Card 6).
use Rattle.std.specs.Prelude.{ℕ, ◌+◌, ◌*◌, ◌/◌, ◌%◌, ◌<◌, ◌≤◌, ◌≡◌, ◌⊎◌, ◌↔◌, true, false, List, [], ◌∷◌, ◌++◌}
use Rattle.base.specs.All.{AllOf}
use Rattle.base.specs.Pad.{pad}
use Rattle.automaton.specs.declared.Automaton.{Automaton}
use Rattle.automaton.specs.Automaton.{class, step, reached, valid, assembled, blank}
use Rattle.solver_sets.specs.Table.{Buffer}
use Rattle.solver_sets.specs.Definition6.{Union, Final}
use Rattle.solver_sets.specs.Claims.{Winning, Intermediate}
use Rattle.product_rule.specs.Pairs.{pair}
use Rattle.product_rule.specs.Product.{Product, product_of, product_refusal, product_answer}

-- 24: the symbols (document 02's kinds) differ in number, or one of them in its class
abbrev pub SymbolsDiffer : Automaton → Automaton → Type 0
SymbolsDiffer a b = (a.symbols ≡ b.symbols → ⊥) ⊎ ((e : ℕ) × (e < a.symbols) × (class a e ≡ class b e → ⊥))

-- both records pass row 11, and their symbols are the same in number and class
pub record Matching (a b : Automaton) : Type 0 where
  pub first-valid : valid a ≡ true
  pub second-valid : valid b ≡ true
  pub same_number : a.symbols ≡ b.symbols
  pub same_class : (e : ℕ) → e < a.symbols → class a e ≡ class b e

-- The rows in their order: 11 for each, then 24, then 25, more than 32 pairs.
pub record ProductRows (a b : Automaton) (n : ℕ) : Type 0 where
  pub row_11 : (n ≡ 11) ↔ ((valid a ≡ false) ⊎ (valid b ≡ false))
  pub row_24 : (n ≡ 24) ↔ ((valid a ≡ true) × (valid b ≡ true) × SymbolsDiffer a b)
  pub row_25 : (n ≡ 25) ↔ (Matching a b × (32 < a.states * b.states))
  pub none : (n ≡ 0) ↔ (Matching a b × (a.states * b.states ≤ 32))
  pub known : (n ≡ 0) ⊎ (n ≡ 11) ⊎ (n ≡ 24) ⊎ (n ≡ 25)

abbrev pub ProductRowsAsWorded : Type 0
ProductRowsAsWorded = (a b : Automaton) → ProductRows a b (product_refusal a b)

-- A record c is the two merged: its states are the pairs, numbered first state × second count +
-- second state; it passes row 11 (so unused places hold 0).
pub record Merges (a b c : Automaton) : Type 0 where
  pub passes : valid c ≡ true
  pub states : c.states ≡ a.states * b.states
  pub symbols : (c.symbols ≡ a.symbols) × (c.symbols ≡ b.symbols)
  pub classes : (e : ℕ) → (class c e ≡ class a e) × (class c e ≡ class b e)
  -- the capacity (document 02's hold) is the smaller one
  pub capacity_most : (c.capacity ≤ a.capacity) × (c.capacity ≤ b.capacity)
  pub capacity_either : (c.capacity ≡ a.capacity) ⊎ (c.capacity ≡ b.capacity)
  pub initial : c.initial ≡ a.initial * b.states + b.initial
  -- a pair accepts when both its states do
  pub accepting : (p q : ℕ) → p < a.states → q < b.states → Final c (p * b.states + q) ↔ (Final a p × Final b q)
  pub next : (p q e : ℕ) → p < a.states → q < b.states → e < a.symbols
      → step c (p * b.states + q) e ≡ step a p e * b.states + step b q e

-- the product is that record, and no other is
abbrev pub ProductAsWorded : Type 0
ProductAsWorded =
    (a b : Automaton) → product_refusal a b ≡ 0
    → Merges a b (product_of a b) × ((c : Automaton) → Merges a b c → c ≡ product_of a b)

-- The whole answer: the row, and the two merged, or a record with 0 everywhere; no other answer is
-- so.
pub record ProductAnswered (a b : Automaton) (x : Product) : Type 0 where
  pub rows : ProductRows a b x.refusal
  pub made : x.refusal ≡ 0 → Merges a b x.automaton
  pub refused : (x.refusal ≡ 0 → ⊥) → x.automaton ≡ blank

abbrev pub ProductAnsweredAsWorded : Type 0
ProductAnsweredAsWorded =
    (a b : Automaton) → ProductAnswered a b (product_answer a b) × ((x : Product) → ProductAnswered a b x → x ≡ product_answer a b)

-- each of its states is a pair of theirs, by division, ..
abbrev pub StatesArePairs : Type 0
StatesArePairs =
    (a b : Automaton) → product_refusal a b ≡ 0 → (r : ℕ) → r < (product_of a b).states
    → (r / b.states < a.states) × (r % b.states < b.states) × (pair b.states (r / b.states) (r % b.states) ≡ r)

-- .. and what it can hold both parts can
abbrev pub HeldByBoth : Type 0
HeldByBoth = (a b : Automaton) → product_refusal a b ≡ 0 → (w : List ℕ) → Buffer (product_of a b) w ↔ (Buffer a w × Buffer b w)

-- a list of events of the automaton's symbols
abbrev pub Symbols : Automaton → List ℕ → Type 0
Symbols a = AllOf (λ e. e < a.symbols)

-- where a list leads in the product is the pair of where it leads in the parts, from every pair
abbrev pub LeadsToPair : Type 0
LeadsToPair =
    (a b : Automaton) → product_refusal a b ≡ 0 → (es : List ℕ) → Symbols a es → (p q : ℕ) → p < a.states → q < b.states
    → reached (product_of a b) (pair b.states p q) es ≡ pair b.states (reached a p es) (reached b q es)

-- from the start a list ends in an accepting state
abbrev pub EndsAccepting : Automaton → List ℕ → Type 0
EndsAccepting a es = Final a (reached a a.initial es)

-- the product does so on exactly the lists on which both parts do
abbrev pub EndsAsBoth : Type 0
EndsAsBoth =
    (a b : Automaton) → product_refusal a b ≡ 0 → (es : List ℕ) → Symbols a es
    → EndsAccepting (product_of a b) es ↔ (EndsAccepting a es × EndsAccepting b es)

-- Wherever the product may rest with a held list, each part may rest with it; where it must
-- release, each part must; and where it can come to rest, each part can. (The list may have any of
-- the symbols and be longer than the capacities; what can be held: `HeldByBoth`.)
abbrev pub PartsRest : Type 0
PartsRest =
    (a b : Automaton) → product_refusal a b ≡ 0 → (w : List ℕ) → Symbols a w → (p q : ℕ) → p < a.states → q < b.states
    → let c = product_of a b in
    let r = pair b.states p q in
    (Winning c w r → Winning a w p × Winning b w q)
    × (Union (Winning c w) (Intermediate c w) r
    → Union (Winning a w) (Intermediate a w) p × Union (Winning b w) (Intermediate b w) q)
    × (Intermediate c w r → Intermediate a w p × Intermediate b w q)

-- The converse is false. Sheet V of document 01, 3 2 1 0, 0 1, 1 0 1, 1 0, 1 2, 2 2: after the
-- first Query (0, which cannot be stopped) an Answer (1, which may be held) is due, and then
-- nothing more.
unfoldable pub sheet_v : Automaton
sheet_v =
    assembled 3 2 1 0
    (pad 16 (0 ∷ 1 ∷ []))
    (pad 32 (1 ∷ 0 ∷ 1 ∷ []))
    (pad 512 (pad 16 (1 ∷ 0 ∷ []) ++ (pad 16 (1 ∷ 2 ∷ []) ++ pad 16 (2 ∷ 2 ∷ []))))

-- A second sheet on the same symbols, 2 2 1 0, 0 1, 1 0, 0 1, 1 1 (`samples/silent.txt`): no
-- Answer is to go out.
unfoldable pub no_answer : Automaton
no_answer =
    assembled 2 2 1 0
    (pad 16 (0 ∷ 1 ∷ []))
    (pad 32 (1 ∷ 0 ∷ []))
    (pad 512 (pad 16 (0 ∷ 1 ∷ []) ++ pad 16 (1 ∷ 1 ∷ [])))

-- With an Answer held each of the two may rest in its state 0, and their product may not in the
-- pair of these, nor can it come to rest there: after a Query the one needs the Answer to go, and
-- the other needs it to stay.
pub record ApartNotTogether : Type 0 where
  pub merged : product_refusal sheet_v no_answer ≡ 0
  pub held : Buffer (product_of sheet_v no_answer) (1 ∷ [])
  pub first-rests : Winning sheet_v (1 ∷ []) 0
  pub second-rests : Winning no_answer (1 ∷ []) 0
  pub product-does-not :
      Union (Winning (product_of sheet_v no_answer) (1 ∷ [])) (Intermediate (product_of sheet_v no_answer) (1 ∷ []))
      (pair no_answer.states 0 0)
      → ⊥

-- so what `PartsRest` says does not hold the other way round, not for the lists that can be held
-- either
abbrev pub Converse : Type 0
Converse =
    (a b : Automaton) → product_refusal a b ≡ 0 → (w : List ℕ) → Buffer (product_of a b) w
    → (p q : ℕ) → p < a.states → q < b.states → Winning a w p → Winning b w q → Winning (product_of a b) w (pair b.states p q)

abbrev pub ConverseFalse : Type 0
ConverseFalse = ApartNotTogether × (Converse → ⊥)
