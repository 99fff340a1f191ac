-- What is proved of the sets and the numbering: demand 2's first sentence; and of images (document
-- 02, Card 6).
use Rattle.std.specs.Prelude.{ℕ, ◌+◌, ◌*◌, ◌<◌, ◌≤◌, ◌≡◌, ◌⊎◌, ◌↔◌, true, List, [], ◌∷◌, ◌++◌, length}
use Rattle.base.specs.All.{AllOf}
use Rattle.base.specs.Each.{count}
use Rattle.base.specs.Masks.{has}
use Rattle.automaton.specs.declared.Automaton.{Automaton}
use Rattle.automaton.specs.Automaton.{accepts, step, valid}
use Rattle.solver_sets.specs.Sets.{sets_for}
use Rattle.solver_sets.specs.Table.{index, buffers_count, short, Buffer, table, Solved}
use Rattle.solver_sets.specs.Definition6.{States, Union, Final, Uncontrollable, Definition6}

-- q is in S, or in I, of a buffer
abbrev pub Winning : Automaton → List ℕ → States
Winning a w q = has (sets_for a w).winning q ≡ true

abbrev pub Intermediate : Automaton → List ℕ → States
Intermediate a w q = has (sets_for a w).intermediate q ≡ true

-- S(w) is a set of accepting states in which every uncontrollable symbol leads into it or into
-- I(w) ..
pub record Resting (a : Automaton) (w : List ℕ) (X : States) : Type 0 where
  pub accepting : (q : ℕ) → q < a.states → X q → Final a q
  pub leads : (q e : ℕ) → q < a.states → X q → Uncontrollable a e → X (step a q e) ⊎ Intermediate a w (step a q e)

abbrev pub IsResting : Type 0
IsResting = (a : Automaton) → valid a ≡ true → (w : List ℕ) → Resting a w (Winning a w)

-- .. and it contains every such set
abbrev pub IsLargest : Type 1
IsLargest =
    (a : Automaton) → valid a ≡ true → (w : List ℕ) (X : States) → Resting a w X → (q : ℕ) → q < a.states → X q → Winning a w q

-- the rounds of one buffer are at most the accepting states
abbrev pub RoundsBounded : Type 0
RoundsBounded = (a : Automaton) → valid a ≡ true → (w : List ℕ) → (sets_for a w).rounds ≤ count a.states (accepts a)

-- an event added at the end takes no state away: 000's union with S of the list without its last
-- event adds nothing
abbrev pub UnionAddsNothing : Type 0
UnionAddsNothing =
    (a : Automaton) → valid a ≡ true → (w : List ℕ) (e q : ℕ) → q < a.states
    → (Winning a w q → Winning a (w ++ e ∷ []) q) × (Intermediate a w q → Intermediate a (w ++ e ∷ []) q)

-- A map of the states of c to those of another automaton, a (a functional simulation): it keeps
-- every step under c's symbols and takes accepting states to accepting ones; and the symbols that
-- cannot be held back in a are symbols that cannot be held back in c.
pub record Projects (c a : Automaton) (π : ℕ → ℕ) : Type 0 where
  pub below : (q : ℕ) → q < c.states → π q < a.states
  pub steps : (q e : ℕ) → q < c.states → e < c.symbols → π (step c q e) ≡ step a (π q) e
  pub final : (q : ℕ) → q < c.states → Final c q → Final a (π q)
  pub free : (e : ℕ) → Uncontrollable a e → Uncontrollable c e

-- Where c may rest with a buffer, its image may rest with it; where it can come to rest, its image
-- can; and where it must release, its image must. The buffer may be of any symbols of c and of any
-- length.
abbrev pub ImagesRest : Type 0
ImagesRest =
    (c a : Automaton) → valid c ≡ true → valid a ≡ true → (π : ℕ → ℕ) → Projects c a π
    → (w : List ℕ) → AllOf (λ e. e < c.symbols) w → (q : ℕ) → q < c.states
    → (Winning c w q → Winning a w (π q))
    × (Union (Winning c w) (Intermediate c w) q → Union (Winning a w) (Intermediate a w) (π q))
    × (Intermediate c w q → Intermediate a w (π q))

-- the sets satisfy Definition 6 ..
abbrev pub SatisfyDefinition6 : Type 0
SatisfyDefinition6 = (a : Automaton) → valid a ≡ true → Definition6 a (Winning a) (Intermediate a)

-- .. and whatever satisfies it equals them, for every buffer up to the capacity
abbrev pub OnlyDefinition6 : Type 1
OnlyDefinition6 =
    (a : Automaton) → valid a ≡ true → (S I : List ℕ → States) → Definition6 a S I → (w : List ℕ) → Buffer a w → (q : ℕ)
    → q < a.states
    → (S w q ↔ Winning a w q) × (I w q ↔ Intermediate a w q)

-- the numbering: each buffer has a number below T, ..
abbrev pub Numbered : Type 0
Numbered = (a : Automaton) → valid a ≡ true → (w : List ℕ) → Buffer a w → index a w < buffers_count a

-- .. two buffers have two numbers, ..
abbrev pub OneToOne : Type 0
OneToOne = (a : Automaton) → valid a ≡ true → (v w : List ℕ) → Buffer a v → Buffer a w → index a v ≡ index a w → v ≡ w

-- .. and each number below T is a buffer's
abbrev pub Onto : Type 0
Onto = (a : Automaton) → valid a ≡ true → (j : ℕ) → j < buffers_count a → (w : List ℕ) × Buffer a w × (index a w ≡ j)

-- row 12: a table is too short exactly when it has fewer than 2T places
abbrev pub ShortAsWorded : Type 0
ShortAsWorded = (a : Automaton) (t : List ℕ) → (short a t ≡ true) ↔ (length t < 2 * buffers_count a)

-- the table has 2T places and is solved, whatever follows it
abbrev pub TableIsSolved : Type 0
TableIsSolved =
    (a : Automaton) → valid a ≡ true → (length (table a) ≡ 2 * buffers_count a) × ((later : List ℕ) → Solved a (table a ++ later))
