-- Records side by side in a list, and events that each name one of them by its number: an event
-- reads that record alone and changes it alone. What an event does to a record is any step
-- whatever.
use Rattle.std.specs.Prelude.{ℕ, ◌<◌, ◌≡◌, cond, List, [], ◌∷◌, length, get_or, set, eqb, ltb}

-- a step of a record of type C that brings an O
pub record Stepping (C O : Type 0) : Type 0 where
  -- what an event brings, and what the record is after it
  pub says : C → ℕ → O
  pub next : C → ℕ → C
  -- what an event brings whose record is not there, and what stands past the end of a list
  pub absent : O
  pub none : C

-- of an event e for the record i
unfoldable pub outcome : {C O : Type 0} → Stepping C O → List C → ℕ → ℕ → O
outcome k cs i e = cond (ltb i (length cs)) (k.says (get_or cs i k.none) e) k.absent

-- (a number past the end changes nothing)
unfoldable pub changed : {C O : Type 0} → Stepping C O → List C → ℕ → ℕ → List C
changed k cs i e = set cs i (k.next (get_or cs i k.none) e)

-- of events with their records' numbers, one by one
unfoldable pub outcomes : {C O : Type 0} → Stepping C O → List C → List (ℕ × ℕ) → List O
outcomes k cs [] = []
outcomes k cs (x ∷ xs) = outcome k cs x.0 x.1 ∷ outcomes k (changed k cs x.0 x.1) xs

unfoldable pub changed_by : {C O : Type 0} → Stepping C O → List C → List (ℕ × ℕ) → List C
changed_by k cs [] = cs
changed_by k cs (x ∷ xs) = changed_by k (changed k cs x.0 x.1) xs

-- the record g's own events among them, and its part of what came of all
unfoldable pub events_of : ℕ → List (ℕ × ℕ) → List ℕ
events_of g [] = []
events_of g (x ∷ xs) = cond (eqb x.0 g) (x.1 ∷ events_of g xs) (events_of g xs)

unfoldable pub part_of : {O : Type 0} → ℕ → List (ℕ × ℕ) → List O → List O
part_of g [] os = []
part_of g (x ∷ xs) [] = []
part_of g (x ∷ xs) (o ∷ os) = cond (eqb x.0 g) (o ∷ part_of g xs os) (part_of g xs os)

-- a record alone, over its own events
unfoldable pub alone : {C O : Type 0} → Stepping C O → C → List ℕ → List O
alone k c [] = []
alone k c (e ∷ es) = k.says c e ∷ alone k (k.next c e) es

unfoldable pub after_alone : {C O : Type 0} → Stepping C O → C → List ℕ → C
after_alone k c [] = c
after_alone k c (e ∷ es) = after_alone k (k.next c e) es

-- Whatever the step, the list and the events: the part of a record is what it would be alone, over
-- its own events.
pub record Isolated {C O : Type 0} (k : Stepping C O) (cs : List C) (xs : List (ℕ × ℕ)) (g : ℕ) : Type 0 where
  pub part : part_of g xs (outcomes k cs xs) ≡ alone k (get_or cs g k.none) (events_of g xs)
  pub last : get_or (changed_by k cs xs) g k.none ≡ after_alone k (get_or cs g k.none) (events_of g xs)
  pub count : length (changed_by k cs xs) ≡ length cs

abbrev pub Isolation : Type 1
Isolation =
    (C O : Type 0) (k : Stepping C O) (cs : List C) (xs : List (ℕ × ℕ)) (g : ℕ) → g < length cs → Isolated k cs xs g

-- A record's own events in words: those that name it, in their order; and its part of what came of
-- all events is what came of those, in the same order.
pub record OwnEvents (O : Type 0) (g : ℕ) : Type 0 where
  pub no_event : events_of g [] ≡ []
  pub own : (e : ℕ) (xs : List (ℕ × ℕ)) → events_of g ((g, e) ∷ xs) ≡ e ∷ events_of g xs
  pub other : (i e : ℕ) (xs : List (ℕ × ℕ)) → (i ≡ g → ⊥) → events_of g ((i, e) ∷ xs) ≡ events_of g xs
  pub no_part : (os : List O) → part_of g [] os ≡ []
  pub own-part : (e : ℕ) (xs : List (ℕ × ℕ)) (o : O) (os : List O) → part_of g ((g, e) ∷ xs) (o ∷ os) ≡ o ∷ part_of g xs os
  pub other-part : (i e : ℕ) (xs : List (ℕ × ℕ)) (o : O) (os : List O) → (i ≡ g → ⊥)
      → part_of g ((i, e) ∷ xs) (o ∷ os) ≡ part_of g xs os

abbrev pub OwnEventsAsWorded : Type 1
OwnEventsAsWorded = (O : Type 0) (g : ℕ) → OwnEvents O g
