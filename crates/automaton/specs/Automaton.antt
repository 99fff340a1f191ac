-- The property automaton (document 01, "The sheet") as its record has it, and row 11 ("Numbers of
-- refusal").
use Rattle.std.specs.Prelude.{ℕ, ◌+◌, Bool, not, ◌&&◌, List, [], ◌∷◌, length, get_or, replicate, eqb, leb, ltb}
use Rattle.base.specs.Each.{each}
pub use Rattle.automaton.specs.declared.Automaton.{Automaton}
use Rattle.automaton.specs.Arrays.{controllable_at, controllable_in, accepting_at, goes, stands, places_stand}

-- the class of a symbol (document 01's kind of event): 0 or 1
abbrev pub class : Automaton → ℕ → ℕ
class a e = get_or a.classes e 0

-- events of this symbol may be held back
unfoldable pub controllable : Automaton → ℕ → Bool
controllable a e = controllable_at a.classes e

unfoldable pub uncontrollable : Automaton → ℕ → Bool
uncontrollable a e = not (controllable a e)

-- how many symbols are controllable
unfoldable pub controllables : Automaton → ℕ
controllables a = controllable_in a.classes a.symbols

-- the flag of a state; an accepting state is document 01's acceptable one
abbrev pub flag : Automaton → ℕ → ℕ
flag a q = get_or a.accepting q 0

unfoldable pub accepts : Automaton → ℕ → Bool
accepts a q = accepting_at a.accepting q

-- the next state of q under e
unfoldable pub step : Automaton → ℕ → ℕ → ℕ
step a q e = goes a.next q e

-- the state that a list of symbols leads to from q (source document 000: q after es)
unfoldable pub reached : Automaton → ℕ → List ℕ → ℕ
reached a q [] = q
reached a q (e ∷ es) = reached a (step a q e) es

-- the arrays have the lengths that their types give
unfoldable pub shaped : Automaton → Bool
shaped a = eqb (length a.classes) 16 && (eqb (length a.accepting) 32 && eqb (length a.next) 512)

-- rows 3 to 6: n, m, B and the initial state
unfoldable pub ranged : ℕ → ℕ → ℕ → ℕ → Bool
ranged n m b q = (leb 1 n && leb n 32) && ((leb 1 m && leb m 16) && ((leb 1 b && leb b 6) && ltb q n))

-- row 7 for the classes, the largest being `most`, and row 8
unfoldable pub classes_stand : ℕ → ℕ → List ℕ → Bool
classes_stand most m classes = places_stand classes m (most + 1) && leb (controllable_in classes m) 8

-- row 7 for the flags
unfoldable pub flags_stand : ℕ → List ℕ → Bool
flags_stand n flags = places_stand flags n 2

-- row 9
unfoldable pub next_stand : ℕ → ℕ → List ℕ → Bool
next_stand n m next = each 32 (λ q. each 16 (λ e. stands (ltb q n && ltb e m) n (goes next q e)))

-- the largest class
abbrev pub max_class : ℕ
max_class = 1

-- rows 7 to 9
abbrev pub tables_stand : ℕ → ℕ → List ℕ → List ℕ → List ℕ → Bool
tables_stand n m classes flags next = classes_stand max_class m classes && (flags_stand n flags && next_stand n m next)

-- a record that row 11 lets pass: it keeps rows 3 to 9 and every unused place is 0
unfoldable pub valid : Automaton → Bool
valid a =
    shaped a &&
    (ranged a.states a.symbols a.capacity a.initial &&
    tables_stand a.states a.symbols a.classes a.accepting a.next)

-- the record of which the parts are lent
abbrev pub assembled : ℕ → ℕ → ℕ → ℕ → List ℕ → List ℕ → List ℕ → Automaton
assembled states symbols capacity initial classes accepting next =
    record {
      states = states;
      symbols = symbols;
      capacity = capacity;
      initial = initial;
      classes = classes;
      accepting = accepting;
      next = next;
    }

-- the record with 0 everywhere
abbrev pub blank : Automaton
blank = assembled 0 0 0 0 (replicate 16 0) (replicate 32 0) (replicate 512 0)
