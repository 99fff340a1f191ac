-- Reading a sheet from bytes: left to right, the first fault stands (document 01, "The sheet" and
-- "Numbers of refusal").
use Rattle.std.specs.Prelude.{ℕ, zero, suc, ◌+◌, cond, not, ◌&&◌, List, [], ◌∷◌, ◌++◌, length, eqb, leb, ltb}
use Rattle.base.specs.Rows.{first}
use Rattle.base.specs.Pad.{pad}
use Rattle.varint.specs.Varint.{Number, fault, read}
use Rattle.automaton.specs.declared.Automaton.{Automaton}
use Rattle.automaton.specs.Arrays.{controllable_in}
use Rattle.automaton.specs.Automaton.{max_class, blank}

-- What reading gives: the record (refusal 0, place 0), or the first fault's row and place with an
-- all-zero record.
pub record Parsed : Type 0 where
  pub refusal : ℕ
  pub place : ℕ
  pub automaton : Automaton

-- a number that was read at a place, with the row that `check` gives its value (0: none)
unfoldable pub checked : (ℕ → ℕ) → ℕ → Number → Number
checked check at n = cond (eqb n.refusal 0) (cond (eqb (check n.value) 0) n (fault (check n.value) at)) n

-- the row, unless v is at least low and below the limit
unfoldable pub between : ℕ → ℕ → ℕ → ℕ → ℕ
between low limit row v = cond (leb low v && ltb v limit) 0 row

-- how many of the classes read so far are controllable
abbrev pub tally : List ℕ → ℕ
tally classes = controllable_in classes (length classes)

-- the row of the next number of a list after some: `row` from the limit on, 8 for one more than
-- `most` that are 1
unfoldable pub item_row : ℕ → ℕ → ℕ → List ℕ → ℕ → ℕ
item_row limit row most before v = first ((row, not (ltb v limit)) ∷ (8, ltb most (tally (before ++ v ∷ []))) ∷ [])

-- .. of the next class: 7 above the largest class, 8 for a ninth controllable one
abbrev pub class_row : ℕ → List ℕ → ℕ → ℕ
class_row largest = item_row (largest + 1) 7 8

-- numbers that were read one after the other: their values and the place after them, or a fault
-- and the values before it
pub record Numbers : Type 0 where
  pub refusal : ℕ
  pub place : ℕ
  pub values : List ℕ

-- k more numbers from a place, each checked against those before it
unfoldable pub numbers : (ℕ → Number) → (List ℕ → ℕ → ℕ) → ℕ → List ℕ → ℕ → Numbers
numbers from check zero before at = record { refusal = 0; place = at; values = before }
numbers from check (suc k) before at =
    let n = checked (check before) at (from at) in
    cond (eqb n.refusal 0)
    (numbers from check k (before ++ n.value ∷ []) n.place)
    (record { refusal = n.refusal; place = n.place; values = before })

-- the next states of k more states, m numbers each, each state's kept in 16 places
unfoldable pub next_states : (ℕ → Number) → (ℕ → ℕ) → ℕ → ℕ → List ℕ → ℕ → Numbers
next_states from check m zero before at = record { refusal = 0; place = at; values = before }
next_states from check m (suc k) before at =
    let block = numbers from (λ _. check) m [] at in
    cond (eqb block.refusal 0)
    (next_states from check m k (before ++ pad 16 block.values) block.place)
    (record { refusal = block.refusal; place = block.place; values = before ++ block.values })

abbrev pub parsed : Automaton → Parsed
parsed a = record { refusal = 0; place = 0; automaton = a }

abbrev pub refused : ℕ → ℕ → Parsed
refused row at = record { refusal = row; place = at; automaton = blank }

-- go on after a number, or after numbers, that were not refused
unfoldable pub after_number : Number → (ℕ → ℕ → Parsed) → Parsed
after_number n go = cond (eqb n.refusal 0) (go n.value n.place) (refused n.refusal n.place)

unfoldable pub after_numbers : Numbers → (List ℕ → ℕ → Parsed) → Parsed
after_numbers ns go = cond (eqb ns.refusal 0) (go ns.values ns.place) (refused ns.refusal ns.place)

-- the m classes, n flags and n × m next states of a sheet whose first four numbers are read;
-- nothing may follow before the end
unfoldable pub tables : (ℕ → Number) → ℕ → ℕ → ℕ → ℕ → ℕ → ℕ → ℕ → Parsed
tables from most end n m b q at =
    after_numbers (numbers from (class_row most) m [] at) λ classes at1.
    after_numbers (numbers from (λ _. between 0 2 7) n [] at1) λ flags at2.
    after_numbers (next_states from (between 0 n 9) m n [] at2) λ next at3.
    cond (ltb at3 end)
    (refused 10 at3)
    (parsed (record {
      states = n;
      symbols = m;
      capacity = b;
      initial = q;
      classes = pad 16 classes;
      accepting = pad 32 flags;
      next = pad 512 next;
    }))

-- a sheet's numbers in their order, by a number reader and up to a largest class: n, m, B, start,
-- then the tables
unfoldable pub automaton_from : (ℕ → Number) → ℕ → ℕ → Parsed
automaton_from from most end =
    after_number (checked (between 1 33 3) 0 (from 0)) λ n at1.
    after_number (checked (between 1 17 4) at1 (from at1)) λ m at2.
    after_number (checked (between 1 7 5) at2 (from at2)) λ b at3.
    after_number (checked (between 0 n 6) at3 (from at3)) λ q at4.
    tables from most end n m b q at4

-- what reading a sheet's bytes gives
unfoldable pub parse : List ℕ → Parsed
parse s = automaton_from (read s) max_class (length s)
