-- What the program `merge` writes on some inputs, and what holds on every input.
use Rattle.std.specs.Prelude.{ℕ, ◌+◌, ◌*◌, ◌<◌, ◌≤◌, ◌≡◌, true, ◌⊎◌, List, [], ◌∷◌, ◌++◌, length, drop}
use Prim.Native.String.{String}
use Rattle.automaton.specs.declared.Automaton.{Automaton}
use Rattle.automaton.specs.Automaton.{valid}
use Rattle.automaton_format.specs.Reading.{parsed, parse}
use Rattle.automaton_format.specs.Writing.{record_bytes}
use Rattle.automaton_format.specs.Opening.{opening}
use Rattle.text.specs.Decimal.{ascii}
use Rattle.text_lines.specs.Lines.{fault_line, refusal_line, max_input}
use Rattle.product_rule.specs.Product.{product_of}
use Rattle.product_rule.specs.Claims.{SymbolsDiffer, Matching}
use Rattle.product_merge.specs.Outputs.{merge_output, merge_note}

-- on an input `merge` writes these bytes, and nothing on standard error
abbrev pub Writes : List ℕ → List ℕ → Type 0
Writes s bytes = (merge_output s ≡ bytes) × (merge_note s ≡ [])

-- .. or no bytes, and this line
abbrev pub Says : List ℕ → List ℕ → Type 0
Says s line = (merge_output s ≡ []) × (merge_note s ≡ line)

-- the sheet V, with its length before it
unfoldable pub v : List ℕ
v = 15 ∷ 3 ∷ 2 ∷ 1 ∷ 0 ∷ 0 ∷ 1 ∷ 1 ∷ 0 ∷ 1 ∷ 1 ∷ 0 ∷ 1 ∷ 2 ∷ 2 ∷ 2 ∷ []

-- a second one on the same symbols: no Answer is to go out
unfoldable pub no_answer : List ℕ
no_answer = 2 ∷ 2 ∷ 1 ∷ 0 ∷ 0 ∷ 1 ∷ 1 ∷ 0 ∷ 0 ∷ 1 ∷ 1 ∷ 1 ∷ []

-- both: pair p, q of their states is 2 p + q
unfoldable pub merged_v : List ℕ
merged_v =
    6 ∷ 2 ∷ 1 ∷ 0 ∷
    0 ∷ 1 ∷
    1 ∷ 0 ∷ 0 ∷ 0 ∷ 1 ∷ 0 ∷
    2 ∷ 1 ∷
    3 ∷ 1 ∷
    2 ∷ 5 ∷
    3 ∷ 5 ∷
    4 ∷ 5 ∷
    5 ∷ 5 ∷ []

-- sheets of one symbol that leads round: of six states, its class left open; of four and of eight
unfoldable pub six : ℕ → List ℕ
six class = 6 ∷ 1 ∷ 1 ∷ 0 ∷ class ∷ 1 ∷ 1 ∷ 1 ∷ 1 ∷ 1 ∷ 1 ∷ 1 ∷ 2 ∷ 3 ∷ 4 ∷ 5 ∷ 0 ∷ []

unfoldable pub four : List ℕ
four = 4 ∷ 1 ∷ 2 ∷ 3 ∷ 0 ∷ 1 ∷ 0 ∷ 1 ∷ 1 ∷ 1 ∷ 2 ∷ 3 ∷ 0 ∷ []

unfoldable pub eight : List ℕ
eight = 8 ∷ 1 ∷ 3 ∷ 7 ∷ 0 ∷ 1 ∷ 1 ∷ 1 ∷ 1 ∷ 1 ∷ 1 ∷ 1 ∷ 0 ∷ 1 ∷ 2 ∷ 3 ∷ 4 ∷ 5 ∷ 6 ∷ 7 ∷ 0 ∷ []

-- the last two merged: pair p, q is 8 p + q
unfoldable pub four_by_eight : List ℕ
four_by_eight =
    32 ∷ 1 ∷ 2 ∷ 31 ∷
    0 ∷
    1 ∷ 1 ∷ 1 ∷ 1 ∷ 1 ∷ 1 ∷ 1 ∷ 0 ∷
    0 ∷ 0 ∷ 0 ∷ 0 ∷ 0 ∷ 0 ∷ 0 ∷ 0 ∷
    1 ∷ 1 ∷ 1 ∷ 1 ∷ 1 ∷ 1 ∷ 1 ∷ 0 ∷
    1 ∷ 1 ∷ 1 ∷ 1 ∷ 1 ∷ 1 ∷ 1 ∷ 0 ∷
    9 ∷ 10 ∷ 11 ∷ 12 ∷ 13 ∷ 14 ∷ 15 ∷ 8 ∷
    17 ∷ 18 ∷ 19 ∷ 20 ∷ 21 ∷ 22 ∷ 23 ∷ 16 ∷
    25 ∷ 26 ∷ 27 ∷ 28 ∷ 29 ∷ 30 ∷ 31 ∷ 24 ∷
    1 ∷ 2 ∷ 3 ∷ 4 ∷ 5 ∷ 6 ∷ 7 ∷ 0 ∷ []

-- on an input this line alone, without its newline
abbrev pub SaysLine : List ℕ → String → Type 0
SaysLine s line = Says s (ascii line ++ ascii "\n")

pub record CasesMerged : Type 0 where
  pub merged : Writes (v ++ no_answer) merged_v
  pub nothing : SaysLine [] "refused 1 at 0"
  pub length-too-long : SaysLine (128 ∷ 128 ∷ 128 ∷ 0 ∷ []) "refused 2 at 0"
  pub too_few : SaysLine (130 ∷ 0 ∷ 3 ∷ []) "refused 1 at 2"
  -- both sheets have a fault
  pub first-fault : SaysLine (2 ∷ 3 ∷ 17 ∷ 33 ∷ []) "refused 4 at 2"
  pub second-missing : SaysLine v "refused 1 at 16"
  pub second-fault : SaysLine (v ++ 2 ∷ 2 ∷ 1 ∷ 2 ∷ []) "refused 6 at 19"
  pub more_bytes : SaysLine (v ++ (no_answer ++ 0 ∷ [])) "refused 10 at 28"
  pub symbols-differ : SaysLine (v ++ six 0) "refused 24"
  -- of one symbol each, and its class differs; 36 pairs are too many as well
  pub classes_differ : SaysLine (17 ∷ (six 0 ++ six 1)) "refused 24"
  pub too_many : SaysLine (17 ∷ (six 0 ++ six 0)) "refused 25"
  pub thirty_two : Writes (13 ∷ (four ++ eight)) four_by_eight
  pub too_long : (s : List ℕ) → 60000 < length s → SaysLine s "refused 18"

-- on every input there are bytes or a line, and never both
abbrev pub BytesOrLine : Type 0
BytesOrLine =
    (s : List ℕ) → ((merge_output s ≡ [] → ⊥) × (merge_note s ≡ [])) ⊎ ((merge_output s ≡ []) × (merge_note s ≡ [] → ⊥))

-- an input that is not too long, of two sheets without a fault: their records
pub record TwoSheets (s : List ℕ) (a b : Automaton) : Type 0 where
  pub few : length s ≤ max_input
  pub first : ((opening s).refusal ≡ 0) × ((opening s).automaton ≡ a)
  pub second : parse (drop (opening s).place s) ≡ parsed b

-- What is written, row after row.
pub record MergeRows (s : List ℕ) : Type 0 where
  pub row-18 : max_input < length s → Says s (refusal_line 18)
  -- the first fault of L and of the first sheet
  pub first-fault : length s ≤ max_input → ((opening s).refusal ≡ 0 → ⊥)
      → Says s (fault_line (opening s).refusal (opening s).place)
  -- that of the second sheet, counted from the input's first byte
  pub second-fault : length s ≤ max_input → (opening s).refusal ≡ 0
      → let from = (opening s).place in
      let q = parse (drop from s) in
      (q.refusal ≡ 0 → ⊥) → Says s (fault_line q.refusal (from + q.place))
  pub row_24 : (a b : Automaton) → TwoSheets s a b → SymbolsDiffer a b → Says s (refusal_line 24)
  pub row_25 : (a b : Automaton) → TwoSheets s a b → Matching a b → 32 < a.states * b.states → Says s (refusal_line 25)
  -- otherwise the product's bytes, which read as the product
  pub merged : (a b : Automaton) → TwoSheets s a b → Matching a b → a.states * b.states ≤ 32
      → Writes s (record_bytes (product_of a b)) × (parse (merge_output s) ≡ parsed (product_of a b))
  -- 11 and 16 never occur: records that were read pass row 11, and 564 bytes are room enough
  pub never-11 : (a b : Automaton) → TwoSheets s a b → (valid a ≡ true) × (valid b ≡ true)
  pub never-16 : length (merge_output s) ≤ 564

abbrev pub MergeRowsAsWorded : Type 0
MergeRowsAsWorded = (s : List ℕ) → MergeRows s
