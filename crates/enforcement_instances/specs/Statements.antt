-- Each claim at document 01's sheet V or W, or on bytes of theirs, with its hypotheses met. Those
-- on the monitor's calls are in MonitorStatements.antt, those on places in the input and on the
-- counts in PlaceStatements.antt, those on lent bytes in LayoutStatements.antt.
use Rattle.std.specs.Prelude.{ℕ, ◌+◌, ◌*◌, ◌<◌, ◌≤◌, ◌≡◌, true, ◌||◌, List, [], ◌∷◌, ◌++◌, length, get_or, replicate}
use Rattle.base.specs.Each.{count}
use Rattle.base.specs.Masks.{has}
use Rattle.varint.specs.Varint.{read, bytes, value}
use Rattle.automaton.specs.Automaton.{accepts, valid}
use Rattle.automaton_format.specs.Reading.{parse, parsed}
use Rattle.automaton_format.specs.Writing.{record_bytes}
use Rattle.solver_sets.specs.Sets.{sets_for}
use Rattle.solver_sets.specs.Definition6.{States, Definition6}
use Rattle.solver_sets.specs.Table.{index, buffers_count, Buffer, table, Solved}
use Rattle.solver_sets.specs.Claims.{Winning, Intermediate, Resting}
use Rattle.configuration.specs.declared.Configuration.{Configuration}
use Rattle.configuration.specs.Configuration.{configuration}
use Rattle.solver_answers.specs.Solving.{solved_table}
use Rattle.game.specs.Game.{may_rest, verdict}
use Rattle.game.specs.Claims.{Questions}
use Rattle.enforcement_cases.specs.Cases.{bytes_v, automaton_v, automaton_w, at}
use Rattle.text.specs.Decimal.{ascii}
use Rattle.notation.specs.Outcomes.{numbers}
use Rattle.notation.specs.Packing.{reading, encoded, packed, done}
use Rattle.notation_unpack.specs.Unpacking.{decoded, line_of}
use Rattle.day_transcript.specs.Transcript.{transcript}
use Rattle.day_transcript.specs.Claims.{Prints}

-- V with three of its numbers padded, as somebody else may write it
abbrev pub padded_v : List ℕ
padded_v = 131 ∷ 0 ∷ 2 ∷ 1 ∷ 128 ∷ 128 ∷ 0 ∷ 0 ∷ 1 ∷ 1 ∷ 0 ∷ 1 ∷ 1 ∷ 0 ∷ 1 ∷ 2 ∷ 2 ∷ 130 ∷ 0 ∷ []

-- a list of so many times the same number
abbrev pub filled : ℕ → ℕ → List ℕ
filled n x = replicate n x

-- numbers and sheets
pub record Encodings : Type 0 where
  pub reads_back : read ((7 ∷ []) ++ (bytes 128 ++ (9 ∷ []))) 1 ≡ value 128 (1 + length (bytes 128))
  pub fewest : 0 + length (bytes 0) ≤ 2
  pub written_reads_back : parse (record_bytes automaton_w) ≡ parsed automaton_w
  pub read-is-valid : valid automaton_v ≡ true
  pub refused-inside : ((parse (3 ∷ 2 ∷ [])).refusal ≤ 10) × ((parse (3 ∷ 2 ∷ [])).place ≤ 2)
  pub read_again : (parse (record_bytes automaton_v) ≡ parsed automaton_v) × (length (record_bytes automaton_v) ≤ length padded_v)

-- what the solver leaves in a table of nines with two places more than W needs
abbrev pub table_w : List ℕ
table_w = 3 ∷ 0 ∷ 3 ∷ 0 ∷ 3 ∷ 7 ∷ 3 ∷ 0 ∷ 3 ∷ 2 ∷ 3 ∷ 7 ∷ 3 ∷ 7 ∷ 9 ∷ 9 ∷ []

-- the sets, the numbering and the solver
pub record Solving : Type 1 where
  pub is_resting : Resting automaton_w (2 ∷ 3 ∷ []) (Winning automaton_w (2 ∷ 3 ∷ []))
  -- V stays in state 2 under Query, so 2 is in S of the empty list
  pub is-largest : Winning automaton_v [] 2
  pub rounds-bounded : (sets_for automaton_v (1 ∷ [])).rounds ≤ count 3 (accepts automaton_v)
  pub union_adds_nothing : Winning automaton_v ([] ++ 1 ∷ []) 2
  pub satisfies : Definition6 automaton_w (Winning automaton_w) (Intermediate automaton_w)
  -- the paper's S of Page and Receipt, by any sets that satisfy it, has state 0
  pub only : (S I : List ℕ → States) → Definition6 automaton_w S I → S (2 ∷ 3 ∷ []) 0
  pub numbered : index automaton_w (2 ∷ 3 ∷ []) < buffers_count automaton_w
  pub one_to_one : (w : List ℕ) → Buffer automaton_w w → index automaton_w w ≡ index automaton_w (2 ∷ 3 ∷ []) → w ≡ 2 ∷ 3 ∷ []
  pub onto : (w : List ℕ) × Buffer automaton_w w × (index automaton_w w ≡ 5)
  pub table-is-solved : (length (table automaton_w) ≡ 2 * buffers_count automaton_w)
      × Solved automaton_w (table automaton_w ++ 9 ∷ 9 ∷ [])
  pub left : solved_table automaton_w (filled 16 9) ≡ table_w
  pub leaves-solved : Solved automaton_w table_w
  -- by Definition 6 itself: with Page and Receipt held W may rest in state 0, and not in state 2
  pub solves_definition6 : (S I : List ℕ → States) → Definition6 automaton_w S I → S (2 ∷ 3 ∷ []) 0 × (S (2 ∷ 3 ∷ []) 2 → ⊥)

-- W after Sign and Page: state 1 with the Page held
abbrev pub one_page : Configuration
one_page = configuration (at 1 (2 ∷ []) (1 ∷ []) 2 1)

-- the second judge
pub record Judging : Type 0 where
  pub as_worded : Questions automaton_w
  pub agrees : may_rest automaton_w (2 ∷ []) 4 1 ≡ has (sets_for automaton_w (2 ∷ [])).winning 1
  pub verdict-agrees : (verdict automaton_w one_page).can_rest
      ≡ (has (sets_for automaton_w (2 ∷ [])).winning 1 || has (sets_for automaton_w (2 ∷ [])).intermediate 1)

-- V as text
abbrev pub text_v : List ℕ
text_v = ascii "3 2 1 0, 0 1, 1 0 1, 1 0, 1 2, 2 2"

-- 0 and 7, the 0 padded
abbrev pub bytes_padded : List ℕ
bytes_padded = 128 ∷ 0 ∷ 7 ∷ []

-- text, and numbers in groups
pub record Texts : Type 0 where
  pub never_longer : length (encoded bytes_v) ≤ length text_v
  pub room_in_text : packed (reading text_v) (filled 34 9) ≡ done (length (encoded bytes_v))
  pub read_small : get_or bytes_v 0 0 < 2097152
  pub line_reads_back : reading (line_of (0 ∷ 7 ∷ [])) ≡ numbers (0 ∷ 7 ∷ [])
  pub packs_shortest : length (encoded (0 ∷ 7 ∷ [])) ≤ length bytes_padded
  pub line-bounded : length (line_of (0 ∷ 7 ∷ [])) ≤ 4 * length bytes_padded
  pub packed_reads_back : decoded (encoded bytes_v) ≡ numbers bytes_v
  pub long-refused : Prints (filled 60001 0) ("refused 18" ∷ [])
  pub transcript-bounded : length (transcript (128 ∷ 0 ∷ [])) ≤ 96 * 60002
