-- What the programs write on some inputs.
use Rattle.std.specs.Prelude.{ℕ, ◌≡◌, List, [], ◌∷◌}
use Prim.Native.String.{String}
use Rattle.text.specs.Decimal.{ascii}
use Rattle.notation_programs.specs.Outputs.{pack_output, pack_note}

-- on a text `pack` writes these bytes, and nothing on standard error
abbrev pub Packs : String → List ℕ → Type 0
Packs text bytes = (pack_output (ascii text) ≡ bytes) × (pack_note (ascii text) ≡ [])

-- .. or no bytes, and this line
abbrev pub PackSays : String → String → Type 0
PackSays text line = (pack_output (ascii text) ≡ []) × (pack_note (ascii text) ≡ ascii line)

pub record CasesWritten : Type 0 where
  pub packs : Packs "3, 128 # two groups\n" (3 ∷ 128 ∷ 1 ∷ [])
  pub no_number : PackSays "1 2\n# x\n3 x7, 4" "line 3: x7 is no number\n"
