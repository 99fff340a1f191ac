use Rattle.std.proofs.Common.{[], ◌∷◌, get_or, sym, ap, ◌∙◌, rules}
use Rattle.c_layout.specs.Layout.{expected_bytes, number_bytes}
use Rattle.c_layout.proofs.Bytes.{two-le}
use Rattle.c_records.proofs.expected_bytes.Goals as goal

pub returns-in-Any : goal.returns-in-Any
unfolding expected_bytes
returns-in-Any c = search rules

pub returns-in-Serial : goal.returns-in-Serial
unfolding expected_bytes number_bytes
returns-in-Serial c =
    ap (λ l. 1 ∷ get_or l 0 0 ∷ get_or l 1 0 ∷ []) (c.to_le_bytes.ensures ∙ two-le c.in-Serial.s) ∙
    ap expected_bytes (sym c.in-Serial.is)
