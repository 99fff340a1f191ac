-- A fact of each of a list.
use Rattle.std.specs.Prelude.{List, [], ◌∷◌}

abbrev pub AllOf : {A : Type 0} → (A → Type 0) → List A → Type 0
AllOf P [] = Unit {0}
AllOf P (x ∷ xs) = P x × AllOf P xs
