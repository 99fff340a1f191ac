-- What a call answers, over arguments that were taken out of bytes.
use mathlib.Core.Path.{◌≡◌, ◌∙◌, ap₂}

pub over : {A B X : Type 0} {x : X} {a b : A} {k l : B} (f : A → B → X) → x ≡ f a k → a ≡ b → k ≡ l → x ≡ f b l
over f h p q = h ∙ ap₂ f p q
