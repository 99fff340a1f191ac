-- A refusal that is passed on with `?`.
use Rattle.std.proofs.Common.{◌≡◌, ℕ, Result}
use Rattle.std.specs.Result.{IsErrAnd}
use Rattle.std.proofs.lemmas.Result.{err_from_is_err_and}
use Rattle.refusal.specs.declared.Fault.{Fault}
use Rattle.refusal.specs.Numbers.{number, by_number_at}

pub passed_on : {A X : Type 0} (made : A → X) (refused : ℕ → ℕ → X) (f : Fault) (r : Result A Fault) → IsErrAnd r (λ e. e ≡ f)
    → by_number_at made refused r ≡ refused (number f.refusal) f.place
passed_on made refused f r h = let p = err_from_is_err_and r h in rw (p.1, p.2)
