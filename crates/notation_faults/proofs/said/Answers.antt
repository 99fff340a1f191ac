use mathlib.Core.Path.{ap}
use Rattle.text.specs.Decimal.{ascii}
use Rattle.notation.specs.Results.{fault_of}
use Rattle.notation_faults.specs.Messages.{said}
use Rattle.notation_faults.proofs.said.Goals as goal

pub returns-in-NotNumber : goal.returns-in-NotNumber
unfolding said ascii
returns-in-NotNumber c =
    let a = c.args in rw (ap (λ f. said (fault_of f) a.line a.token.now) c.in-NotNumber.is) c.token_line.ensures

pub returns-in-TooLarge : goal.returns-in-TooLarge
unfolding said ascii
returns-in-TooLarge c =
    let a = c.args in rw (ap (λ f. said (fault_of f) a.line a.token.now) c.in-TooLarge.is) c.token_line-in-TooLarge.ensures
