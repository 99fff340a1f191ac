use Rattle.std.proofs.Common.{◌≡◌, sym, ◌∙◌, arith}
use Rattle.text.specs.Decimal.{digit, decimal}
use Rattle.text.proofs.Appending.{said, one_byte}
use Rattle.text.proofs.Digits.{decimal-one, decimal-some, decimal_is}
use Rattle.text.proofs.number.Goals as goal
use Rattle.text.proofs.number.Goals.{After-as_bytes}

printed : (c : After-as_bytes) → c.as_bytes.result.now ≡ decimal c.args.n
printed c = c.as_bytes.ensures.value ∙ c.format.ensures.text ∙ sym (decimal_is c.args.n (omega arith))

pub bounds-out-at : goal.bounds-out-at
bounds-out-at c = omega (arith, c.requires, decimal-some c.args.n)

pub returns-then-n-lt10 : goal.returns-then-n-lt10
unfolding digit
returns-then-n-lt10 c =
    let one = decimal-one c.args.n c.if-n-lt10.true in
    said (sym one) (one_byte _ _ _ (omega (arith, c.requires, decimal-some c.args.n)))

pub word-requires : goal.word-requires
word-requires c = rw (printed c) c.requires

pub returns : goal.returns
returns c = said (c.as_bytes.ensures.value ∙ c.format.ensures.text ∙ sym (decimal_is c.args.n (omega arith))) c.word.ensures
