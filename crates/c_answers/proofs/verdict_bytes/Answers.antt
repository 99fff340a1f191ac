use Rattle.c_layout.proofs.Laying.{flag_byte}
use Rattle.c_layout.specs.Answers.{verdict_bytes}
use mathlib.Core.List.{[], ◌∷◌}
use mathlib.Core.Path.{ap₂}
use Rattle.c_answers.proofs.verdict_bytes.Goals as goal

pub returns : goal.returns
unfolding verdict_bytes
returns c = ap₂ (λ b d. b ∷ d ∷ []) (flag_byte c.args.v.may_rest) (flag_byte c.args.v.can_rest)
