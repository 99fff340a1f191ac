use Rattle.c_layout.proofs.Laying.{flag_byte}
use Rattle.c_layout.specs.Answers.{status_bytes}
use mathlib.Core.List.{[], ◌∷◌}
use mathlib.Core.Path.{ap}
use Rattle.c_answers.proofs.status_bytes.Goals as goal

pub returns : goal.returns
unfolding status_bytes
returns c = ap (λ b. b ∷ []) (flag_byte c.args.s.winning)
