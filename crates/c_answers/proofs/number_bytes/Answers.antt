use Rattle.std.proofs.Common.{◌∙◌}
use Rattle.c_layout.proofs.Bytes.{number-le}
use Rattle.c_answers.proofs.number_bytes.Goals as goal

pub returns : goal.returns
returns c = c.to_le_bytes.ensures ∙ number-le c.args.value
