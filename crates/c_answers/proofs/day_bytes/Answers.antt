use Rattle.c_layout.proofs.Laying.{day-laid}
use Rattle.c_answers.proofs.day_bytes.Goals as goal

pub returns : goal.returns
returns c =
    day-laid _ _ _ _ _ _ c.number_bytes-first.ensures c.number_bytes-second.ensures
    c.copy.ensures c.copy-2.ensures
