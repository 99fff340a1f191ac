use Rattle.std.proofs.Common.{◌∙◌}
use Rattle.refusal.proofs.Numbers.{number_never_0}
use Rattle.notation_unpack.specs.Unpacking.{refused}
use Rattle.refusal.proofs.Passing.{passed_on}
use Rattle.notation_unpack.proofs.Lines.{unpack_answer, refused_buffer, done_fits}
use Rattle.notation_unpack.proofs.unpack.Goals as goal

pub returns-in_err-length : goal.returns-in_err-length
returns-in_err-length c =
    record {
      value = passed_on _ refused _ _ c.from_residual.ensures.1 ∙ unpack_answer _ _ _ c.in_err-length.ensures;
      out_after = refused_buffer _ _ _ _ c.in_err-length.ensures (number_never_0 _);
    }

pub store_line-requires : goal.store_line-requires
store_line-requires c = done_fits _ _ _ c.in_ok-length.ensures

pub returns : goal.returns
returns c = record { value = unpack_answer _ _ _ c.in_ok-length.ensures; out_after = c.store_line.ensures }
