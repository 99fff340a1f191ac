use Prim.Native.Nat.{ℕ, ◌<◌}
use lib.ListN.{length}
use mathlib.Core.Path.{◌≡◌, refl, sym, ap, ◌∙◌}
use Rattle.text.proofs.Appending.{nothing, said}
use Rattle.text_lines.specs.Lines.{fault_line, refusal_line}
use Rattle.refusal.proofs.Numbers.{number_never_0}
use Rattle.notation_programs.proofs.Outcomes.{unpack_long-output, unpack_long-note, line_stored, line_silent, fault_stored, fault_said}
use borrow.Author.Rules.{rules}
use Rattle.notation_programs.proofs.programs.unpack_input.Goals as goal

pub returns-then-bytes-gt-MAX_INPUT : goal.returns-then-bytes-gt-MAX_INPUT
returns-then-bytes-gt-MAX_INPUT c =
    let t = c.if-bytes-gt-MAX_INPUT.true in
    record {
      appended = said (sym (unpack_long-output _ t)) (nothing _);
      appended_2 = said (ap refusal_line c.from.ensures ∙ unpack_long-note _ t) c.refusal_line-long.ensures;
    }

pub returns-in-Ok : goal.returns-in-Ok
returns-in-Ok c =
    let long : length c.args.out.now ≡ 240000 = search rules in
    let l = c.if-bytes-gt-MAX_INPUT.false in
    record {
      appended = line_stored _ _ l long (λ i m. (c.type_inv.bytes i).fits) _ c.in-Ok.ensures.value _ refl c.in-Ok.ensures.out_after;
      appended_2 = said (line_silent _ _ l long (λ i m. (c.type_inv.bytes i).fits) _ c.in-Ok.ensures.value _ refl) (nothing _);
    }

pub returns-in-Err : goal.returns-in-Err
returns-in-Err c =
    let long : length c.args.out.now ≡ 240000 = search rules in
    let l = c.if-bytes-gt-MAX_INPUT.false in
    let bytes = λ (i : ℕ) (m : i < length c.args.bytes.now). (c.type_inv.bytes i).fits in
    record {
      appended = fault_stored _ _ l long bytes _ c.in-Err.ensures.value _ _ refl c.in-Err.ensures.out_after;
      appended_2 = said (ap (λ n. fault_line n c.in-Err.fault.place) c.from-in-Err.ensures ∙ fault_said _ _ l long bytes _ c.in-Err.ensures.value _ _ refl (number_never_0 _))
          c.fault_line.ensures;
    }
