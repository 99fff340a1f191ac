use lib.ListN.{length}
use mathlib.Core.Path.{◌≡◌, refl, sym}
use Rattle.text.specs.Decimal.{ascii}
use Rattle.text.proofs.Appending.{nothing, said}
use Rattle.notation_programs.proofs.Outcomes.{pack_long-output, pack_long-note, pack_part, done_stored, done_silent, error_stored, error_said}
use borrow.Author.Rules.{rules}
use Rattle.notation_programs.proofs.programs.pack_input.Goals as goal

pub returns-then-source-gt-MAX_TEXT : goal.returns-then-source-gt-MAX_TEXT
unfolding ascii
returns-then-source-gt-MAX_TEXT c =
    let t = c.if-source-gt-MAX_TEXT.true in
    record { appended = said (sym (pack_long-output _ t)) (nothing _); appended_2 = said (pack_long-note _ t) c.word-long.ensures }

pub message-requires : goal.message-requires
message-requires c =
    let long : length c.args.out.now ≡ 262144 = search rules in
    let x = pack_part _ _ c.if-source-gt-MAX_TEXT.false long _ c.in-Err.ensures.value in
    (x.0, x.1, search rules)

pub returns-in-Ok : goal.returns-in-Ok
returns-in-Ok c =
    let long : length c.args.out.now ≡ 262144 = search rules in
    record {
      appended = done_stored _ _ c.if-source-gt-MAX_TEXT.false long _ c.in-Ok.ensures.value _ refl c.in-Ok.ensures.out_after;
      appended_2 = said (done_silent _ _ c.if-source-gt-MAX_TEXT.false long _ c.in-Ok.ensures.value _ refl) (nothing _);
    }

pub returns-in-Err : goal.returns-in-Err
returns-in-Err c =
    let long : length c.args.out.now ≡ 262144 = search rules in
    record {
      appended = error_stored _ _ c.if-source-gt-MAX_TEXT.false long _ c.in-Err.ensures.value _ refl c.in-Err.ensures.out_after;
      appended_2 = said (error_said _ _ c.if-source-gt-MAX_TEXT.false long _ c.in-Err.ensures.value _ refl) c.message.ensures;
    }
