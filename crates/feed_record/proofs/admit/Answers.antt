use Rattle.std.proofs.Common.{◌∙◌, refl}
use Rattle.refusal.proofs.Numbers.{number_never_0}
use Rattle.feed_record.specs.Serials.{following}
use Rattle.feed_record.specs.Records.{admitted_of, turned_away}
use Rattle.refusal.proofs.Passing.{passed_on}
use Rattle.feed_record.proofs.Laws.{admit_unread, admit_large, admit_late, admit_in}
use Rattle.feed_record.proofs.admit.Goals as goal

pub returns-in_err-record : goal.returns-in_err-record
returns-in_err-record c =
    passed_on admitted_of (turned_away c.args.expected) _ _ c.from_residual.ensures.1 ∙
    admit_unread _ _ _ c.in_err-record.ensures (number_never_0 _)

pub returns-then-record-gt-MAX_SERIAL : goal.returns-then-record-gt-MAX_SERIAL
returns-then-record-gt-MAX_SERIAL c = admit_large _ _ _ c.in_ok-record.ensures refl c.if-record-gt-MAX_SERIAL.true

pub returns-then-loss-ge-LATE_FROM : goal.returns-then-loss-ge-LATE_FROM
returns-then-loss-ge-LATE_FROM c =
    admit_late _ _ _ c.in_ok-record.ensures refl c.if-record-gt-MAX_SERIAL.false (rw c.ahead-loss.ensures at c.if-loss-ge-LATE_FROM.true)

pub returns : goal.returns
unfolding following
returns c =
    let heard = c.ahead-loss.ensures in
    rw heard (admit_in _ c.args.expected _ c.in_ok-record.ensures refl c.if-record-gt-MAX_SERIAL.false (rw heard at c.if-loss-ge-LATE_FROM.false))
