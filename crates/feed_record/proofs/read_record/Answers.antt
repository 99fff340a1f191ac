use Rattle.std.proofs.Common.{◌∙◌}
use Rattle.feed_record.specs.Records.{read_of, unread}
use Rattle.refusal.proofs.Passing.{passed_on}
use Rattle.feed_record.proofs.Laws.{first-faulty, second-faulty, third-faulty, more_left, none_left}
use Rattle.feed_record.proofs.read_record.Goals as goal

pub returns-in_err-serial : goal.returns-in_err-serial
returns-in_err-serial c =
    passed_on read_of unread _ _ c.from_residual.ensures.1 ∙ first-faulty _ _ c.in_err-serial.ensures

pub returns-in_err-client : goal.returns-in_err-client
returns-in_err-client c =
    passed_on read_of unread _ _ c.from_residual-in_err-client.ensures.1 ∙
    second-faulty _ _ c.in_ok-serial.ensures _ c.in_err-client.ensures

pub returns-in_err-symbol : goal.returns-in_err-symbol
returns-in_err-symbol c =
    passed_on read_of unread _ _ c.from_residual-in_err-symbol.ensures.1 ∙
    third-faulty _ _ c.in_ok-serial.ensures _ c.in_ok-client.ensures _ c.in_err-symbol.ensures

pub returns-then-symbol-bytes : goal.returns-then-symbol-bytes
returns-then-symbol-bytes c =
    more_left _ _ c.in_ok-serial.ensures _ c.in_ok-client.ensures _ c.in_ok-symbol.ensures c.if-symbol-bytes.true

pub returns : goal.returns
returns c =
    none_left _ _ c.in_ok-serial.ensures _ c.in_ok-client.ensures _ c.in_ok-symbol.ensures c.if-symbol-bytes.false
