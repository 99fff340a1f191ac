use Rattle.std.proofs.Common.{refl, sym, ◌∙◌, ap}
use Rattle.refusal.proofs.Numbers.{number_never_0}
use Rattle.feed_record.specs.Records.{turned_away}
use Rattle.feed.proofs.Receiving.{receive_away, receive-in}
use Rattle.feed.proofs.receive.Goals as goal

pub returns-in-Ok : goal.returns-in-Ok
returns-in-Ok c = receive-in _ _ _ _ _ _ c.in-Ok.ensures refl _ _ c.receive-answer.ensures _ c.let_in.ensures

pub returns-in-Err : goal.returns-in-Err
returns-in-Err c =
    let numbered = c.from-row.ensures in
    let away = ap (λ row. turned_away c.args.expected row c.in-Err.fault.place) numbered ∙ c.in-Err.ensures in
    receive_away _ _ _ _ _ _ away (λ e. number_never_0 _ (sym numbered ∙ e)) _ c.not_let_in.ensures
