use Rattle.std.proofs.Common.{refl, arith}
use Rattle.refusal.proofs.Numbers.{number_never_0}
use Rattle.product_merge.proofs.Records.{untouched}
use Rattle.product_merge.proofs.Merging.{put_of, rest_read, merge_long, merge_first, from_inside, place_inside, merge_second, merge_both}
use Rattle.product_merge.proofs.merge_input.Goals as goal

pub returns-then-input-gt60000 : goal.returns-then-input-gt60000
returns-then-input-gt60000 c =
    let p = put_of _ (merge_long _ c.if-input-gt60000.true) (untouched c.args.out.now c.refused.ensures.0, c.refused.ensures.1) in
    record { appended = p.0; appended_2 = p.1 }

pub returns-in-Err : goal.returns-in-Err
returns-in-Err c =
    let p = put_of _ (merge_first _ c.if-input-gt60000.false _ c.in-Err.ensures (number_never_0 _)) (untouched c.args.out.now c.faulted.ensures.0, c.faulted.ensures.1) in
    record { appended = p.0; appended_2 = p.1 }

pub slice_bounds-read-count : goal.slice_bounds-read-count
slice_bounds-read-count c = from_inside _ c.if-input-gt60000.false _ c.in-Ok.ensures

pub slice_bounds-read-start : goal.slice_bounds-read-start
slice_bounds-read-start c = from_inside _ c.if-input-gt60000.false _ c.in-Ok.ensures

pub overflow_add-from : goal.overflow_add-from
overflow_add-from c =
    let left = rest_read c.args.input.now c.in-Ok.first.place c.in-Err-read.ensures in
    omega (arith, place_inside _ c.if-input-gt60000.false _ c.in-Ok.ensures refl _ left)

pub returns-in-Err-read : goal.returns-in-Err-read
returns-in-Err-read c =
    let left = rest_read c.args.input.now c.in-Ok.first.place c.in-Err-read.ensures in
    let p = put_of _ (merge_second _ c.if-input-gt60000.false _ c.in-Ok.ensures refl _ left (number_never_0 _))
    (untouched c.args.out.now c.faulted-in-Err-read.ensures.0, c.faulted-in-Err-read.ensures.1) in
    record { appended = p.0; appended_2 = p.1 }

pub returns-in-Ok-read : goal.returns-in-Ok-read
returns-in-Ok-read c =
    let left = rest_read c.args.input.now c.in-Ok.first.place c.in-Ok-read.ensures in
    let p = put_of _ (merge_both _ c.if-input-gt60000.false _ c.in-Ok.ensures refl _ left refl)
    (c.merge_records.ensures.appended, c.merge_records.ensures.appended_2) in
    record { appended = p.0; appended_2 = p.1 }
