use Rattle.std.proofs.Common.{◌≡◌, ℕ, Ok, Err, Result, length, refl, ap, ◌∙◌, rules}
use Rattle.std.specs.Result.{IsOk}
use Rattle.refusal.specs.declared.Refusal.{Refusal}
use Rattle.refusal.specs.Numbers.{by_number}
use Rattle.refusal.proofs.Numbers.{number_never_0}
use Rattle.automaton_format.specs.Writing.{Written, written, refused}
use Rattle.text.proofs.Appending.{nothing}
use Rattle.product_merge.proofs.Records.{same-put, untouched, record_passes, record_stored, answer-valid, records_refused, records_merged}
use Rattle.product_merge.proofs.merge_records.Goals as goal

-- a record that no row refuses is written
is_written : (r : Result ℕ Refusal) (w : Written) → by_number written refused r ≡ w → w.refusal ≡ 0 → IsOk r
is_written (Ok n) w e z = refl
is_written (Err e) w h z = absurd (number_never_0 e (ap (λ w. w.refusal) h ∙ z))

pub unwrap-bytes-requires : goal.unwrap-bytes-requires
unwrap-bytes-requires c =
    let long : length c.args.out.now ≡ 564 = search rules in
    is_written _ _ c.write.ensures.0 (record_passes _ (answer-valid _ _ _ c.in-Ok.ensures refl) _ long)

pub returns-in-Err : goal.returns-in-Err
returns-in-Err c =
    let p = same-put (records_refused _ _ _ c.in-Err.ensures (number_never_0 _)) (untouched c.args.out.now c.refused.ensures.0, c.refused.ensures.1) in
    record { appended = p.0; appended_2 = p.1 }

pub returns-in-Ok : goal.returns-in-Ok
returns-in-Ok c =
    let v = answer-valid _ _ _ c.in-Ok.ensures refl in
    let long : length c.args.out.now ≡ 564 = search rules in
    let p = same-put (records_merged _ _ _ c.in-Ok.ensures refl)
    (record_stored _ v _ long (written c.unwrap-bytes.result) (rw c.unwrap-bytes.ensures at c.write.ensures.0) _ c.write.ensures.1, nothing c.args.note.now) in
    record { appended = p.0; appended_2 = p.1 }
