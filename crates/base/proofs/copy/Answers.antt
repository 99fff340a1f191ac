use Rattle.std.proofs.Common.{ℕ, ◌+◌, ◌-◌, ◌≤◌, ◌≡◌, List, ◌++◌, length, take, drop, sym, ◌∙◌, ap, append_assoc, arith, rules}
use Rattle.std.proofs.lemmas.List.Edits.{sets, sets-eq}
use Rattle.std.proofs.Math.Seq.{length-take-le}
use Rattle.std.proofs.Math.ListN.{length-drop}
use borrow.Rule.Slice.PartMut.{put_mid, Post-is}
use Rattle.base.proofs.copy.Goals as goal

-- a part that is copied into another
copied : (out list new : List ℕ) (at from count : ℕ) → from + count ≤ length list → at + count ≤ length out
    → new ≡ take count (drop from list) → put_mid at (at + count - at) out new ≡ sets out at (take count (drop from list))
copied out list new at from count h l e =
    let part : List ℕ = take count (drop from list) in
    let long : length part ≡ count = length-take-le count (drop from list) (rw (length-drop from list) (omega arith)) in
    ap (λ r. take at out ++ (new ++ r)) (Post-is at (at + count) out (omega arith)) ∙
    rw (e, sets-eq part out at (omega arith), long) (sym (append_assoc (take at out) part (drop (at + count) out)))

pub returns : goal.returns
returns c = copied _ c.args.list.now _ _ c.args.from c.args.count (omega arith) (omega arith) (search rules)
