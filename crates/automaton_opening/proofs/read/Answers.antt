use Rattle.std.proofs.Common.{◌≡◌, ◌∙◌, ◌+◌, ◌-◌, ◌≤◌, ℕ, List, arith, length, take, drop, refl}
use Rattle.refusal.specs.Numbers.{number}
use Rattle.refusal.proofs.Numbers.{number_never_0}
use Rattle.varint.specs.declared.Decoded.{Decoded}
use Rattle.varint.specs.Varint.{decoded}
use Rattle.automaton_format.specs.Reading.{Parsed, parsed, refused, parse}
use Rattle.automaton_format.proofs.Openings.{length-inside, opening-unread, opening_fewer, opening-faulty, opening-whole, fault-inside}
use Rattle.refusal.proofs.Passing.{passed_on}
use Rattle.automaton_opening.proofs.read.Goals as goal
use Rattle.automaton_opening.proofs.read.Goals.{Else-input-from}

whole : (c : Else-input-from) → c.in_ok-length.length.place + c.in_ok-length.length.value ≤ length c.args.input.now
whole c = let inside = length-inside _ (decoded c.in_ok-length.length) c.in_ok-length.ensures in omega (arith, inside, c.if-input-from.false)

-- the sheet's bytes, as they are handed on
sheet : (p : Parsed) (s : List ℕ) (l : Decoded) → p ≡ parse (take (l.place + l.value - l.place) (drop l.place s))
    → p ≡ parse (take l.value (drop l.place s))
sheet p s l h = let k : l.place + l.value - l.place ≡ l.value = omega arith in rw k at h

pub returns-in_err-length : goal.returns-in_err-length
returns-in_err-length c = passed_on _ refused _ _ c.from_residual.ensures.1 ∙ opening-unread _ _ c.in_err-length.ensures (number_never_0 _)

pub overflow_sub-input : goal.overflow_sub-input
overflow_sub-input c = length-inside _ (decoded c.in_ok-length.length) c.in_ok-length.ensures

pub returns-then-input-from : goal.returns-then-input-from
returns-then-input-from c =
    let inside = length-inside _ (decoded c.in_ok-length.length) c.in_ok-length.ensures in
    opening_fewer _ (decoded c.in_ok-length.length) c.in_ok-length.ensures refl (omega (arith, inside))

pub slice_bounds-read-end : goal.slice_bounds-read-end
slice_bounds-read-end c = omega (arith, whole (goal.at.slice_bounds-read-end c).Else-input-from)

pub overflow_add-result : goal.overflow_add-result
overflow_add-result c =
    omega (
      arith,
      fault-inside _ (decoded c.in_ok-length.length) c.in_ok-length.ensures refl (whole (goal.at.overflow_add-result c).Else-input-from)
          (refused (number c.in-Err.fault.refusal) c.in-Err.fault.place) (sheet _ c.args.input.now c.in_ok-length.length c.in-Err.ensures),
    )

pub returns-in-Ok : goal.returns-in-Ok
returns-in-Ok c =
    opening-whole _ (decoded c.in_ok-length.length) c.in_ok-length.ensures refl (whole (goal.at.returns-in-Ok c).Else-input-from)
    (parsed c.in-Ok.automaton) (sheet _ c.args.input.now c.in_ok-length.length c.in-Ok.ensures) refl

pub returns-in-Err : goal.returns-in-Err
returns-in-Err c =
    opening-faulty _ (decoded c.in_ok-length.length) c.in_ok-length.ensures refl (whole (goal.at.returns-in-Err c).Else-input-from)
    (refused (number c.in-Err.fault.refusal) c.in-Err.fault.place) (sheet _ c.args.input.now c.in_ok-length.length c.in-Err.ensures) (number_never_0 _)
