use Rattle.std.proofs.Common.{◌∙◌, ◌≤◌, ◌*◌, ◌+◌, length, arith, refl}
use Rattle.refusal.proofs.Numbers.{number_never_0}
use Rattle.varint.specs.Varint.{fault}
use Rattle.automaton_format.proofs.Sections.{filled_begins, filled-refused, filled-goes_on, filled-done}
use Rattle.refusal.proofs.Passing.{passed_on}
use Rattle.automaton_read.proofs.Parts.{numbers_short, part_long, part_filled}
use Rattle.automaton_read.proofs.fill_states.Goals as goal

pub loop-q-init : goal.loop-q-init
loop-q-init c = filled_begins _ _ _ _ _ (omega arith) (omega arith) c.requires.2

pub returns-in_err-place : goal.returns-in_err-place
returns-in_err-place c =
    let g = c.loop-q.invariant in
    let room : c.loop-q.q * 16 + c.args.m ≤ length c.loop-q.next = omega (arith, g.size, g.few, g.narrow) in
    let filled = rw (part_long c.loop-q.next (c.loop-q.q * 16) c.args.m room) at c.in_err-place.ensures in
    let p = filled-refused g _ filled.place (omega arith) (number_never_0 _) in
    record {
      place = passed_on _ fault _ _ c.from_residual.ensures.1 ∙ p.0;
      next_after = part_filled _ _ _ room _ _ (numbers_short _ _ _ _) filled.out_after ∙ p.1;
    }

pub loop-q-preserved : goal.loop-q-preserved
loop-q-preserved c =
    let g = c.loop-q.invariant in
    let room : c.loop-q.q * 16 + c.args.m ≤ length c.loop-q.next = omega (arith, g.size, g.few, g.narrow) in
    let filled = rw (part_long c.loop-q.next (c.loop-q.q * 16) c.args.m room) at c.in_ok-place.ensures in
    rw (part_filled c.loop-q.next (c.loop-q.q * 16) c.args.m room _ _ (numbers_short _ _ _ _) filled.out_after) (filled-goes_on g _ filled.place (omega arith) refl)

pub returns : goal.returns
returns c =
    let p = filled-done c.loop-q.invariant (omega arith) in
    record { place = p.0; next_after = p.1 }
