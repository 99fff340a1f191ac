use Rattle.day_transcript.proofs.Continuing.{begins, kept-length, within, moves, again, stays, nothing}
use native.Mathlib.Omega.{arith}
use Rattle.day_pieces.proofs.next_piece.Goals as goal

pub loop-out-init : goal.loop-out-init
loop-out-init c = begins _ _ _ _

pub overflow_sub-out : goal.overflow_sub-out
overflow_sub-out c = within c.loop-out.invariant

pub line-step-requires : goal.line-step-requires
line-step-requires c = omega (arith, within c.loop-out.invariant)

pub loop-out-smaller : goal.loop-out-smaller
loop-out-smaller c =
    omega (arith, moves c.loop-out.invariant c.line-step.ensures, c.line-step.ensures.continued.stored.inside, kept-length c.loop-out.invariant)

pub loop-out-preserved : goal.loop-out-preserved
loop-out-preserved c =
    again c.loop-out.invariant c.line-step.ensures

pub shape_of-out-after-loop-out : goal.shape_of-out-after-loop-out
shape_of-out-after-loop-out c = kept-length c.loop-out.invariant

pub returns-after-loop-out : goal.returns-after-loop-out
returns-after-loop-out c = record { continued = c.loop-out.invariant; progress_value = λ room z. absurd (omega (arith, kept-length c.loop-out.invariant)) }

pub shape_of-out-then-step-at : goal.shape_of-out-then-step-at
shape_of-out-then-step-at c =
    kept-length (stays c.loop-out.invariant c.line-step.ensures c.if-step-at.true)

pub returns-then-step-at : goal.returns-then-step-at
returns-then-step-at c =
    record { continued = stays c.loop-out.invariant c.line-step.ensures c.if-step-at.true; progress_value = λ room z. nothing c.loop-out.invariant (c.line-step.ensures.ended c.if-step-at.true) z }
