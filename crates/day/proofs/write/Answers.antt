use Rattle.std.proofs.Common.{refl, arith}
use Rattle.day_transcript.proofs.Bounds.{transcript-bounded}
use Rattle.day_transcript.proofs.Continuing.{kept-length}
use Rattle.streams.proofs.Passing.{appended_none}
use Rattle.day.proofs.Delivering.{begins, passes, goes_on, ends, stops}
use Rattle.day.proofs.write.Goals as goal

pub loop-piece-init : goal.loop-piece-init
loop-piece-init g c =
    let bound = transcript-bounded c.args.input.now (λ i _. (c.type_inv.input i).fits) in
    record {
      room = c.requires;
      delivering = begins (omega (arith, bound)) c.begin-progress.ensures.result_after;
      passed = appended_none _;
    }

pub loop-piece-preserved : goal.loop-piece-preserved
loop-piece-preserved g c =
    let i = c.loop-piece.invariant in
    let x = c.next_piece-piece.ensures.continued in
    let h = c.in-Ok.ensures.handed in
    record {
      room = rw (kept-length x) i.room;
      delivering = goes_on i.delivering x h refl;
      passed = passes i.delivering x h _ _ _ i.passed c.in-Ok.ensures.passed;
    }

pub returns-then-length-eq0-clause-delivered : goal.returns-then-length-eq0-clause-delivered
returns-then-length-eq0-clause-delivered g c =
    ends c.loop-piece.invariant.delivering (c.next_piece-piece.ensures.progress_value c.loop-piece.invariant.room c.if-length-eq0.true) _

pub returns-in-Err-clause-delivered : goal.returns-in-Err-clause-delivered
returns-in-Err-clause-delivered g c =
    stops c.loop-piece.invariant.delivering c.next_piece-piece.ensures.continued c.in-Err.ensures.handed refl

pub returns-in-Err-clause-passed : goal.returns-in-Err-clause-passed
returns-in-Err-clause-passed g c =
    let i = c.loop-piece.invariant in
    passes i.delivering c.next_piece-piece.ensures.continued c.in-Err.ensures.handed _ _ _ i.passed c.in-Err.ensures.passed
