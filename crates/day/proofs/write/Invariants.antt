use Rattle.std.proofs.Common.{◌≤◌, length, take}
use Rattle.std.specs.Io.KnownBytes.{Appends}
use Rattle.text_lines.specs.Lines.{line_room}
use Rattle.day_transcript.specs.Transcript.{transcript}
use Rattle.day_transcript.specs.Pieces.{to_come}
use Rattle.day.proofs.Delivering.{Delivering}
use Rattle.day.proofs.write.Given as goal

abbrev pub invariant-loop-piece : goal.invariant-loop-piece
invariant-loop-piece g l = record {
  room : line_room ≤ length l.out;
  delivering : Delivering (transcript l.input) (to_come l.table l.input l.progress) l.count;
  passed : Appends (g.W.Write.contents l.fn.to) (g.W.Write.contents l.to) (take l.count (transcript l.input));
}

abbrev pub decreases-loop-piece : goal.decreases-loop-piece
decreases-loop-piece g l = length (to_come l.table l.input l.progress)
