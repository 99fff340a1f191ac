use Rattle.day_lines.specs.StatusLines.{winning_end}
use Rattle.text.proofs.Appending.{behind, said}
use Rattle.text.proofs.Digits.{byte_length, pair-length}
use Rattle.text.specs.Decimal.{decimal}
use Prim.Native.Nat.{◌≤◌, ◌+◌}
use mathlib.Core.List.{◌++◌, append_assoc}
use lib.ListN.{length}
use native.Mathlib.Omega.{arith}
use Rattle.day_lines.proofs.pair_end.Goals as goal

pub pair-next-requires : goal.pair-next-requires
pair-next-requires c = let room : let a = c.args in
    a.at + length ((a.first.now ++ decimal a.n) ++ (a.second.now ++ decimal a.m)) + 13 ≤ length a.out.now = let a = c.args in
    omega (
      arith,
      c.requires,
      pair-length a.first.now a.second.now a.n a.m,
      byte_length a.n (omega (arith, c.ranges.n)),
      byte_length a.m (omega (arith, c.ranges.m)),
    ) in
    omega (arith, room)

pub winning_end-requires : goal.winning_end-requires
winning_end-requires c = let room : let a = c.args in
    a.at + length ((a.first.now ++ decimal a.n) ++ (a.second.now ++ decimal a.m)) + 13 ≤ length a.out.now = let a = c.args in
    omega (
      arith,
      c.requires,
      pair-length a.first.now a.second.now a.n a.m,
      byte_length a.n (omega (arith, c.ranges.n)),
      byte_length a.m (omega (arith, c.ranges.m)),
    ) in
    omega (arith, room, c.pair-next.ensures.place, c.pair-next.auto.out)

pub returns : goal.returns
returns c =
    said
    (append_assoc (c.args.first.now ++ decimal c.args.n)
    (c.args.second.now ++ decimal c.args.m) (winning_end c.args.winning))
    (behind c.pair-next.ensures c.winning_end.ensures)
