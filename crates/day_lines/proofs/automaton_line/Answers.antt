use Rattle.day_lines.proofs.Joining.{automaton_joined}
use Rattle.text.proofs.Appending.{behind, said}
use Rattle.text.proofs.Digits.{byte_length}
use Rattle.text.specs.Decimal.{ascii, decimal}
use Prim.Native.Nat.{◌≤◌}
use mathlib.Core.List.{◌∷◌, ◌++◌}
use lib.ListN.{length, length-append}
use native.Mathlib.Omega.{arith}
use Rattle.day_lines.proofs.automaton_line.Goals as goal

pub pair-sizes-requires : goal.pair-sizes-requires
pair-sizes-requires c = let few : length (decimal c.args.n ++ 32 ∷ decimal c.args.m) ≤ 7 = let a = c.args in
    omega (
      arith,
      length-append (decimal a.n) (32 ∷ decimal a.m),
      byte_length a.n (omega (arith, c.ranges.n)),
      byte_length a.m (omega (arith, c.ranges.m)),
    ) in
    omega (arith, c.requires, few)

pub pair_end-requires : goal.pair_end-requires
pair_end-requires c = let few : length (decimal c.args.n ++ 32 ∷ decimal c.args.m) ≤ 7 = let a = c.args in
    omega (
      arith,
      length-append (decimal a.n) (32 ∷ decimal a.m),
      byte_length a.n (omega (arith, c.ranges.n)),
      byte_length a.m (omega (arith, c.ranges.m)),
    ) in
    omega (arith, c.requires, c.pair-sizes.ensures.place, c.pair-sizes.auto.out, few)

pub returns : goal.returns
unfolding ascii
returns c =
    said (automaton_joined c.args.n c.args.m c.args.b _ _)
    (behind c.pair-sizes.ensures c.pair_end.ensures)
