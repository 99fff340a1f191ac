use Prim.Native.Nat.{ℕ, ◌<◌, ◌*◌, ◌%◌, ◌^◌}
use mathlib.Core.Path.{◌≡◌}
use native.Mathlib.Nat.{one-mul, mod-eq_of_lt}
use lib.Pow.{pow-lt}
use borrow.Author.Rules.{rules}
use Rattle.base.proofs.bit.Goals as goal

-- a bit is not shifted out
shifted : (q : ℕ) → q < 32 → 1 * 2 ^ q % 2 ^ 32 ≡ 2 ^ q
shifted q h = rw one-mul (mod-eq_of_lt (pow-lt h))

pub returns : goal.returns
returns c = shifted _ (search rules)
