-- How reading a list of numbers ended, and how many of them are 1: what the inner functions of
-- reading hand back.
use Rattle.std.specs.Prelude.{ℕ, ◌+◌, cond, eqb}
use Rattle.varint.specs.Varint.{Number}
use Rattle.automaton_format.specs.Reading.{Numbers}

-- a list of numbers that was read, without its values
unfoldable pub outcome : Numbers → Number
outcome ns = record { refusal = ns.refusal; value = 0; place = ns.place }

-- one more, where v is 1
unfoldable pub one_more : ℕ → ℕ → ℕ
one_more ones v = ones + cond (eqb v 1) 1 0
