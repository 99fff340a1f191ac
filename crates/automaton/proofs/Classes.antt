-- The classes of the symbols and the flags of the states.
use borrow.Author.Tests.{eqb-true, eq-eqb}
use Rattle.automaton.specs.Automaton.{class, controllable, flag, accepts}
use Rattle.automaton.specs.Claims.{ClassOne, FlagOne}

pub class-one : ClassOne
unfolding controllable
class-one a e = (eqb-true (class a e) 1, eq-eqb (class a e) 1)

pub flag_one : FlagOne
unfolding accepts
flag_one a q = (eqb-true (flag a q) 1, eq-eqb (flag a q) 1)
