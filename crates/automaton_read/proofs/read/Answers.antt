use Rattle.std.proofs.Common.{◌∙◌, refl, arith}
use Rattle.refusal.proofs.Numbers.{number_never_0}
use Rattle.automaton_format.specs.Reading.{refused}
use Rattle.automaton_format.proofs.Header.{in-range, refused-states, refused-symbols, refused-capacity, refused_start, to_tables}
use Rattle.refusal.proofs.Passing.{passed_on}
use Rattle.automaton_read.proofs.read.Goals as goal

pub returns-in_err-n : goal.returns-in_err-n
returns-in_err-n c = passed_on _ refused _ _ c.from_residual.ensures.1 ∙ refused-states _ _ c.in_err-n.ensures (number_never_0 _)

pub returns-in_err-m : goal.returns-in_err-m
returns-in_err-m c =
    passed_on _ refused _ _ c.from_residual-in_err-m.ensures.1 ∙ refused-symbols _ _ c.in_ok-n.ensures refl _ c.in_err-m.ensures (number_never_0 _)

pub returns-in_err-b : goal.returns-in_err-b
returns-in_err-b c =
    passed_on _ refused _ _ c.from_residual-in_err-b.ensures.1 ∙ refused-capacity _ _ c.in_ok-n.ensures refl _ c.in_ok-m.ensures refl _ c.in_err-b.ensures (number_never_0 _)

pub returns-in_err-q : goal.returns-in_err-q
returns-in_err-q c =
    passed_on _ refused _ _ c.from_residual-in_err-q.ensures.1 ∙ refused_start _ _ c.in_ok-n.ensures refl _ c.in_ok-m.ensures refl _ c.in_ok-b.ensures refl _ c.in_err-q.ensures (number_never_0 _)

pub read_tables-requires : goal.read_tables-requires
read_tables-requires c = (
  (in-range _ _ _ _ _ _ (omega arith) c.in_ok-n.ensures refl).1,
  (in-range _ _ _ _ _ _ (omega arith) c.in_ok-m.ensures refl).1,
  (in-range _ _ _ _ _ _ (omega arith) c.in_ok-b.ensures refl).1,
  (in-range _ _ _ _ _ _ (omega arith) c.in_ok-q.ensures refl).1,
)

pub returns : goal.returns
returns c =
    c.read_tables.ensures ∙ to_tables _ _ c.in_ok-n.ensures refl _ c.in_ok-m.ensures refl _ c.in_ok-b.ensures refl _ c.in_ok-q.ensures refl
