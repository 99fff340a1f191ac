use mathlib.Core.Path.{◌∙◌}
use Rattle.varint.proofs.Laws.{ended_at, one_byte, ended-second, two_bytes, ended-third, three-bytes, too_long}
use native.Mathlib.Omega.{arith}
use borrow.Author.Rules.{rules}
use Rattle.varint.proofs.read.Goals as goal

pub returns-then-s-at : goal.returns-then-s-at
returns-then-s-at c = ended_at _ _ (omega arith)

pub returns-then-a-lt128 : goal.returns-then-a-lt128
returns-then-a-lt128 c = one_byte _ _ _ (omega arith) c.from-a.ensures (omega arith)

pub returns-then-s-at-le1 : goal.returns-then-s-at-le1
returns-then-s-at-le1 c =
    ended-second _ _ _ (omega arith) c.from-a.ensures (omega arith) (omega arith)

pub returns-then-b-lt128 : goal.returns-then-b-lt128
returns-then-b-lt128 c =
    two_bytes _ _ _ (omega arith) c.from-a.ensures (omega arith) _ (omega arith) c.from-b.ensures
    (omega arith)

pub returns-then-s-at-le2 : goal.returns-then-s-at-le2
returns-then-s-at-le2 c =
    ended-third _ _ _ (omega arith) c.from-a.ensures (omega arith) _
    (omega arith) c.from-b.ensures (omega arith) (omega arith)

pub returns-then-c-lt128 : goal.returns-then-c-lt128
returns-then-c-lt128 c =
    three-bytes _ _ _ (omega arith) c.from-a.ensures (omega arith) _ (omega arith)
    c.from-b.ensures (omega arith) _ (omega arith) c.from-c.ensures (omega arith)

pub returns : goal.returns
returns c =
    too_long _ _ _ (omega arith) c.from-a.ensures (omega arith) _
    (omega arith) c.from-b.ensures (omega arith) _ (omega arith)
    c.from-c.ensures (omega arith)
