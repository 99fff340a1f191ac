use Rattle.std.proofs.Common.{◌∙◌, refl, arith, replicate}
use Rattle.refusal.proofs.Numbers.{number_never_0}
use Rattle.automaton_format.specs.Reading.{refused}
use Rattle.automaton_format.proofs.Tables.{tables-classes, tables_flags, tables-next, tables_extra, tables-done}
use Rattle.refusal.proofs.Passing.{passed_on}
use Rattle.automaton_read.proofs.Parts.{numbers_short, front_long, front_filled}
use Rattle.automaton_read.proofs.read_tables.Goals as goal

pub returns-in_err-c : goal.returns-in_err-c
returns-in_err-c c =
    let ec = rw (front_long (replicate 16 0) c.args.symbols (omega arith)) at c.in_err-c.ensures.place in
    passed_on _ refused _ _ c.from_residual.ensures.1 ∙ tables-classes _ _ _ _ _ _ (omega arith) (omega arith) _ ec (number_never_0 _)

pub returns-in_err-f : goal.returns-in_err-f
returns-in_err-f c =
    let ec = rw (front_long (replicate 16 0) c.args.symbols (omega arith)) at c.in_ok-c.ensures.place in
    let ef = rw (front_long (replicate 32 0) c.args.states (omega arith)) at c.in_err-f.ensures.place in
    passed_on _ refused _ _ c.from_residual-in_err-f.ensures.1 ∙ tables_flags _ _ _ _ _ _ (omega arith) (omega arith) _ ec refl _
    ef (number_never_0 _)

pub returns-in_err-t : goal.returns-in_err-t
returns-in_err-t c =
    let ec = rw (front_long (replicate 16 0) c.args.symbols (omega arith)) at c.in_ok-c.ensures.place in
    let ef = rw (front_long (replicate 32 0) c.args.states (omega arith)) at c.in_ok-f.ensures.place in
    passed_on _ refused _ _ c.from_residual-in_err-t.ensures.1 ∙ tables-next _ _ _ _ _ _ (omega arith) (omega arith) _ ec refl _
    ef refl _ c.in_err-t.ensures.place (number_never_0 _)

pub returns-then-t-s : goal.returns-then-t-s
returns-then-t-s c =
    let ec = rw (front_long (replicate 16 0) c.args.symbols (omega arith)) at c.in_ok-c.ensures.place in
    let ef = rw (front_long (replicate 32 0) c.args.states (omega arith)) at c.in_ok-f.ensures.place in
    tables_extra _ _ _ _ _ _ (omega arith) (omega arith) _ ec refl _ ef refl _ c.in_ok-t.ensures.place refl c.if-t-s.true

pub returns : goal.returns
returns c =
    let m16 = front_long (replicate 16 0) c.args.symbols (omega arith) in
    let n32 = front_long (replicate 32 0) c.args.states (omega arith) in
    let ec = rw m16 at c.in_ok-c.ensures in
    let ef = rw n32 at c.in_ok-f.ensures in
    tables-done _ _ _ _ _ _ (omega arith) (omega arith) _ ec.place refl _ ef.place refl _ c.in_ok-t.ensures.place refl c.if-t-s.false _ _ _
    (front_filled (replicate 16 0) c.args.symbols (omega arith) _ _ (numbers_short _ _ _ _) ec.out_after)
    (front_filled (replicate 32 0) c.args.states (omega arith) _ _ (numbers_short _ _ _ _) ef.out_after)
    c.in_ok-t.ensures.next_after
