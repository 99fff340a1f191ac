use Rattle.std.proofs.Common.{◌≡◌, ℕ, ◌<◌, true, false, Bool, List, get_or, refl, sym, ◌∙◌, ap, arith, bit_or}
use Rattle.base.specs.Masks.{has}
use Rattle.automaton.specs.Arrays.{goes}
use Rattle.solver_rounds.specs.Rounds.{leads}
use Rattle.solver_rounds.proofs.Scanning.{scan_none, scan_more, scan_fails, leave_none, leave_stays, leave_absent, leave_room, leave_taken, leave_all}
use Rattle.solver_rounds.proofs.refine.Goals as goal
use Rattle.solver_rounds.proofs.refine.Goals.{After-from-in-scan, then-has+then-not-stays, else-scan-test, then-scan-test+then-not-has, then-has+else-not-stays, else-has}

-- where the scan's symbol leads
next-state : (c : After-from-in-scan) →
    let a = c.args in
    c.from-in-scan.result ≡ goes a.next.now c.loop-q.q (get_or a.free.now c.scan.k 0)
next-state c = c.from-in-scan.ensures ∙ ap (λ e. goes c.args.next.now c.loop-q.q e) c.from.ensures

-- a scan that was left met a symbol that leads to no safe state
stopped : (next free : List ℕ) (x q k u : ℕ) {symbol to : ℕ} {found : Bool} → k < u → symbol ≡ get_or free k 0 → to ≡ goes next q symbol → found ≡ has x to → found ≡ false → leads next free u x q ≡ false
stopped next free x q k u h s t f outside =
    scan_fails next free x q k u h (sym (f ∙ ap (has x) (t ∙ ap (λ e. goes next q e) s)) ∙ outside)

never : {A : Type 0} {b d : Bool} → d ≡ b → b ≡ true → d ≡ false → A
never e t f = absurd (grind (arith, sym t ∙ sym e ∙ f))

pub loop-q-init : goal.loop-q-init
loop-q-init c = leave_none _ _ _ _ _ _ c.requires.1

pub scan-init : goal.scan-init
scan-init c = (refl, scan_none _ _ _ _)

pub scan-preserved : goal.scan-preserved
scan-preserved c = (
  c.scan.invariant.0,
  scan_more _ _ _ _ _ c.scan.invariant.1 (sym (c.has-in-scan.ensures ∙ ap (has _) (next-state (goal.at.scan-preserved c).After-from-in-scan)) ∙ c.if-not-has.false),
)

pub overflow_sub-left : goal.overflow_sub-left
overflow_sub-left c =
    let a = c.args in
    let out : leads a.next.now a.free.now a.u (bit_or a.set a.intermediate) c.loop-q.q ≡ false =
    elim c.scan-test.branch [
      | else-scan-test x ↦ never x.stays-is c.scan.invariant.0 c.if-not-stays.true
      | then-scan-test+then-not-has x ↦ stopped _ _ _ _ c.scan.k _ x.scan-test.true x.from.ensures x.from-in-scan.ensures x.has-in-scan.ensures x.if-not-has.true
    ] in
    leave_room _ _ _ _ _ _ _ _ c.loop-q.invariant c.loop-q-test.true (sym c.has.ensures ∙ c.if-has.true) out c.bit-left.ensures

pub loop-q-preserved : goal.loop-q-preserved
loop-q-preserved c =
    let a = c.args in
    elim c.if-has.branch [
      | then-has+then-not-stays w ↦
          let out : leads a.next.now a.free.now a.u (bit_or a.set a.intermediate) c.loop-q.q ≡ false =
          elim w.scan-test.branch [
            | else-scan-test x ↦ never x.stays-is w.scan.invariant.0 w.if-not-stays.true
            | then-scan-test+then-not-has x ↦ stopped _ _ _ _ w.scan.k _ x.scan-test.true x.from.ensures x.from-in-scan.ensures x.has-in-scan.ensures x.if-not-has.true
          ] in
          rw w.left-is (leave_taken _ _ _ _ _ _ _ _ c.loop-q.invariant c.loop-q-test.true (sym c.has.ensures ∙ w.if-has.true) out w.bit-left.ensures)
      | then-has+else-not-stays w ↦
          let all : leads a.next.now a.free.now a.u (bit_or a.set a.intermediate) c.loop-q.q ≡ true =
          elim w.scan-test.branch [
            | else-scan-test x ↦ let e : w.scan.k ≡ a.u = omega arith in rw e at w.scan.invariant.1
            | then-scan-test+then-not-has x ↦ never w.if-not-stays.false refl x.stays-is
          ] in
          rw w.left-is (leave_stays _ _ _ _ _ _ _ _ c.loop-q.invariant all)
      | else-has w ↦ rw w.left-is (leave_absent _ _ _ _ _ _ _ _ c.loop-q.invariant (sym c.has.ensures ∙ w.if-has.false))
    ]

pub returns : goal.returns
returns c = leave_all _ _ _ _ _ _ _ _ c.loop-q.invariant (omega arith)
