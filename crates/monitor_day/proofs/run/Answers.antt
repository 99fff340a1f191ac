use Prim.Native.Nat.{◌+◌, ◌<◌, ◌≤◌}
use mathlib.Core.Path.{◌∙◌, sym}
use lib.ListN.{length}
use native.Mathlib.Omega.{arith}
use Rattle.monitor_entry.proofs.Entries.{entered, entered_opened}
use Rattle.monitor_loop.proofs.Taking.{lends, enters}
use Rattle.monitor_day.proofs.Days.{run-stands, run-refuses, run-lacks-room, run-goes}
use Rattle.monitor_day.proofs.run.Goals as goal

pub returns-then-entry-ne0 : goal.returns-then-entry-ne0
returns-then-entry-ne0 c =
    let r = run-stands _ _ _ _ _ _ (entered _ _ _ c.enter-entry.ensures) c.if-entry-ne0.true in
    (c.refused_run.ensures ∙ r.0, r.1)

pub returns-then-not-consistent : goal.returns-then-not-consistent
returns-then-not-consistent c =
    let o = entered_opened _ _ _ c.enter-entry.ensures c.if-entry-ne0.false in
    let r = run-refuses _ _ _ _ _ o.0 (sym c.consistent.ensures ∙ c.if-not-consistent.true) in
    (c.refused_run-then-not-consistent.ensures ∙ r.0, r.1)

pub returns-then-out-held : goal.returns-then-out-held
returns-then-out-held c =
    let o = entered_opened _ _ _ c.enter-entry.ensures c.if-entry-ne0.false in
    let stands = sym c.consistent.ensures ∙ c.if-not-consistent.false in
    let x = c.args in
    let l : length x.out.now < length x.events.now + x.c.held = omega (arith, c.from-held.ensures, c.if-out-held.true) in
    let r = run-lacks-room _ _ _ _ _ o.0 stands l in
    (c.refused_run-then-out-held.ensures ∙ r.0, r.1)

pub returns-then-out-held-2 : goal.returns-then-out-held-2
returns-then-out-held-2 c =
    let o = entered_opened _ _ _ c.enter-entry.ensures c.if-entry-ne0.false in
    let stands = sym c.consistent.ensures ∙ c.if-not-consistent.false in
    let x = c.args in
    let l : length x.out.now < length x.events.now + x.c.held =
    omega (arith, c.from-held.ensures, c.if-out-held-2.true, c.if-out-held.false)
    in
    let r = run-lacks-room _ _ _ _ _ o.0 stands l in
    (c.refused_run-then-out-held-2.ensures ∙ r.0, r.1)

pub process-requires : goal.process-requires
process-requires c =
    let o = entered_opened _ _ _ c.enter-entry.ensures c.if-entry-ne0.false in
    let stands = sym c.consistent.ensures ∙ c.if-not-consistent.false in
    (enters (lends _ _ o.0 _ o.1) stands, omega (arith, c.from-held.ensures, c.if-out-held-2.false, c.if-out-held.false))

pub returns : goal.returns
returns c =
    let o = entered_opened _ _ _ c.enter-entry.ensures c.if-entry-ne0.false in
    let stands = sym c.consistent.ensures ∙ c.if-not-consistent.false in
    let x = c.args in
    let room : length x.events.now + x.c.held ≤ length x.out.now =
    omega (arith, c.from-held.ensures, c.if-out-held-2.false, c.if-out-held.false)
    in
    let f = c.process.ensures _ (lends _ _ o.0 _ o.1) stands in
    let r = run-goes _ _ _ x.events.now x.out.now o.0 stands room in
    (f.0 ∙ r.0, f.1 ∙ r.1)
