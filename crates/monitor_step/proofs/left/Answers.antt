use Prim.Native.Nat.{ℕ, zero, ◌-◌, ◌≤◌}
use mathlib.Core.Path.{◌≡◌, sym, ◌∙◌, ap}
use mathlib.Core.List.{List, replicate}
use native.Mathlib.Omega.{arith}
use lib.ListN.{length, take, drop, length-take}
use lib.Seq.{sets}
use Rattle.base.specs.Pad.{pad}
use Rattle.base.proofs.Padding.{pad-length}
use Rattle.monitor_step.proofs.Arrivals.{kept}
use Rattle.monitor_step.proofs.left.Goals as goal

-- what is left, at the front of zeros
moved : (buffer : List ℕ) (held count : ℕ) → held ≤ 6 → count ≤ held → buffer ≡ pad 6 (take held buffer)
    → sets (replicate 6 0) 0 (take (held - count) (drop count buffer)) ≡ pad 6 (drop count (take held buffer))
moved buffer held count h l e =
    let few = length-take held buffer in
    let n : length buffer ≡ 6 = ap length e ∙ pad-length 6 (take held buffer) (omega arith) in
    kept buffer held count n h l

pub returns-then-count-eq0 : goal.returns-then-count-eq0
returns-then-count-eq0 c = rw c.if-count-eq0.true c.requires.2

pub returns-then-count-held : goal.returns-then-count-held
returns-then-count-held c =
    let a = c.args in c.copy.ensures ∙ moved a.buffer.now a.held a.count (omega (arith, c.requires.0)) (omega (arith, c.requires.1)) c.requires.2

pub returns-else-count-held : goal.returns-else-count-held
returns-else-count-held c =
    let a = c.args in
    let none : a.held - a.count ≡ zero = omega arith in
    sym (ap (λ n. sets (replicate 6 0) 0 (take n (drop a.count a.buffer.now))) none) ∙
    moved a.buffer.now a.held a.count (omega (arith, c.requires.0)) (omega (arith, c.requires.1)) c.requires.2
