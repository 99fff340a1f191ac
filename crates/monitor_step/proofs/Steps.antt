-- What the code of a step finds is what the rule says, over the arrays that it is lent.
use Prim.Native.Nat.{ℕ, zero, suc, ◌+◌, ◌-◌, ◌*◌, ◌<◌, ◌≤◌}
use mathlib.Core.Path.{◌≡◌, refl, sym, ◌∙◌, ap, ap₂}
use mathlib.Core.Bool.{Bool, false, cond, not}
use mathlib.Core.List.{List, [], ◌∷◌, ◌++◌, map}
use native.Mathlib.Omega.{arith}
use lib.ListN.{length, get_or, set, take, drop, length-append, length-drop, length-take}
use lib.Seq.{sets, take-take, length-take-le}
use lib.Dec.{eqb}
use Rattle.base.specs.Pad.{pad}
use Rattle.base.proofs.Bools.{by, clash}
use Rattle.base.proofs.Padding.{pad-length}
use Rattle.base.proofs.Stores.{sets_join}
use Rattle.automaton.specs.declared.Automaton.{Automaton}
use Rattle.automaton.specs.Automaton.{controllable}
use Rattle.monitor_rule.specs.Step.{Rest, release, Effect, arrival, effect}
use Rattle.monitor_rule.specs.declared.Front.{Front}
use Rattle.monitor_rule.specs.Fronts.{front, class_by, over, ReleaseRequires}
use Rattle.monitor_rule.proofs.Longest.{release_le}
use Rattle.monitor_step.specs.Stepping.{released, stepped, StepRequires}
use Rattle.monitor_step.proofs.Arrivals.{Arrived, arrives}

-- a ranked symbol is a controllable one
class_of : (ranks : List ℕ) (e : ℕ) → get_or (map class_by ranks) e 0 ≡ class_by (get_or ranks e 0)
class_of [] e = refl
class_of (r ∷ ranks) zero = refl
class_of (r ∷ ranks) (suc e) = class_of ranks e

pub class-rank : (ranks next : List ℕ) (e : ℕ) → controllable (over ranks next) e ≡ not (eqb (get_or ranks e 0) 0)
unfolding controllable
class-rank ranks next e = by (eqb (get_or ranks e 0) 0) (λ z. rw (class_of ranks e, z)) (λ z. rw (class_of ranks e, z))

pub rank-class : (ranks next : List ℕ) (e : ℕ) → eqb (get_or ranks e 0) 0 ≡ not (controllable (over ranks next) e)
rank-class ranks next e = by (eqb (get_or ranks e 0) 0) (λ z. rw (class-rank ranks next e, z)) (λ z. rw (class-rank ranks next e, z))

-- the answer after the release, and what was written
module _ (rest : Rest) (a : Automaton) (q : ℕ) (w : List ℕ) (e p : ℕ) (longer : List ℕ) (n all : ℕ) (v : Arrived a q w e p longer n all)
    (f : Front) (ef : f ≡ front rest a p (take all longer)) where
  abbrev x : Effect
  x = arrival a q w e

  abbrev k : ℕ
  k = release rest a x.state x.buffer

  pub found : f ≡ front rest a x.state x.buffer
  found = ef ∙ ap₂ (front rest a) v.state v.events

  count-is : f.count ≡ k
  unfolding front
  count-is = ap (λ (y : Front). y.count) found

  all-is : all ≡ length x.buffer
  all-is = sym v.many ∙ ap length v.events

  pub released-few : f.count ≤ all
  released-few = omega (arith, count-is, release_le rest a x.state x.buffer, all-is)

  pub step-answers : (at from : ℕ) → from ≡ at + n → (left : List ℕ) → left ≡ pad 6 (drop f.count (take all longer))
      → record { row = 0; state = f.state; held = all - f.count; buffer = left; released = f.count; written = from + f.count } ≡ stepped rest a q w e at
  unfolding stepped released effect front
  step-answers at from behind left l =
      let few = release_le rest a x.state x.buffer in
      let h : all - k ≡ length (drop k x.buffer) = omega (arith, all-is, length-drop k x.buffer) in
      let m : from + k ≡ at + length (x.emitted ++ take k x.buffer) =
      omega (arith, behind, v.first, length-append x.emitted (take k x.buffer), length-take-le k x.buffer few)
      in
      let d : left ≡ pad 6 (drop k x.buffer) = l ∙ ap₂ (λ i b. pad 6 (drop i b)) count-is v.events in
      rw (d, found) (rw (h, m))

  pub step_writes : (passes : Bool) → passes ≡ not (controllable a e) → (out out1 out2 : List ℕ) (at from : ℕ) → from ≡ at + n
      → out1 ≡ cond passes (set out at e) out → out2 ≡ sets out1 from (take f.count longer)
      → out2 ≡ sets out at (effect rest a q w e).emitted
  unfolding effect arrival
  step_writes passes b out out1 out2 at from behind o1 o2 =
      let m = x.emitted in
      let r = take k x.buffer in
      let one : out1 ≡ sets out at m = o1 ∙ by (controllable a e) (λ c. rw (b, c)) (λ c. rw (b, c)) in
      let part : take f.count longer ≡ r = sym (take-take f.count all longer released-few) ∙ ap₂ take count-is v.events in
      o2 ∙ ap (λ i. sets out1 i (take f.count longer)) behind ∙
      ap₂ (λ y l. sets y (at + n) l) one part ∙ ap (λ i. sets (sets out at m) (at + i) r) (sym v.first) ∙ sets_join out at m r

-- from what a step asks
module _ {next ranks : List ℕ} {k : ℕ} {t : List ℕ} {q : ℕ} {buffer : List ℕ} {held e size at : ℕ} (g : StepRequires next ranks k t q buffer held e size at) where
  shaped : length buffer ≡ 6
  shaped = ap length g.padded ∙ pad-length 6 (take held buffer) (omega (arith, length-take held buffer, g.few))

  pub many : length (take held buffer) ≡ held
  many = length-take-le held buffer (omega (arith, g.few, shaped))

  pub ready_space : (i : ℕ) → i ≡ e → eqb (get_or ranks i 0) 0 ≡ false → held < 6
  ready_space i ei z =
      g.space
      (by (controllable (over ranks next) e) (λ c. c) (λ c. absurd (clash (ap (λ j. eqb (get_or ranks j 0) 0) ei ∙ rank-class ranks next e ∙ rw c) z)))

  pub ready_arrives : (i j : ℕ) → i ≡ e → j ≡ e → (p : ℕ) (longer : List ℕ) (all : ℕ) → p ≡ cond (eqb (get_or ranks i 0) 0) (get_or next (q * 16 + j) 0) q
      → longer ≡ cond (eqb (get_or ranks i 0) 0) buffer (set buffer held e) → all ≡ held + cond (eqb (get_or ranks i 0) 0) 0 1
      → Arrived (over ranks next) q (take held buffer) e p longer (cond (eqb (get_or ranks i 0) 0) 1 0) all
  ready_arrives i j ei ej p longer all ep el ea =
      arrives (over ranks next) q buffer held e shaped g.padded many g.few (eqb (get_or ranks i 0) 0)
      (ap (λ y. eqb (get_or ranks y 0) 0) ei ∙ rank-class ranks next e) g.space p longer (cond (eqb (get_or ranks i 0) 0) 1 0) all (rw ej at ep) el refl ea

  pub ready_lent : (p : ℕ) (longer : List ℕ) (n all : ℕ) → Arrived (over ranks next) q (take held buffer) e p longer n all → ReleaseRequires next ranks k t p longer all
  ready_lent p longer n all v =
      let l = g.lent (arrival (over ranks next) q (take held buffer) e) refl in
      let whole : longer ≡ pad 6 (arrival (over ranks next) q (take held buffer) e).buffer = v.whole ∙ ap (pad 6) v.events in
      let size : all ≡ length (arrival (over ranks next) q (take held buffer) e).buffer = sym v.many ∙ ap length v.events in
      rw (v.state, whole, size) l
