-- Two records that row 11 lets pass are one if they are alike at every place that is used.
use Prim.Native.Nat.{ℕ, ◌/◌, ◌%◌, ◌<◌, ◌≤◌}
use mathlib.Core.Path.{◌≡◌, sym, ◌∙◌, ap}
use mathlib.Core.Logic.{◌↔◌}
use mathlib.Core.Bool.{true}
use mathlib.Core.List.{List}
use native.Mathlib.Omega.{arith}
use lib.ListN.{get_or}
use lib.Seq.{ext_get_or}
use lib.Dec.{ltb}
use borrow.Author.Tests.{ltb-true, ltb-false}
use Rattle.base.proofs.Bools.{by, clash}
use Rattle.automaton.specs.declared.Automaton.{Automaton}
use Rattle.automaton.specs.Arrays.{goes}
use Rattle.automaton.specs.Automaton.{class, flag, accepts, step}
use Rattle.automaton.proofs.Facts.{Valid}
use Rattle.automaton.proofs.Classes.{flag_one}

-- the flag of a state that is not accepting
other-flag : (a : Automaton) (q : ℕ) → flag a q ≤ 1 → (accepts a q ≡ true → ⊥) → flag a q ≡ 0
other-flag a q h none = let n : flag a q ≡ 1 → ⊥ = λ o. none ((flag_one a q).1 o) in omega arith

-- a place as that of a state and a symbol
place_of : (next : List ℕ) (i : ℕ) → get_or next i 0 ≡ goes next (i / 16) (i % 16)
place_of next i = ap (λ j. get_or next j 0) (omega arith)

module _ (c d : Automaton) (vc : Valid c) (vd : Valid d) where
  same_flag : (q : ℕ) → (accepts c q ≡ true) ↔ (accepts d q ≡ true) → flag c q ≡ flag d q
  same_flag q f =
      by (accepts c q)
      (λ h. (flag_one c q).0 h ∙ sym ((flag_one d q).0 (f.0 h)))
      (λ h.
      other-flag c q (vc.flag_high q) (λ t. clash t h) ∙
      sym (other-flag d q (vd.flag_high q) (λ t. clash (f.1 t) h)))

  module _ (states : c.states ≡ d.states) (symbols : c.symbols ≡ d.symbols) where
    same_step : ((q e : ℕ) → q < c.states → e < c.symbols → step c q e ≡ step d q e) → (q e : ℕ) → e < 16 → step c q e ≡ step d q e
    same_step f q e l =
        by (ltb q c.states)
        (λ u. by (ltb e c.symbols)
        (λ w. f q e (ltb-true q c.states u) (ltb-true e c.symbols w))
        (λ w. let s = ltb-false e c.symbols w in vc.step_no_symbol q e s l ∙ sym (vd.step_no_symbol q e (omega arith) l)))
        (λ u. let s = ltb-false q c.states u in vc.step-no-state q e s l ∙ sym (vd.step-no-state q e (omega arith) l))

    pub same_record : c.capacity ≡ d.capacity → c.initial ≡ d.initial
        → ((e : ℕ) → e < c.symbols → class c e ≡ class d e)
        → ((q : ℕ) → q < c.states → (accepts c q ≡ true) ↔ (accepts d q ≡ true))
        → ((q e : ℕ) → q < c.states → e < c.symbols → step c q e ≡ step d q e)
        → c ≡ d
    unfolding step
    same_record capacity initial classes accepting next =
        let same-classes : c.classes ≡ d.classes =
        ext_get_or 0 c.classes d.classes (vc.classes-length ∙ sym vd.classes-length) λ e _.
        by (ltb e c.symbols)
        (λ u. classes e (ltb-true e c.symbols u))
        (λ u. let s = ltb-false e c.symbols u in vc.class-unused e s ∙ sym (vd.class-unused e (omega arith))) in
        let same_flags : c.accepting ≡ d.accepting =
        ext_get_or 0 c.accepting d.accepting (vc.accepting-length ∙ sym vd.accepting-length) λ q _.
        by (ltb q c.states)
        (λ u. same_flag q (accepting q (ltb-true q c.states u)))
        (λ u. let s = ltb-false q c.states u in vc.flag-unused q s ∙ sym (vd.flag-unused q (omega arith))) in
        let same_next : c.next ≡ d.next =
        ext_get_or 0 c.next d.next (vc.next-length ∙ sym vd.next-length) λ i _.
        place_of c.next i ∙ same_step next (i / 16) (i % 16) (omega arith) ∙ sym (place_of d.next i) in
        λ i. record {
          states = states i;
          symbols = symbols i;
          capacity = capacity i;
          initial = initial i;
          classes = same-classes i;
          accepting = same_flags i;
          next = same_next i;
        }
