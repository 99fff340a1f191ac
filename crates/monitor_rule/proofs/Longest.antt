-- Laws of the release, over any rest test.
use Prim.Native.Nat.{ℕ, zero, suc, ◌≤◌}
use mathlib.Core.Path.{◌≡◌, refl, sym, ◌∙◌, ap}
use mathlib.Core.Bool.{true, false, not}
use mathlib.Core.List.{List, ◌∷◌}
use native.Mathlib.Omega.{arith}
use lib.ListN.{length, take, drop, take-append-drop}
use lib.Seq.{length-take-le}
use lib.Dec.{eqb, ltb}
use borrow.Author.Tests.{ltb-true, ltb-false, ne_eqb}
use Rattle.base.specs.Each.{each}
use Rattle.base.proofs.Bools.{by, either, clash}
use Rattle.base.proofs.Ranges.{each_all, each_false, each_same}
use Rattle.base.proofs.Picking.{last-those, those-same}
use Rattle.automaton.specs.declared.Automaton.{Automaton}
use Rattle.automaton.specs.Automaton.{step, reached}
use Rattle.monitor_rule.specs.Step.{Rest, qualifies, qualifying, release, is_shut}
use Rattle.monitor_rule.proofs.Worded.{releases-longest}

-- the same front parts qualify
pub qualifying-same : (rest : Rest) (a : Automaton) (other : Rest) (b : Automaton) (q : ℕ) (w : List ℕ)
    → ((k : ℕ) → k ≤ length w → qualifies rest a q w k ≡ qualifies other b q w k) → qualifying rest a q w ≡ qualifying other b q w
unfolding qualifying
qualifying-same rest a other b q w h = those-same (suc (length w)) (qualifies rest a q w) (qualifies other b q w) (λ k l. h k (omega arith))

module _ (rest : Rest) (a : Automaton) (q : ℕ) (w : List ℕ) where
  pub release_le : release rest a q w ≤ length w
  unfolding release qualifying
  release_le =
      either (last-those 0 (suc (length w)) (qualifies rest a q w)) (λ g. omega (arith, g.below)) (λ g. omega (arith, g.1))

  -- where some front part qualifies, what is released does, and is no shorter
  pub release-longest : (k : ℕ) → k ≤ length w → qualifies rest a q w k ≡ true
      → (qualifies rest a q w (release rest a q w) ≡ true) × (k ≤ release rest a q w)
  unfolding qualifies
  release-longest k l h =
      let g = releases-longest rest a q w in
      let split = take-append-drop k w in
      let ours = length-take-le (release rest a q w) w release_le in (
        either g.leads (λ p. p) (λ p. absurd (p.1 (take k w) (drop k w) split h)),
        omega (arith, g.longest (take k w) (drop k w) split h, length-take-le k w l),
      )

  -- what is released qualifies, unless it is nothing
  pub released-qualifies : 1 ≤ release rest a q w → qualifies rest a q w (release rest a q w) ≡ true
  unfolding qualifies
  released-qualifies l =
      either (releases-longest rest a q w).leads
      (λ r. r)
      (λ n. absurd (omega (arith, length-take-le (release rest a q w) w release_le, ap length n.0)))

-- where every nonempty front part that qualifies by one does by the other, no more is released by
-- the first
pub release_most : (rest : Rest) (a : Automaton) (other : Rest) (b : Automaton) (q : ℕ) (w : List ℕ)
    → ((k : ℕ) → 1 ≤ k → k ≤ length w → qualifies rest a q w k ≡ qualifies other b q w k) → release rest a q w ≤ release other b q w
release_most rest a other b q w h =
    let k = release rest a q w in
    let few = release_le rest a q w in
    by (ltb 0 k)
    (λ t.
    let l = ltb-true 0 k t in
    (release-longest other b q w k few (sym (h k l few) ∙ released-qualifies rest a q w l)).1)
    (λ t. let l = ltb-false 0 k t in omega arith)

-- the rest test is asked only of what is left after a nonempty front part
pub release-same : (rest : Rest) (a : Automaton) (other : Rest) (b : Automaton) (q : ℕ) (w : List ℕ)
    → ((k : ℕ) → 1 ≤ k → k ≤ length w → qualifies rest a q w k ≡ qualifies other b q w k) → release rest a q w ≡ release other b q w
release-same rest a other b q w h =
    let x = release_most rest a other b q w h in
    let y = release_most other b rest a q w (λ k l m. sym (h k l m)) in
    omega arith

-- the same nonempty front parts qualify
pub shut-same : (rest : Rest) (a : Automaton) (other : Rest) (b : Automaton) (q : ℕ) (w : List ℕ)
    → ((k : ℕ) → 1 ≤ k → k ≤ length w → qualifies rest a q w k ≡ qualifies other b q w k) → is_shut rest a q w ≡ is_shut other b q w
unfolding is_shut
shut-same rest a other b q w h =
    each_same (length w) (λ k. not (qualifies rest a q w (suc k))) (λ k. not (qualifies other b q w (suc k))) (λ k l. ap not (h (suc k) (omega arith) (omega arith)))

-- a buffer is shut where nothing is released
pub shut-is : (rest : Rest) (a : Automaton) (q : ℕ) (w : List ℕ) → is_shut rest a q w ≡ eqb (release rest a q w) 0
unfolding is_shut
shut-is rest a q w = at (release rest a q w) refl
  where
    at : (n : ℕ) → release rest a q w ≡ n → each (length w) (λ k. not (qualifies rest a q w (suc k))) ≡ eqb n 0
    at zero e =
        each_all (length w) (λ k. not (qualifies rest a q w (suc k)))
        (λ k l. by (qualifies rest a q w (suc k))
        (λ h. absurd (omega (arith, (release-longest rest a q w (suc k) (omega arith) h).1, e)))
        (λ h. rw h))
    at (suc n) e =
        let holds = rw e at (released-qualifies rest a q w (omega (arith, e))) in
        each_false (length w) (λ k. not (qualifies rest a q w (suc k))) n (omega (arith, release_le rest a q w, e)) (rw holds) ∙
        sym (ne_eqb (suc n) 0 (λ z. omega arith))

-- what is released where some of it has to go: the first event, and then the longest front part of
-- the others, if any of them qualifies
module _ (rest : Rest) (a : Automaton) (q d : ℕ) (w : List ℕ) where
  abbrev p : ℕ
  p = step a q d

  abbrev k : ℕ
  k = release rest a p w

  -- a front part with the first event is one of the others
  behind : (j : ℕ) → qualifies rest a q (d ∷ w) (suc j) ≡ qualifies rest a p w j
  unfolding qualifies reached
  behind j = refl

  behind-holds : (n : ℕ) → release rest a q (d ∷ w) ≡ suc n → qualifies rest a p w n ≡ true
  behind-holds n e = sym (behind n) ∙ rw e at (released-qualifies rest a q (d ∷ w) (omega (arith, e)))

  -- no more of the others than their longest
  behind-few : (n : ℕ) → release rest a q (d ∷ w) ≡ suc n → n ≤ k
  behind-few n e =
      let l = release_le rest a q (d ∷ w) in
      (release-longest rest a p w n (omega (arith, e)) (behind-holds n e)).1

  pub release-behind : qualifies rest a p w k ≡ true → release rest a q (d ∷ w) ≡ suc k
  release-behind h =
      let more = (release-longest rest a q (d ∷ w) (suc k) (omega (arith, release_le rest a p w)) (behind k ∙ h)).1 in
      exactly (release rest a q (d ∷ w)) refl more
    where
      exactly : (n : ℕ) → release rest a q (d ∷ w) ≡ n → suc k ≤ n → release rest a q (d ∷ w) ≡ suc k
      exactly zero e l = absurd (omega arith)
      exactly (suc n) e l = omega (arith, e, behind-few n e)

  pub release-none : qualifies rest a p w k ≡ false → release rest a q (d ∷ w) ≡ 0
  release-none h = nothing (release rest a q (d ∷ w)) refl
    where
      nothing : (n : ℕ) → release rest a q (d ∷ w) ≡ n → release rest a q (d ∷ w) ≡ 0
      nothing zero e = e
      nothing (suc n) e =
          absurd (clash (release-longest rest a p w n (omega (arith, release_le rest a q (d ∷ w), e)) (behind-holds n e)).0 h)
