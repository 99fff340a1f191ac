-- Laws of the two functions' ways out.
use Prim.Native.Nat.{ℕ, zero, suc, ◌+◌, ◌-◌, ◌<◌, ◌≤◌}
use mathlib.Core.Path.{◌≡◌, refl, sym, ◌∙◌, ap}
use mathlib.Core.Bool.{Bool, true, false, ◌&&◌, ◌||◌}
use mathlib.Core.List.{List, [], ◌∷◌}
use native.Mathlib.Numerals.{add-one}
use native.Mathlib.Omega.{arith}
use lib.ListN.{length, get_or, take, drop}
use lib.Seq.{drop-cons}
use Rattle.base.specs.Each.{each}
use Rattle.base.proofs.Bools.{or_left, or_right}
use Rattle.automaton.specs.declared.Automaton.{Automaton}
use Rattle.automaton.specs.Automaton.{controllable, accepts, step}
use Rattle.game.specs.Game.{releases, may_rest, can_rest}
use Rattle.game.specs.Arena.{held_from}
use Rattle.game.proofs.Worded.{as_worded}

module _ (a : Automaton) where
  -- what resting with r + 1 rounds left asks of a symbol
  abbrev pub turn : List ℕ → ℕ → ℕ → ℕ → Bool
  turn w r q e = controllable a e || can_rest a w r (step a q e)

  pub rest_not : (w : List ℕ) (r q : ℕ) → accepts a q ≡ false → may_rest a w r q ≡ false
  rest_not w zero q h = (as_worded a).rest_last w q ∙ h
  rest_not w (suc r) q h = (as_worded a).rest_on w r q ∙ rw h

  pub rest_last : (w : List ℕ) (r q : ℕ) → r ≡ 0 → accepts a q ≡ true → may_rest a w r q ≡ true
  rest_last w r q z h = rw z ((as_worded a).rest_last w q ∙ h)

  pub rest_on : (w : List ℕ) (r q : ℕ) → (r ≡ 0 → ⊥) → accepts a q ≡ true → may_rest a w r q ≡ each a.symbols (turn w (r - 1) q)
  rest_on w zero q z h = absurd (z refl)
  rest_on w (suc r) q z h =
      let e : r ≡ suc r - 1 = omega arith in
      (as_worded a).rest_on w r q ∙ ap (λ b. b && each a.symbols (turn w r q)) h ∙ ap (λ k. each a.symbols (turn w k q)) e

  -- a symbol that leads to t
  module _ (w : List ℕ) (r q e t : ℕ) (leads : t ≡ step a q e) where
    pub turn_in : can_rest a w r t ≡ true → turn w r q e ≡ true
    turn_in h = or_right (controllable a e) (rw leads at h)

    pub turn-out : controllable a e ≡ false → can_rest a w r t ≡ false → turn w r q e ≡ false
    turn-out c h = rw (c, ← leads) h

-- the events from a place on: none at the end, or the one there and those after it
module _ (buffer : List ℕ) (held at : ℕ) where
  none_left : at ≡ held → held_from buffer held at ≡ []
  none_left e = let z : held - at ≡ 0 = omega arith in ap (λ k. take k (drop at buffer)) z

  one_left : at < held → held ≤ length buffer → held_from buffer held at ≡ get_or buffer at 0 ∷ held_from buffer held (at + 1)
  one_left l b =
      let d : held - at ≡ suc (held - (at + 1)) = omega arith in
      let h : at < length buffer = omega arith in
      ap (λ k. take k (drop at buffer)) d ∙ rw (add-one at, drop-cons buffer at 0 h)

module _ (a : Automaton) (buffer : List ℕ) (held at r q : ℕ) where
  abbrev w : List ℕ
  w = held_from buffer held at

  pub come_here : may_rest a w r q ≡ true → can_rest a w r q ≡ true
  unfolding can_rest
  come_here h = or_left (releases a w q) h

  pub come_none : at ≡ held → may_rest a w r q ≡ false → can_rest a w r q ≡ false
  come_none e h =
      let n = none_left buffer held at e in
      rw n ((as_worded a).come-empty r q ∙ (rw n at h))

  pub come_released : at < held → held ≤ length buffer → may_rest a w r q ≡ false
      → can_rest a w r q ≡ can_rest a (held_from buffer held (at + 1)) a.states (step a q (get_or buffer at 0))
  come_released l b h =
      let n = one_left buffer held at l b in
      let v = held_from buffer held (at + 1) in
      let e : ℕ = get_or buffer at 0 in
      ap (λ w. can_rest a w r q) n ∙
      (as_worded a).come-held e v r q ∙
      ap (λ b. b || can_rest a v a.states (step a q e)) (ap (λ w. may_rest a w r q) (sym n) ∙ h)
