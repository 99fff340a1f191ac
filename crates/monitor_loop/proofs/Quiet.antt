-- Quiet states: what an event that leads to one leaves, and which are known after a step.
use Prim.Native.Nat.{ℕ, ◌+◌, ◌*◌, ◌^◌, ◌≤◌}
use mathlib.Core.Path.{◌≡◌, sym, ◌∙◌, ap}
use mathlib.Core.Bool.{true, false, ◌&&◌}
use mathlib.Core.List.{List, [], ◌∷◌}
use native.Mathlib.Omega.{arith}
use lib.Bits.{bit_or}
use lib.Dec.{eqb, ltb}
use lib.ListN.{length, get_or, take}
use borrow.Author.Tests.{eqb-true, ltb-false}
use Rattle.base.specs.Masks.{has}
use Rattle.base.specs.Pad.{pad}
use Rattle.base.proofs.Bools.{by, either, clash, and-pair, or_some}
use Rattle.base.proofs.Masks.{has-nothing, has_one, has-or}
use Rattle.base.proofs.Padding.{take-pad}
use Rattle.automaton.specs.declared.Automaton.{Automaton}
use Rattle.automaton.specs.Automaton.{controllable, step}
use Rattle.monitor_rule.specs.Step.{Rest, release, remaining, Effect, arrival, effect}
use Rattle.monitor_rule.specs.Fronts.{rest_in, over}
use Rattle.monitor_rule.proofs.Effects.{effect-length, effect-alone}
use Rattle.monitor_rule.proofs.Longest.{release_le}
use Rattle.monitor_step.specs.declared.Stepped.{Stepped}
use Rattle.monitor_step.specs.Stepping.{released, stepped}
use Rattle.monitor_step.proofs.Emitting.{emitted_many}
use Rattle.monitor_step.proofs.Steps.{class-rank}
use Rattle.monitor_loop.specs.Quiet.{quiet_after}

-- each state of a set is quiet, with so many events held in a buffer
pub record Quiet (next ranks : List ℕ) (k : ℕ) (t buffer : List ℕ) (held quiet : ℕ) : Type 0 where
  pub releases-none : (p : ℕ) → has quiet p ≡ true → release (rest_in t ranks k) (over ranks next) p (take held buffer) ≡ 0

-- the empty set
pub quiet_none : (next ranks : List ℕ) (k : ℕ) (t buffer : List ℕ) (held : ℕ) → Quiet next ranks k t buffer held 0
quiet_none next ranks k t buffer held = record { releases-none = λ p h. absurd (clash h (has-nothing p)) }

module _ {next ranks : List ℕ} {k : ℕ} {t buffer : List ℕ} {held quiet : ℕ} (known : Quiet next ranks k t buffer held quiet)
    (many : length (take held buffer) ≡ held) (q e at : ℕ) where
  abbrev rest : Rest
  rest = rest_in t ranks k

  abbrev a : Automaton
  a = over ranks next

  abbrev w : List ℕ
  w = take held buffer

  -- an event that leads to a quiet state, as a step would take it
  module _ (h : (eqb (get_or ranks e 0) 0 && has quiet (get_or next (q * 16 + e) 0)) ≡ true) where
    abbrev there : ℕ
    there = get_or next (q * 16 + e) 0

    both : (eqb (get_or ranks e 0) 0 ≡ true) × (has quiet there ≡ true)
    both = and-pair (eqb (get_or ranks e 0) 0) (has quiet there) h

    uncontrollable : controllable a e ≡ false
    uncontrollable = class-rank ranks next e ∙ rw both.0

    none : release rest a there w ≡ 0
    none = known.releases-none there both.1

    alone : effect rest a q w e ≡ record { emitted = e ∷ []; state = there; buffer = w }
    unfolding step
    alone = effect-alone rest a q w e uncontrollable none

    pub quiet_emits : e ∷ [] ≡ (effect rest a q w e).emitted
    quiet_emits = sym (ap (λ (x : Effect). x.emitted) alone)

    pub quiet_steps : buffer ≡ pad 6 w → record { row = 0; state = there; held = held; buffer = buffer; released = 0; written = at + 1 } ≡ stepped rest a q w e at
    unfolding stepped released arrival remaining step
    quiet_steps padded = sym (rw (alone, uncontrollable, none, many, ← padded))

  -- after a step
  module _ (s : Stepped) (es : s ≡ stepped rest a q w e at) where
    abbrev f : Effect
    f = effect rest a q w e

    abbrev set : ℕ
    set = quiet_after quiet held f.state (length f.buffer) (released rest a q w e)

    -- the same events are held
    module _ (same : length f.buffer ≤ held) (none : released rest a q w e ≡ 0) where
      passed : controllable a e ≡ false
      passed =
          by (controllable a e)
          (λ c. absurd (omega (arith, rw c at (emitted_many rest a q w e), effect-length rest a q w e, none, same, many)))
          (λ c. c)

      still : release rest a (step a q e) w ≡ 0
      unfolding arrival released remaining
      still = rw passed at none

      as_before : f ≡ record { emitted = e ∷ []; state = step a q e; buffer = w }
      as_before = effect-alone rest a q w e passed still

      stay_quiet : (p : ℕ) → has (bit_or quiet (2 ^ f.state)) p ≡ true → release rest a p f.buffer ≡ 0
      stay_quiet p h =
          let n : f.buffer ≡ w = ap (λ (x : Effect). x.buffer) as_before in
          let m : f.state ≡ step a q e = ap (λ (x : Effect). x.state) as_before in
          ap (release rest a p) n ∙
          either (or_some (has quiet p) (has (2 ^ f.state) p) (sym (has-or quiet (2 ^ f.state) p) ∙ h))
          (known.releases-none p)
          (λ y. ap (λ j. release rest a j w) (has_one f.state p y ∙ m) ∙ still)

    quiet_then : (p : ℕ) → has set p ≡ true → release rest a p f.buffer ≡ 0
    unfolding quiet_after
    quiet_then p h =
        by (eqb (length f.buffer) 0)
        (λ z. let l = eqb-true (length f.buffer) 0 z in omega (arith, release_le rest a p f.buffer))
        (λ z. by (ltb 0 (released rest a q w e))
        (λ r. absurd (clash (rw (z, r) at h) (has-nothing p)))
        (λ r. by (ltb held (length f.buffer))
        (λ l. absurd (clash (rw (z, r, l) at h) (has-nothing p)))
        (λ l. stay_quiet (ltb-false held (length f.buffer) l) (omega (arith, ltb-false 0 (released rest a q w e) r)) p (rw (z, r, l) at h))))

    pub quiet_goes_on : Quiet next ranks k t s.buffer s.held (quiet_after quiet held s.state s.held s.released)
    unfolding stepped
    quiet_goes_on = rw es (record { releases-none = λ p h. ap (release rest a p) (take-pad 6 f.buffer) ∙ quiet_then p h })
