-- Laws of a list of events, over any rest test.
use Prim.Native.Nat.{ℕ, ◌+◌}
use mathlib.Core.Path.{◌≡◌, refl, sym, ◌∙◌, ap}
use mathlib.Core.List.{List, [], ◌∷◌, ◌++◌}
use lib.Dec.{eqb}
use borrow.Author.Tests.{eqb-true, eqb-false, eq-eqb, ne_eqb}
use Rattle.base.proofs.Bools.{by}
use Rattle.automaton.specs.declared.Automaton.{Automaton}
use Rattle.automaton.specs.Automaton.{reached}
use Rattle.automaton.proofs.Reached.{reached-append}
use Rattle.solver_sets.proofs.Total.{Total}
use Rattle.configuration.specs.Configuration.{Position}
use Rattle.monitor_rule.specs.Step.{Rest, Effect, effect_from, advance, event_refusal, Run, run_of}
use Rattle.monitor_rule.proofs.Effects.{OccursAt, Agree, refusal-same, effect-leads, advance_occurs, effect-agrees, advance-agrees}

-- no event
abbrev pub still : Position → Run
still p = record { emitted = []; refused = 0; last = p }

-- an accepted event before others, and a refused one
abbrev pub after : Effect → Run → Run
after f r = record { emitted = f.emitted ++ r.emitted; refused = r.refused; last = r.last }

abbrev pub passed : Run → Run
passed r = record { emitted = r.emitted; refused = r.refused + 1; last = r.last }

module _ (rest : Rest) (a : Automaton) where
  abbrev went : Position → ℕ → List ℕ → Run
  went p e es = run_of rest a (advance rest a p e) es

  pub run-accepts : (p : Position) (e : ℕ) (es : List ℕ) → event_refusal rest a p e ≡ 0 → run_of rest a p (e ∷ es) ≡ after (effect_from rest a p e) (went p e es)
  unfolding run_of
  run-accepts p e es h = rw (eq-eqb (event_refusal rest a p e) 0 h)

  pub run-refuses : (p : Position) (e : ℕ) (es : List ℕ) → (event_refusal rest a p e ≡ 0 → ⊥) → run_of rest a p (e ∷ es) ≡ passed (run_of rest a p es)
  unfolding run_of
  run-refuses p e es h = rw (ne_eqb (event_refusal rest a p e) 0 h)

  -- what holds of no event and is kept by one more event in front holds of all
  pub run_keeps : (P : Position → List ℕ → Run → Type 0)
      → ((p : Position) → P p [] (still p))
      → ((p : Position) (e : ℕ) (es : List ℕ) (r : Run) → event_refusal rest a p e ≡ 0 → P (advance rest a p e) es r
      → P p (e ∷ es) (after (effect_from rest a p e) r))
      → ((p : Position) (e : ℕ) (es : List ℕ) (r : Run) → (event_refusal rest a p e ≡ 0 → ⊥) → P p es r → P p (e ∷ es) (passed r))
      → (es : List ℕ) (p : Position) → P p es (run_of rest a p es)
  unfolding run_of
  run_keeps P none accept refuse [] p = none p
  run_keeps P none accept refuse (e ∷ es) p =
      by (eqb (event_refusal rest a p e) 0)
      (λ h. rw h (accept p e es (went p e es) (eqb-true (event_refusal rest a p e) 0 h) (run_keeps P none accept refuse es (advance rest a p e))))
      (λ h. rw h (refuse p e es (run_of rest a p es) (eqb-false (event_refusal rest a p e) 0 h) (run_keeps P none accept refuse es p)))

  pub run_occurs : Total a → (es : List ℕ) (p : Position) → OccursAt a p → OccursAt a (run_of rest a p es).last
  run_occurs t =
      run_keeps (λ p es r. OccursAt a p → OccursAt a r.last)
      (λ p o. o)
      (λ p e es r h k o. k (advance_occurs rest a p e t o h))
      (λ p e es r h k o. k o)

  -- what is emitted leads from the state before to the one after
  pub run-leads : (es : List ℕ) (p : Position) → reached a p.state (run_of rest a p es).emitted ≡ (run_of rest a p es).last.state
  unfolding reached
  run-leads =
      run_keeps (λ p es r. reached a p.state r.emitted ≡ r.last.state)
      (λ p. refl)
      (λ p e es r h k.
      reached-append a p.state (effect_from rest a p e).emitted r.emitted ∙
      ap (λ q. reached a q r.emitted) (effect-leads rest a p.state p.buffer e) ∙ k)
      (λ p e es r h k. k)

-- the rest test is asked only where it may be
pub run-same : (rest other : Rest) (a : Automaton) → Agree a rest other → Total a → (es : List ℕ) (p : Position) → OccursAt a p
    → run_of rest a p es ≡ run_of other a p es
unfolding run_of
run-same rest other a agree t =
    run_keeps rest a (λ p es r. OccursAt a p → r ≡ run_of other a p es)
    (λ p o. refl)
    (λ p e es r h k o.
    let f = effect_from rest a p e in
    let same = effect-agrees rest a p e other agree t o h in
    ap (after f) (k (advance_occurs rest a p e t o h)) ∙
    ap (λ g. after g (run_of other a (advance rest a p e) es)) same ∙
    ap (λ x. after (effect_from other a p e) (run_of other a x es)) (advance-agrees rest a p e other same) ∙
    sym (run-accepts other a p e es (sym (refusal-same rest other a p e agree t o.occurs) ∙ h)))
    (λ p e es r h k o.
    ap passed (k o) ∙ sym (run-refuses other a p e es (λ z. h (refusal-same rest other a p e agree t o.occurs ∙ z))))
