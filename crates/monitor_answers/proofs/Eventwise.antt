-- A day is its events.
use Prim.Native.Nat.{ℕ}
use mathlib.Core.Path.{◌≡◌, refl, sym, ◌∙◌, ap, ap₂}
use mathlib.Core.Bool.{true}
use mathlib.Core.List.{List, [], ◌∷◌, ◌++◌, map}
use native.Mathlib.Nat.{zero-add}
use native.Mathlib.Omega.{arith}
use lib.ListN.{take}
use lib.Dec.{eqb}
use borrow.Author.Tests.{eqb-true, eqb-false, ne_eqb}
use Rattle.base.specs.Pad.{pad}
use Rattle.base.proofs.Bools.{by}
use Rattle.base.proofs.Padding.{take-pad}
use Rattle.automaton.specs.declared.Automaton.{Automaton}
use Rattle.configuration_places.specs.Places.{input_number}
use Rattle.configuration_places.proofs.Facts.{numbers-places}
use Rattle.configuration.specs.declared.Configuration.{Configuration}
use Rattle.configuration.specs.Configuration.{position_of, configuration, consistent}
use Rattle.configuration.proofs.Facts.{position-made}
use Rattle.monitor_rule.specs.Step.{by_table, effect_from, sources, advance, event_refusal, Run, run_of}
use Rattle.monitor_rule.proofs.Effects.{places_as_worded}
use Rattle.monitor_rule.proofs.Runs.{after, passed, run-accepts, run-refuses}
use Rattle.monitor_answers.specs.declared.Received.{Received}
use Rattle.monitor_answers.specs.Answers.{received, ran, ran_buffer}
use Rattle.monitor_answers.specs.Turns.{turn_refusal, turn_emitted, turn_sources, turn_next}
use Rattle.monitor_answers.specs.Claims.{answers_to, last_after, emitted_in, refused_in, RunsAsEvents}
use Rattle.monitor_answers.proofs.Refusals.{Clear, place}
use Rattle.monitor_answers.proofs.Accepted.{receive_clear, run_clear, received-sources}
use Rattle.monitor_answers.proofs.Turns.{Opened, receive_turns, turn-consistent, turn-unmoved, turn-silent, turn_emits, turn_moves, turn_keeps}

module _ (a : Automaton) (t : List ℕ) (o : Opened a t) where
  -- what a call answers to an event is what comes of it in its turn
  pub same_next : (c : Configuration) (e : ℕ) → turn_next a t c e ≡ (received a t c e).configuration
  unfolding turn_next received
  same_next c e = by (eqb (turn_refusal a t c e) 0) (λ h. rw (receive_turns a t c e o, h)) (λ h. rw (receive_turns a t c e o, h))

  pub same_row : (c : Configuration) (e : ℕ) → turn_refusal a t c e ≡ (received a t c e).refusal
  unfolding received
  same_row c e =
      let n = turn_refusal a t c e in
      by (eqb n 0)
      (λ h. rw (receive_turns a t c e o, h) (eqb-true n 0 h))
      (λ h. rw (receive_turns a t c e o, h))

  pub same-emitted : (c : Configuration) (e : ℕ) → turn_emitted a t c e ≡ take (received a t c e).count (received a t c e).emitted
  unfolding turn_emitted received
  same-emitted c e =
      by (eqb (turn_refusal a t c e) 0)
      (λ h. rw (receive_turns a t c e o, h) (sym (take-pad 7 (effect_from (by_table a t) a (position_of c) e).emitted)))
      (λ h. rw (receive_turns a t c e o, h))

  pub same-sources : (c : Configuration) (e : ℕ)
      → turn_sources a t c e ≡ take (received a t c e).count (map input_number (received a t c e).places)
  unfolding turn_sources received
  same-sources c e =
      let from = sources (by_table a t) a (position_of c) e in
      by (eqb (turn_refusal a t c e) 0)
      (λ h.
      let z = receive_turns a t c e o ∙ eqb-true _ 0 h in
      rw (receive_turns a t c e o, h, numbers-places (pad 7 from), sym (received-sources a t c e (receive_clear a t c e z)))
      (sym (take-pad 7 from)))
      (λ h. rw (receive_turns a t c e o, h))

  abbrev run : Configuration → List ℕ → Run
  run c es = run_of (by_table a t) a (position_of c) es

  record Eventwise (c : Configuration) (es : List ℕ) : Type 0 where
    last : configuration (run c es).last ≡ last_after a t c es
    bytes : (run c es).emitted ≡ emitted_in (answers_to a t c es)
    refused : (run c es).refused ≡ refused_in (answers_to a t c es)

  -- one more event in front
  module _ (c : Configuration) (k : consistent a c ≡ true) (e : ℕ) (es : List ℕ) where
    abbrev r : Received
    r = received a t c e

    row : turn_refusal a t c e ≡ event_refusal (by_table a t) a (position_of c) e
    row = turn-consistent a t c e k

    one-accepted : turn_refusal a t c e ≡ 0 → Eventwise r.configuration es → Eventwise c (e ∷ es)
    unfolding answers_to last_after emitted_in refused_in
    one-accepted z more =
        let p = position_of c in
        let f = effect_from (by_table a t) a p e in
        let stands : Clear a t c = record { record_valid = o.record_valid; table-long = o.table-long; configuration-consistent = k } in
        let each = (places_as_worded (by_table a t) a p e (place a t c stands).placed.each-has).held-have in
        let there : position_of r.configuration ≡ advance (by_table a t) a p e =
        ap position_of (sym (same_next c e) ∙ turn_moves a t c e z) ∙ position-made (advance (by_table a t) a p e) each
        in
        let split : run c (e ∷ es) ≡ after f (run r.configuration es) =
        run-accepts (by_table a t) a p e es (sym row ∙ z) ∙ ap (λ q. after f (run_of (by_table a t) a q es)) (sym there)
        in
        record {
          last = ap (λ x. configuration x.last) split ∙ more.last;
          bytes = ap (λ x. x.emitted) split ∙ ap₂ ◌++◌ (sym (turn_emits a t c e z) ∙ same-emitted c e) more.bytes;
          refused = ap (λ x. x.refused) split ∙ more.refused ∙ rw (sym (same_row c e) ∙ z) (sym (zero-add _));
        }

    one-refused : (turn_refusal a t c e ≡ 0 → ⊥) → Eventwise c es → Eventwise c (e ∷ es)
    unfolding answers_to last_after emitted_in refused_in
    one-refused z more =
        let stays : r.configuration ≡ c = sym (same_next c e) ∙ turn-unmoved a t c e (turn_refusal a t c e) refl z in
        let silent : take r.count r.emitted ≡ [] = sym (same-emitted c e) ∙ turn-silent a t c e (turn_refusal a t c e) refl z in
        let split : run c (e ∷ es) ≡ passed (run c es) = run-refuses (by_table a t) a (position_of c) e es (λ y. z (row ∙ y)) in
        record {
          last = rw stays (ap (λ x. configuration x.last) split ∙ more.last);
          bytes = rw (stays, silent) (ap (λ x. x.emitted) split ∙ more.bytes);
          refused =
              rw (stays, sym (same_row c e), ne_eqb (turn_refusal a t c e) 0 z)
              (ap (λ x. x.refused) split ∙ omega (arith, more.refused));
        }

  eventwise : (es : List ℕ) (c : Configuration) → consistent a c ≡ true → Eventwise c es
  unfolding answers_to last_after emitted_in refused_in run_of
  eventwise [] c k =
      let stands : Clear a t c = record { record_valid = o.record_valid; table-long = o.table-long; configuration-consistent = k } in
      record { last = sym (place a t c stands).whole; bytes = refl; refused = refl }
  eventwise (e ∷ es) c k =
      let n = turn_refusal a t c e in
      let kept : consistent a (received a t c e).configuration ≡ true = rw (← same_next c e) (turn_keeps a t c e o k) in
      by (eqb n 0)
      (λ h. one-accepted c k e es (eqb-true n 0 h) (eventwise es (received a t c e).configuration kept))
      (λ h. one-refused c k e es (eqb-false n 0 h) (eventwise es c k))

pub runs_as_events : RunsAsEvents
unfolding ran ran_buffer
runs_as_events a t c es out z =
    let clear = run_clear a t c es out z in
    let o : Opened a t = record { record_valid = clear.record_valid; table-long = clear.table-long } in
    let k = eventwise a t o es c clear.configuration-consistent in
    record {
      answer = rw (z, k.last, k.bytes, k.refused);
      output = rw (z, k.bytes);
    }
