-- What a call that no row refuses comes to.
use Prim.Native.Nat.{ℕ, ◌≤◌}
use mathlib.Core.Path.{◌≡◌, sym, ◌∙◌}
use mathlib.Core.Bool.{Bool}
use mathlib.Core.List.{List, ◌++◌}
use native.Mathlib.Omega.{arith}
use lib.Dec.{eqb}
use lib.ListN.{length}
use borrow.Author.Tests.{eqb-true}
use Rattle.base.specs.Rows.{first}
use Rattle.base.specs.Pad.{pad}
use Rattle.base.proofs.Bools.{by}
use Rattle.base.proofs.Refusals.{first_clear}
use Rattle.base.proofs.Padding.{pad-used, zeros-used, take-pad}
use Rattle.automaton.specs.declared.Automaton.{Automaton}
use Rattle.configuration_places.proofs.Facts.{numbers-places}
use Rattle.configuration.specs.declared.Configuration.{Configuration}
use Rattle.configuration.specs.Configuration.{held_events, position_of}
use Rattle.monitor_rule.specs.Step.{by_table, effect_from, sources, event_rows, event_refusal}
use Rattle.monitor_rule.specs.Claims.{Full, Tabled, Opened}
use Rattle.monitor_rule.proofs.Rows.{opens_as_worded}
use Rattle.monitor_rule.proofs.Effects.{OccursAt, consistent_occurs, effect-length, places_as_worded}
use Rattle.monitor_answers.specs.Answers.{call_rows, call_refusal, receive_refusal, received, run_refusal}
use Rattle.monitor_answers.specs.Claims.{EmittedPadded, OpenedAnswers}
use Rattle.monitor_answers.proofs.Refusals.{Clear, clear, place, rows_pass}

module _ (a : Automaton) (t : List ℕ) (c : Configuration) where
  -- where no row stands, none of the first rows does
  pub rows_clear : (rows : List (ℕ × Bool)) → first (call_rows a t c ++ rows) ≡ 0 → Clear a t c
  unfolding call_refusal
  rows_clear rows h = clear a t c (first_clear (call_rows a t c) rows h)

  pub clear_occurs : Clear a t c → OccursAt a (position_of c)
  clear_occurs k = consistent_occurs a c (place a t c k)

  -- an accepted event
  pub receive_clear : (e : ℕ) → receive_refusal a t c e ≡ 0 → Clear a t c
  unfolding receive_refusal
  receive_clear e h = rows_clear (event_rows (by_table a t) a (position_of c) e) h

  pub receive-event : (e : ℕ) → receive_refusal a t c e ≡ 0 → event_refusal (by_table a t) a (position_of c) e ≡ 0
  unfolding receive_refusal event_refusal
  receive-event e h =
      let rows = event_rows (by_table a t) a (position_of c) e in
      let k = rows_clear rows h in
      sym (rows_pass a t c k.record_valid k.table-long k.configuration-consistent rows) ∙ h

  pub run_clear : (es out : List ℕ) → run_refusal a t c es out ≡ 0 → Clear a t c
  unfolding run_refusal
  run_clear es out h = rows_clear _ h

  -- an event emits at most seven symbols
  pub received-few : (e : ℕ) → (received a t c e).count ≤ 7
  unfolding received
  received-few e =
      by (eqb (receive_refusal a t c e) 0)
      (λ h.
      let f = place a t c (receive_clear e (eqb-true _ 0 h)) in
      rw h (omega (arith, effect-length (by_table a t) a c.state (held_events c) e, f.held-length, f.held_small)))
      (λ h. rw h (omega arith))

  -- each symbol has its place in the input
  pub received-sources : (e : ℕ) → Clear a t c
      → length (sources (by_table a t) a (position_of c) e) ≡ length (effect_from (by_table a t) a (position_of c) e).emitted
  received-sources e k = (places_as_worded (by_table a t) a (position_of c) e (place a t c k).placed.each-has).emitted-have

pub emitted-padded : EmittedPadded
unfolding received
emitted-padded a t c e =
    let few = received-few a t c e in
    let from = sources (by_table a t) a (position_of c) e in (
      few,
      by (eqb (receive_refusal a t c e) 0) (λ h. rw h (pad-used 7 _ (rw h at few))) (λ h. rw h (zeros-used 7)),
      by (eqb (receive_refusal a t c e) 0)
          (λ h.
          let same = received-sources a t c e (receive_clear a t c e (eqb-true _ 0 h)) in
          rw (h, numbers-places (pad 7 from)) (rw same at (pad-used 7 from (rw (h, ← same) at few))))
          (λ h. rw h (zeros-used 7)),
    )

-- an event that a full buffer accepts
opened-effect : (a : Automaton) (t : List ℕ) (c : Configuration) (e : ℕ) → receive_refusal a t c e ≡ 0 → Full a (held_events c) e
    → let f = effect_from (by_table a t) a (position_of c) e in
    Opened (Tabled a t) a c.state (held_events c) e f.emitted f.buffer f.state
unfolding by_table
opened-effect a t c e h full = opens_as_worded (by_table a t) a (position_of c) e (receive-event a t c e h) full

pub opened-answers : OpenedAnswers
unfolding received held_events by_table
opened-answers a t c e h full =
    let f = effect_from (by_table a t) a (position_of c) e in
    let o = opened-effect a t c e h full in
    record {
      opened = rw (h, take-pad 7 f.emitted, take-pad 6 f.buffer) o;
      winning = rw h o.rests;
    }
