-- The instances of the claims on lent bytes.
use Prim.Native.Nat.{ℕ, zero, suc, ◌^◌, ◌<◌}
use mathlib.Core.Path.{◌≡◌, refl, ap}
use mathlib.Core.Bool.{true}
use mathlib.Core.List.{[], ◌∷◌}
use native.Mathlib.Omega.{arith}
use lib.ListN.{length, get_or, length-replicate, get_or-map}
use Rattle.base.specs.Pad.{pad}
use Rattle.base.proofs.Every.{Every}
use Rattle.base.proofs.Padding.{pad_every}
use Rattle.automaton.specs.Automaton.{step, shaped, ranged, valid}
use Rattle.configuration_places.specs.Places.{input_place, input_number}
use Rattle.configuration.specs.Configuration.{initial_answer}
use Rattle.c_layout.specs.Offsets.{automaton_size, configuration_size, number_size}
use Rattle.c_layout.specs.Layout.{part, automaton_of, configuration_of, number_of, places_of}
use Rattle.c_layout.specs.Claims.{Bytes, Typed}
use Rattle.monitor_answers.specs.Answers.{received, ran}
use Rattle.c_layout.proofs.Offsets.{offsets_hold}
use Rattle.c_layout.proofs.Trips.{automaton-kept, automaton-bytes-kept, configuration-kept, configuration-bytes-kept, number-kept}
use Rattle.c_layout.proofs.Trips.{left_as_answered, refused-initial_keeps, refused-event_keeps, refused-run_keeps}
use Rattle.c_layout.proofs.Handing.{initial_handed_on, event_handed_on, run_handed_on}
use Rattle.enforcement_bytes.proofs.ByteCalls.{as_by_value, bytes-enforced}
use Rattle.enforcement_cases.specs.Cases.{automaton_w}
use Rattle.enforcement_instances.specs.Statements.{filled, table_w}
use Rattle.enforcement_instances.proofs.Sheets.{valid-w, solved-w, computing}
use Rattle.enforcement_instances.specs.LayoutStatements.{record_w, late_page, any_record, any_bytes, at_zero, signed, long_run, later, says_yes, Placed, Layouts}

shaped-w : shaped automaton_w ≡ true
unfolding shaped automaton_w pad
shaped-w = refl

pub kept-w : automaton_of record_w ≡ automaton_w
kept-w = automaton-kept automaton_w shaped-w

sevens : length any_record ≡ automaton_size
sevens = length-replicate {A = ℕ} automaton_size 7

-- lent bytes of one value are below 256 where that is
low : (x : ℕ) → x < 256 → (n : ℕ) → Bytes (filled n x)
low x l zero i = omega arith
low x l (suc n) zero = l
low x l (suc n) (suc i) = low x l n i

low_any : Bytes any_bytes
low_any = low 7 (omega arith) configuration_size

low_zero : Bytes at_zero
low_zero = low 0 (omega arith) configuration_size

-- the late Page's configuration is as its type has it
place_low : Every (λ n. n < 2 ^ 32) (300 ∷ [])
place_low zero l = omega arith
place_low (suc i) l = absurd (omega arith)

late-places : (i : ℕ) → input_number (get_or late_page.places i (input_place 0)) < 2 ^ 32
late-places i =
    rw (ap input_number (get_or-map input_place (pad 6 (300 ∷ [])) i 0)) (pad_every (λ n. n < 2 ^ 32) 6 (300 ∷ []) (omega arith) place_low i)

typed_late : Typed late_page
unfolding pad
typed_late =
    record {
      buffer-length = refl;
      places-length = refl;
      places-low = late-places;
      received-low = omega arith;
      emitted-low = omega arith;
    }

placed : Placed
unfolding automaton_w pad step
placed =
    let w = offsets_hold.automaton automaton_w shaped-w in
    let c = offsets_hold.configuration late_page refl refl in
    let n = offsets_hold.number 60001 in
    let r = offsets_hold.received signed refl refl in
    let d = offsets_hold.ran long_run [] in
    let v = offsets_hold.verdict later in
    record {
      automaton-size = w.size;
      states = w.states;
      symbols = w.symbols;
      capacity = w.capacity;
      initial = w.initial;
      classes = w.classes 2 (omega arith);
      accepting = w.accepting 1 (omega arith);
      next = w.next 2 3 (omega arith) (omega arith);
      automaton-out = (offsets_hold.automaton-out any_record sevens).capacity;
      configuration-size = c.size;
      state = c.state;
      held = c.held;
      buffer = c.buffer 0 (omega arith);
      place-low-first = ((c.places 0 (omega arith)).low_first 0 (omega arith), (c.places 0 (omega arith)).low_first 1 (omega arith));
      place = (c.places 0 (omega arith)).value (omega arith);
      received-count = c.received.value (omega arith);
      emitted-count = c.emitted.value (omega arith);
      configuration-out = (offsets_hold.configuration-out any_bytes refl low_any).held;
      number-size = n.0;
      number-low-first = n.1.low_first 1 (omega arith);
      number-value = n.1.value (omega arith);
      status-size = (offsets_hold.status says_yes).size;
      status = (offsets_hold.status says_yes).winning.0 refl;
      received-size = r.size;
      emitted = r.emitted 2 (omega arith);
      count = r.count;
      winning = r.winning.0 refl;
      emitted-place = (r.places 0 (omega arith)).value (omega arith);
      emitted-place-low-first = (r.places 2 (omega arith)).low_first 0 (omega arith);
      ran-size = d.size;
      written-low-first = d.written.low_first 1 (omega arith);
      written = d.written.value (omega arith);
      refused = d.refused.value (omega arith);
      verdict-size = v.size;
      may-rest = v.may-rest.1 refl;
      can-rest = v.can-rest.0 refl;
    }

refused_11 : (initial_answer (automaton_of any_record)).refusal ≡ 11
unfolding shaped ranged valid automaton_of part initial_answer
refused_11 = refl

accepted-w : (initial_answer (automaton_of record_w)).refusal ≡ 0
unfolding initial_answer
accepted-w = rw (kept-w, valid-w)

-- the same, of W's record
event-14 : (received automaton_w table_w (configuration_of at_zero) 4).refusal ≡ 14
unfolding computing part configuration_of places_of number_of
event-14 = refl

run-16 : (ran automaton_w table_w (configuration_of at_zero) (0 ∷ []) []).refusal ≡ 16
unfolding computing part configuration_of places_of number_of
run-16 = refl

refused_14 : (received (automaton_of record_w) table_w (configuration_of at_zero) 4).refusal ≡ 14
refused_14 = rw kept-w event-14

refused_16 : (ran (automaton_of record_w) table_w (configuration_of at_zero) (0 ∷ []) []).refusal ≡ 16
refused_16 = rw kept-w run-16

pub layouts : Layouts
unfolding pad
layouts =
    record {
      offsets_hold = placed;
      automaton-kept = kept-w;
      automaton-bytes-kept = automaton-bytes-kept any_record sevens;
      configuration-kept = configuration-kept late_page typed_late;
      configuration-bytes-kept = configuration-bytes-kept any_bytes refl low_any;
      number-kept = number-kept number_size 60001 (omega arith);
      refused-initial_keeps = refused-initial_keeps any_record any_bytes (λ h. omega (arith, refused_11));
      refused-event_keeps = refused-event_keeps record_w table_w at_zero 4 refl low_zero (λ h. omega (arith, refused_14));
      refused-run_keeps = refused-run_keeps record_w table_w at_zero (0 ∷ []) [] refl low_zero (λ h. omega (arith, refused_16));
      initial_handed_on = initial_handed_on record_w any_bytes accepted-w;
      event_handed_on = event_handed_on record_w table_w at_zero 0 refl low_zero;
      run_handed_on = run_handed_on record_w table_w at_zero (0 ∷ 2 ∷ []) (filled 2 9) refl low_zero;
      left_as_answered =
          (left_as_answered.event-refusal signed, left_as_answered.run-refusal long_run (7 ∷ []), left_as_answered.run-output long_run (7 ∷ []));
      as_by_value = λ xs. as_by_value record_w table_w at_zero refl low_zero xs;
      bytes-enforced = λ xs. bytes-enforced record_w table_w any_bytes (rw kept-w valid-w) (rw kept-w solved-w) xs;
    }
