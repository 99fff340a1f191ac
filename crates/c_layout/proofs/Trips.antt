-- Proofs of the layout's claims.
use Prim.Native.Nat.{ℕ, ◌+◌}
use mathlib.Core.Path.{◌≡◌, refl, sym, ◌∙◌, ap}
use mathlib.Core.Bool.{true, ◌&&◌}
use mathlib.Core.List.{List, [], ◌∷◌, ◌++◌}
use native.Mathlib.Omega.{arith}
use lib.ListN.{length, take, drop, take-append-drop, length-drop}
use lib.Seq.{take_at, drop_at, take_all, drop-drop}
use lib.Dec.{eqb}
use borrow.Author.Tests.{eqb-true, ne_eqb}
use Rattle.base.proofs.Bools.{by, and-pair}
use Rattle.automaton.specs.declared.Automaton.{Automaton}
use Rattle.automaton.specs.Automaton.{shaped}
use Rattle.monitor_answers.specs.Answers.{received, receive_refusal, ran, ran_buffer, run_refusal}
use Rattle.configuration.specs.Configuration.{initial_answer}
use Rattle.c_layout.specs.Offsets.{max_states, max_symbols, max_next}
use Rattle.c_layout.specs.Offsets.{automaton_classes, automaton_accepting, automaton_next}
use Rattle.c_layout.specs.Layout.{part, automaton_of, automaton_bytes, configuration_of, configuration_bytes}
use Rattle.c_layout.specs.Layout.{number_bytes, places_bytes}
use Rattle.c_layout.specs.Answers.{received_bytes, ran_bytes}
use Rattle.c_layout.specs.Calls.{initial_bytes, received_left, ran_left, receive_leaves, run_leaves}
use Rattle.c_layout.specs.Claims.{AutomatonKept, AutomatonBytesKept, LeftAsAnswered}
use Rattle.c_layout.specs.Claims.{RefusedInitialKeeps, RefusedEventKeeps, RefusedRunKeeps}
pub use Rattle.c_layout.proofs.Numbers.{number-kept}
pub use Rattle.c_layout.proofs.Configurations.{configuration-kept, configuration-bytes-kept}

-- the arrays of a record, found again behind its four numbers
module _ (a : Automaton) (x : length a.classes ≡ max_symbols) (y : length a.accepting ≡ max_states) (z : length a.next ≡ max_next) where
  behind-classes : drop automaton_accepting (automaton_bytes a) ≡ a.accepting ++ a.next
  unfolding automaton_bytes
  behind-classes = drop_at a.classes (a.accepting ++ a.next) max_symbols x

  classes-found : part automaton_classes max_symbols (automaton_bytes a) ≡ a.classes
  unfolding part automaton_bytes
  classes-found = take_at a.classes (a.accepting ++ a.next) max_symbols x

  accepting-found : part automaton_accepting max_states (automaton_bytes a) ≡ a.accepting
  unfolding part
  accepting-found = ap (take max_states) behind-classes ∙ take_at a.accepting a.next max_states y

  next-found : part automaton_next max_next (automaton_bytes a) ≡ a.next
  unfolding part
  next-found =
      ap (take max_next)
      (sym (drop-drop max_states automaton_accepting (automaton_bytes a)) ∙
      ap (drop max_states) behind-classes ∙
      drop_at a.accepting a.next max_states y) ∙
      take_all max_next a.next (omega arith)

-- the lengths that the arrays' types give
pub shaped_lengths : (a : Automaton) → shaped a ≡ true
    → (length a.classes ≡ max_symbols) × (length a.accepting ≡ max_states) × (length a.next ≡ max_next)
unfolding shaped
shaped_lengths a h =
    let k = and-pair (eqb (length a.classes) 16) (eqb (length a.accepting) 32 && eqb (length a.next) 512) h in
    let l = and-pair (eqb (length a.accepting) 32) (eqb (length a.next) 512) k.1 in
    (eqb-true (length a.classes) 16 k.0, eqb-true (length a.accepting) 32 l.0, eqb-true (length a.next) 512 l.1)

pub automaton-kept : AutomatonKept
unfolding automaton_of automaton_bytes
automaton-kept a h =
    let (x, y, z) = shaped_lengths a h in
    λ i.
    record {
      states = a.states;
      symbols = a.symbols;
      capacity = a.capacity;
      initial = a.initial;
      classes = classes-found a x y z i;
      accepting = accepting-found a x y z i;
      next = next-found a x y z i;
    }

-- the arrays' parts of the bytes behind the four numbers, end to end
parts_joined : (l : List ℕ) → length l ≡ max_symbols + max_states + max_next
    → take max_symbols l ++ (take max_states (drop max_symbols l) ++ take max_next (drop (max_symbols + max_states) l)) ≡ l
parts_joined l h =
    let behind = drop (max_symbols + max_states) l in
    let last : take max_next behind ≡ drop max_states (drop max_symbols l) =
    take_all max_next behind (rw (length-drop (max_symbols + max_states) l) (omega arith)) ∙
    sym (drop-drop max_states max_symbols l) in
    ap (λ r. take max_symbols l ++ (take max_states (drop max_symbols l) ++ r)) last ∙
    ap (λ r. take max_symbols l ++ r) (take-append-drop max_states (drop max_symbols l)) ∙
    take-append-drop max_symbols l

pub automaton-bytes-kept : AutomatonBytesKept
unfolding automaton_of automaton_bytes part
automaton-bytes-kept [] h = absurd (omega arith)
automaton-bytes-kept (n ∷ []) h = absurd (omega arith)
automaton-bytes-kept (n ∷ m ∷ []) h = absurd (omega arith)
automaton-bytes-kept (n ∷ m ∷ b ∷ []) h = absurd (omega arith)
automaton-bytes-kept (n ∷ m ∷ b ∷ q ∷ l) h = ap (λ r. n ∷ m ∷ b ∷ q ∷ r) (parts_joined l (omega arith))

pub initial-written : (record-bytes lent : List ℕ) → (initial_answer (automaton_of record-bytes)).refusal ≡ 0
    → initial_bytes record-bytes lent ≡ configuration_bytes (initial_answer (automaton_of record-bytes)).configuration
unfolding initial_bytes
initial-written record-bytes lent accepted = rw accepted

pub refused-initial_keeps : RefusedInitialKeeps
unfolding initial_bytes
refused-initial_keeps record-bytes lent refused =
    rw (ne_eqb (initial_answer (automaton_of record-bytes)).refusal 0 refused)

pub refused-event_keeps : RefusedEventKeeps
unfolding received receive_leaves received_left received_bytes places_bytes number_bytes
refused-event_keeps record-bytes t c e long low refused =
    by (eqb (receive_refusal (automaton_of record-bytes) t (configuration_of c) e) 0)
    (λ h. absurd (refused (rw h)))
    (λ h. rw h (configuration-bytes-kept c long low, refl))

pub refused-run_keeps : RefusedRunKeeps
unfolding ran ran_buffer run_leaves ran_left ran_bytes number_bytes
refused-run_keeps record-bytes t c events out long low refused =
    by (eqb (run_refusal (automaton_of record-bytes) t (configuration_of c) events out) 0)
    (λ h. absurd (refused (rw h)))
    (λ h. rw h (configuration-bytes-kept c long low, refl, refl))

pub left_as_answered : LeftAsAnswered
unfolding received_left ran_left
left_as_answered =
    record {
      event-refusal = λ r. refl;
      event-configuration = λ r. refl;
      run-refusal = λ r out. refl;
      run-configuration = λ r out. refl;
      run-output = λ r out. refl;
    }
