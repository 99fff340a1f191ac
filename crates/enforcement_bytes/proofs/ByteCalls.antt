-- Proofs by induction over the calls.
use Prim.Native.Nat.{ℕ}
use mathlib.Core.Path.{◌≡◌, refl, ◌∙◌, ap, ap₂}
use mathlib.Core.Bool.{true}
use mathlib.Core.List.{List, [], ◌∷◌, map}
use Rattle.automaton.specs.Automaton.{valid}
use Rattle.configuration.specs.Configuration.{initial_answer}
use Rattle.enforcement.specs.Calls.{Call, receive_call, run_call, handed_back, reply, replies}
use Rattle.enforcement.proofs.Demand3.{demand3}
use Rattle.c_layout.specs.Layout.{automaton_of, configuration_of}
use Rattle.c_layout.specs.Claims.{Typed}
use Rattle.c_layout.specs.Calls.{initial_bytes, receive_leaves, run_leaves}
use Rattle.c_layout.proofs.Configurations.{typed_out}
use Rattle.c_layout.proofs.Handing.{initial_typed, event_typed, run_typed, initial_handed_on, event_hands_on, run_hands_on}
use Rattle.enforcement_bytes.specs.ByteCalls.{laid, leaves, leaves_all, AsByValue, BytesEnforced}

module _ (record-bytes t : List ℕ) where
  by_value : (c : List ℕ) (x : Call) → leaves record-bytes t c x ≡ laid (reply (automaton_of record-bytes) t (configuration_of c) x)
  unfolding leaves receive_leaves run_leaves laid reply
  by_value c (receive_call e) = refl
  by_value c (run_call es out) = refl

  -- what is taken out of the lent bytes is as its type has it: so it stays, and the next call is
  -- given what this one handed back
  handed_on : (c : List ℕ) → Typed (configuration_of c) → (x : Call)
      → configuration_of (leaves record-bytes t c x).configuration ≡ handed_back (reply (automaton_of record-bytes) t (configuration_of c) x)
  unfolding leaves reply handed_back
  handed_on c typed (receive_call e) = event_hands_on record-bytes t c typed e
  handed_on c typed (run_call es out) = run_hands_on record-bytes t c typed es out

  typed_back : (c : List ℕ) → Typed (configuration_of c) → (x : Call)
      → Typed (handed_back (reply (automaton_of record-bytes) t (configuration_of c) x))
  unfolding reply handed_back
  typed_back c typed (receive_call e) = event_typed (automaton_of record-bytes) t (configuration_of c) typed e
  typed_back c typed (run_call es out) = run_typed (automaton_of record-bytes) t (configuration_of c) typed es out

  typed_after : (c : List ℕ) → Typed (configuration_of c) → (x : Call) → Typed (configuration_of (leaves record-bytes t c x).configuration)
  typed_after c typed x = rw (handed_on c typed x) (typed_back c typed x)

  all-by_value : (calls : List Call) (c : List ℕ) → Typed (configuration_of c)
      → leaves_all record-bytes t c calls ≡ map laid (replies (automaton_of record-bytes) t (configuration_of c) calls)
  unfolding leaves_all replies
  all-by_value [] c typed = refl
  all-by_value (x ∷ xs) c typed =
      ap₂ ◌∷◌ (by_value c x)
      (all-by_value xs (leaves record-bytes t c x).configuration (typed_after c typed x) ∙
      ap (λ y. map laid (replies (automaton_of record-bytes) t y xs)) (handed_on c typed x))

pub as_by_value : AsByValue
as_by_value record-bytes t c long low calls = all-by_value record-bytes t calls c (typed_out c long low)

-- the record is accepted, and what stands then in the lent bytes is the initial configuration
pub accepted : (record-bytes : List ℕ) → valid (automaton_of record-bytes) ≡ true
    → (initial_answer (automaton_of record-bytes)).refusal ≡ 0
unfolding initial_answer
accepted record-bytes v = rw v

pub bytes-enforced : BytesEnforced
bytes-enforced record-bytes t lent v s calls =
    let a = automaton_of record-bytes in
    let begins = initial_handed_on record-bytes lent (accepted record-bytes v) in (
      all-by_value record-bytes t calls (initial_bytes record-bytes lent) (rw begins (initial_typed a v)) ∙
          ap (λ c. map laid (replies a t c calls)) begins,
      demand3 a t v s calls,
    )
