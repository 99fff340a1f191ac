-- The ways out of writing.
use Prim.Native.Nat.{ℕ, ◌+◌, ◌*◌, ◌<◌, ◌≤◌}
use mathlib.Core.Path.{◌≡◌, refl, sym, ◌∙◌, ap}
use mathlib.Core.Bool.{true, false}
use mathlib.Core.List.{List}
use native.Mathlib.Nat.{zero-add}
use native.Mathlib.Omega.{arith}
use lib.ListN.{length}
use lib.Seq.{sets, sets-eq}
use lib.Dec.{eqb}
use borrow.Author.Tests.{lt-ltb, le-ltb}
use Rattle.base.specs.Rows.{first}
use Rattle.automaton.specs.declared.Automaton.{Automaton}
use Rattle.automaton.specs.Automaton.{valid}
use Rattle.automaton_format.specs.Writing.{record_numbers, record_bytes, write_refusal, write_answer, write_buffer}
use Rattle.automaton.proofs.Facts.{valid_facts}
use Rattle.automaton_format.proofs.Encoded.{encoded-small}
use Rattle.automaton_format.proofs.Trips.{numbers-small}
use Rattle.automaton_format.proofs.Storing.{numbers-length}

module _ (a : Automaton) (out : List ℕ) where
  refuses : (n : ℕ) → write_refusal a out ≡ n → eqb n 0 ≡ false → (record { refusal = n; length = 0 } ≡ write_answer a out) × (out ≡ write_buffer a out)
  unfolding write_answer write_buffer
  refuses n e z = (rw (e, z), rw (e, z))

  pub write_invalid : valid a ≡ false → (record { refusal = 11; length = 0 } ≡ write_answer a out) × (out ≡ write_buffer a out)
  unfolding write_refusal first
  write_invalid h = refuses 11 (rw h) refl

  module _ (h : valid a ≡ true) where
    pub record-bytes : record_bytes a ≡ record_numbers a
    unfolding record_bytes
    record-bytes = encoded-small (record_numbers a) (numbers-small a (valid_facts a h))

    total : ℕ
    total = 4 + a.symbols + a.states + a.states * a.symbols

    bytes-length : length (record_bytes a) ≡ total
    unfolding total
    bytes-length = ap length record-bytes ∙ numbers-length a (valid_facts a h)

    pub write_short : length out < 4 + a.symbols + a.states + a.states * a.symbols
        → (record { refusal = 16; length = 0 } ≡ write_answer a out) × (out ≡ write_buffer a out)
    unfolding write_refusal first total
    write_short l =
        let k : length out < length (record_bytes a) = rw bytes-length l in
        refuses 16 (rw (h, lt-ltb (length out) (length (record_bytes a)) k)) refl

    pub write_fits : 4 + a.symbols + a.states + a.states * a.symbols ≤ length out
        → (record { refusal = 0; length = 4 + a.symbols + a.states + a.states * a.symbols } ≡ write_answer a out)
        × (sets out 0 (record_numbers a) ≡ write_buffer a out)
    unfolding write_refusal first write_answer write_buffer total
    write_fits l =
        let k : length (record_bytes a) ≤ length out = rw bytes-length l in
        let e : write_refusal a out ≡ 0 = rw (h, le-ltb (length out) (length (record_bytes a)) k) in
        let j : 0 + length (record_bytes a) ≤ length out = omega arith in (
          rw (e, bytes-length),
          ap (λ x. sets out 0 x) (sym record-bytes) ∙ sets-eq (record_bytes a) out 0 j ∙ rw (e, zero-add (length (record_bytes a))),
        )
