-- Laws of what the programs write.
use Prim.Native.Nat.{ℕ, ◌<◌, ◌≤◌}
use mathlib.Core.Path.{◌≡◌, refl, sym, ◌∙◌, ap}
use mathlib.Core.List.{List, []}
use native.Mathlib.Omega.{arith}
use lib.ListN.{length}
use borrow.Author.Tests.{lt-ltb, le-ltb, le-leb}
use Rattle.varint.specs.Claims.{AreBytes}
use Rattle.text.specs.Decimal.{ascii, Appended}
use Rattle.text.proofs.Appending.{nothing}
use Rattle.text_lines.specs.Lines.{fault_line, refusal_line}
use Rattle.notation.specs.declared.PackError.{PackError}
use Rattle.notation.specs.declared.PackError.TheVariants.{Faulty, NoRoom}
use Rattle.notation.specs.Results.{as_error}
use Rattle.notation.specs.Outcomes.{numbers}
use Rattle.notation.specs.Packing.{Packed, reading, encoded, done, no_room, refused, packed, packed_buffer}
use Rattle.notation.proofs.Outcomes.{split, placed-stored}
use Rattle.notation.proofs.Checks.{reading_proper}
use Rattle.notation.proofs.Laws.{never_longer, room_in_text}
use Rattle.notation_unpack.specs.Unpacking.{Unpacked, decoded, line_of, unpacked, unpacked_buffer, done as written, refused as row-refused}
use Rattle.notation_unpack.proofs.Decoding.{decoded_proper}
use Rattle.notation_unpack.proofs.Trips.{line-bounded}
use Rattle.notation_faults.specs.Messages.{message, said as saying}
use Rattle.notation_programs.specs.Outputs.{packed_bytes, pack_output, fault_note, pack_note, line_text, unpack_output, row_note, unpack_note}

-- a text that is too long
module _ (s : List ℕ) (h : 262144 < length s) where
  pub pack_long-output : pack_output s ≡ []
  unfolding pack_output
  pack_long-output = rw (lt-ltb 262144 (length s) h)

  pub pack_long-note : ascii "more than 262144 bytes of text\n" ≡ pack_note s
  unfolding pack_note
  pack_long-note = rw (lt-ltb 262144 (length s) h)

-- one that is not
module _ (s out : List ℕ) (h : length s ≤ 262144) (l : length out ≡ 262144) (p : Packed) (e : p ≡ packed (reading s) out) where
  abbrev Room : Packed → Type 0
  Room a = (a.from ≤ a.to) × (a.to ≤ length s)

  pub pack_part : Room p
  unfolding packed refused done
  pack_part =
      split (reading s)
      (λ vs q. rw (e, room_in_text s vs out q (omega arith)) (omega arith, omega arith))
      (λ y q. let x = reading_proper s y.0 y.1 q in rw (e, q) (x.order, x.inside))

  pub pack-note : message s p ≡ pack_note s
  unfolding packed pack_note fault_note message saying done
  pack-note =
      split (reading s)
      (λ vs q. rw (le-ltb 262144 (length s) h, e, room_in_text s vs out q (omega arith), q))
      (λ y q. rw (le-ltb 262144 (length s) h, e, q))

  pub pack_stored : {out' : List ℕ} → out' ≡ packed_buffer (reading s) out → Appended out 0 (pack_output s) out' p.length
  unfolding packed packed_buffer pack_output packed_bytes refused done
  pack_stored f =
      split (reading s)
      (λ vs q.
      let few : length (encoded vs) ≤ length out = omega (arith, never_longer s vs q) in
      rw (f, e, le-ltb 262144 (length s) h, q, le-leb (length (encoded vs)) (length out) few) (placed-stored (encoded vs) out few))
      (λ y q. rw (f, e, le-ltb 262144 (length s) h, q) (nothing out))

  -- .. which is packed, or is not
  pub done_stored : (n : ℕ) → p ≡ done n → {out' : List ℕ} → out' ≡ packed_buffer (reading s) out → Appended out 0 (pack_output s) out' n
  unfolding done
  done_stored n f {out'} g =
      let x : Appended out 0 (pack_output s) out' p.length = pack_stored g in
      rw (ap (λ q. q.length) f) at x

  pub done_silent : (n : ℕ) → p ≡ done n → [] ≡ pack_note s
  unfolding message saying done
  done_silent n f = sym (ap (message s) f) ∙ pack-note

  error_length : (x : PackError) → (as_error x).length ≡ 0
  unfolding no_room
  error_length (Faulty y) = refl
  error_length NoRoom = refl

  pub error_stored : (x : PackError) → p ≡ as_error x → {out' : List ℕ} → out' ≡ packed_buffer (reading s) out
      → Appended out 0 (pack_output s) out' 0
  error_stored x f {out'} g =
      let y : Appended out 0 (pack_output s) out' p.length = pack_stored g in
      rw (ap (λ q. q.length) f ∙ error_length x) at y

  pub error_said : (x : PackError) → p ≡ as_error x → message s (as_error x) ≡ pack_note s
  error_said x f = sym (ap (message s) f) ∙ pack-note

-- bytes that are too many
module _ (s : List ℕ) (h : 60000 < length s) where
  pub unpack_long-output : unpack_output s ≡ []
  unfolding unpack_output
  unpack_long-output = rw (lt-ltb 60000 (length s) h)

  pub unpack_long-note : refusal_line 18 ≡ unpack_note s
  unfolding unpack_note
  unpack_long-note = rw (lt-ltb 60000 (length s) h)

-- .. and some that are not
module _ (s out : List ℕ) (h : length s ≤ 60000) (l : length out ≡ 240000) (d : AreBytes s) (p : Unpacked) (e : p ≡ unpacked (decoded s) out) where
  few : (vs : List ℕ) → decoded s ≡ numbers vs → length (line_of vs) ≤ length out
  few vs q = omega (arith, line-bounded s vs d q)

  pub unpack-note : (p.refusal ≡ 0 → ⊥) → fault_line p.refusal p.place ≡ unpack_note s
  unfolding unpacked unpack_note row_note row-refused written
  unpack-note z =
      split (decoded s)
      (λ vs q. absurd (z (ap (λ a. a.refusal) e ∙ rw (q, le-leb (length (line_of vs)) (length out) (few vs q)))))
      (λ y q. rw (le-ltb 60000 (length s) h, e, q))

  pub unpack_no_note : p.refusal ≡ 0 → unpack_note s ≡ []
  unfolding unpacked unpack_note row_note row-refused
  unpack_no_note z =
      split (decoded s)
      (λ vs q. rw (le-ltb 60000 (length s) h, q))
      (λ y q. absurd (decoded_proper s y.0 y.1 q (sym (ap (λ a. a.refusal) (e ∙ ap (λ r. unpacked r out) q)) ∙ z)))

  pub unpack_stored : {out' : List ℕ} → out' ≡ unpacked_buffer (decoded s) out → Appended out 0 (unpack_output s) out' p.length
  unfolding unpacked unpacked_buffer unpack_output line_text row-refused written
  unpack_stored f =
      split (decoded s)
      (λ vs q.
      rw (f, e, le-ltb 60000 (length s) h, q, le-leb (length (line_of vs)) (length out) (few vs q)) (placed-stored (line_of vs) out (few vs q)))
      (λ y q. rw (f, e, le-ltb 60000 (length s) h, q) (nothing out))

  -- .. which are unpacked, or are not
  pub line_stored : (n : ℕ) → p ≡ written n → {out' : List ℕ} → out' ≡ unpacked_buffer (decoded s) out → Appended out 0 (unpack_output s) out' n
  unfolding written
  line_stored n f {out'} g =
      let x : Appended out 0 (unpack_output s) out' p.length = unpack_stored g in
      rw (ap (λ q. q.length) f) at x

  pub line_silent : (n : ℕ) → p ≡ written n → [] ≡ unpack_note s
  unfolding written
  line_silent n f = sym (unpack_no_note (ap (λ q. q.refusal) f))

  module _ (row place : ℕ) (f : p ≡ row-refused row place) where
    pub fault_stored : {out' : List ℕ} → out' ≡ unpacked_buffer (decoded s) out → Appended out 0 (unpack_output s) out' 0
    unfolding row-refused
    fault_stored {out'} g =
        let x : Appended out 0 (unpack_output s) out' p.length = unpack_stored g in
        rw (ap (λ q. q.length) f) at x

    pub fault_said : (row ≡ 0 → ⊥) → fault_line row place ≡ unpack_note s
    unfolding row-refused
    fault_said z = sym (ap (λ q. fault_line q.refusal q.place) f) ∙ unpack-note (λ e. z (sym (ap (λ q. q.refusal) f) ∙ e))
