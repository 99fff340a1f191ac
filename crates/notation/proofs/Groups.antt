-- Laws of writing one number's groups.
use Prim.Native.Nat.{ℕ, ◌+◌, ◌-◌, ◌<◌, ◌≤◌}
use mathlib.Core.Path.{◌≡◌, refl, sym, ◌∙◌, ap}
use mathlib.Core.List.{List, [], ◌++◌, append_assoc, append-nil}
use native.Mathlib.Nat.{zero-add}
use native.Mathlib.Omega.{arith}
use lib.ListN.{length, take, drop, length-drop, drop_of_length-le}
use lib.Seq.{sets-eq, drop-drop}
use borrow.Rule.Slice.PartMut.{put_mid}
use Rattle.std.specs.Prelude.{Option, Some, None, unwrap_or}
use Rattle.varint.specs.Varint.{bytes, count, written, written_length}
use Rattle.varint.proofs.Laws.{room}
use Rattle.text.specs.Decimal.{Appended}
use Rattle.notation.proofs.Finding.{rest}
use Rattle.notation.proofs.Readings.{bytes_most}

-- how many bytes were written, 0 where that is not said
pub counted : (r : Option ℕ) → unwrap_or r 0 ≡ count r
counted (Some n) = refl
counted None = refl

module _ (v : ℕ) (small : v < 2097152) where
  pub groups-counted : (out : List ℕ) {n : ℕ} → length out ≡ 3 → n ≡ written_length out v → n ≡ length (bytes v)
  groups-counted out l e = e ∙ sym (room out v (bytes v) refl small (omega (arith, bytes_most v small))).0

  -- into the part of a buffer from a place on
  pub groups-stored : (out : List ℕ) (at : ℕ) (part : List ℕ) (n : ℕ) → at + length (bytes v) ≤ length out
      → n ≡ written_length (take (length out - at) (drop at out)) v
      → part ≡ written (take (length out - at) (drop at out)) v
      → Appended out at (bytes v) (put_mid at (length out - at) out part) (at + n)
  groups-stored out at part n h e f =
      let all = rest out at in
      let none : drop (length out - at) (drop at out) ≡ [] = drop_of_length-le (drop at out) {i = length out - at} (omega (arith, length-drop at out)) in
      let r = room (drop at out) v (bytes v) refl small (omega (arith, length-drop at out)) in
      let count : n ≡ length (bytes v) = e ∙ ap (λ l. written_length l v) all ∙ sym r.0 in
      let held : part ≡ bytes v ++ drop (at + length (bytes v)) out =
      f ∙ ap (λ l. written l v) all ∙ sym r.2 ∙ sets-eq (bytes v) (drop at out) 0 (omega (arith, length-drop at out)) ∙
      ap (λ l. bytes v ++ l) (ap (λ k. drop k (drop at out)) (zero-add (length (bytes v))) ∙ drop-drop (length (bytes v)) at out) in
      record {
        content =
            ap (λ l. take at out ++ l) (ap (λ l. part ++ l) none ∙ append-nil part ∙ held) ∙
            sym (append_assoc (take at out) (bytes v) (drop (at + length (bytes v)) out)) ∙
            sym (sets-eq (bytes v) out at h);
        place = omega arith;
        inside = omega arith;
      }
