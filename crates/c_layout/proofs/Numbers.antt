-- Parts of bytes; numbers in bytes, low byte first, over any width; and places, one behind the
-- other.
use Prim.Native.Nat.{ℕ, zero, suc, ◌+◌, ◌*◌, ◌/◌, ◌%◌, ◌^◌, ◌<◌, ◌≤◌}
use mathlib.Core.Path.{◌≡◌, refl, sym, ◌∙◌, ap}
use mathlib.Core.List.{List, [], ◌∷◌, ◌++◌, append_assoc}
use native.Mathlib.Nat.{div-one, div-div-eq-div-mul, mul_comm, pow-suc}
use native.Mathlib.Omega.{arith}
use lib.ListN.{length, get_or, take, drop, length-append, length-take, length-drop, get_or-append, get_or-eq_default}
use lib.Seq.{length-take-le, get_or-take, get_or-drop, get_or-append-add, take_at, drop_at, take-add, drop-drop}
use lib.Dec.{ltb}
use borrow.Author.Tests.{ltb-true, ltb-false}
use Rattle.base.proofs.Bools.{by}
use Rattle.c_layout.specs.Offsets.{place_size}
use Rattle.c_layout.specs.Layout.{byte_at, part, number_bytes, number_of, places_bytes, places_of}
use Rattle.c_layout.specs.Claims.{Bytes, NumberKept}

-- a part of bytes
module _ (at n : ℕ) (bytes : List ℕ) where
  pub part_length : at + n ≤ length bytes → length (part at n bytes) ≡ n
  unfolding part
  part_length h = length-take-le n (drop at bytes) (rw (length-drop at bytes) (omega arith))

  pub part_byte : (i : ℕ) → i < n → byte_at bytes (at + i) ≡ byte_at (part at n bytes) i
  unfolding part
  part_byte i h = sym (get_or-take n (drop at bytes) i 0 h ∙ get_or-drop at bytes i 0)

  part_beyond : (i : ℕ) → n ≤ i → byte_at (part at n bytes) i ≡ 0
  unfolding part
  part_beyond i h = get_or-eq_default (take n (drop at bytes)) 0 (omega (arith, length-take n (drop at bytes)))

  pub part_bytes : Bytes bytes → Bytes (part at n bytes)
  part_bytes low i =
      by (ltb i n)
      (λ u. rw (sym (part_byte i (ltb-true i n u))) (low (at + i)))
      (λ u. rw (part_beyond i (ltb-false i n u)) (omega arith))

  -- and the part behind it
  pub part_join : (m : ℕ) → part at n bytes ++ part (at + n) m bytes ≡ part at (n + m) bytes
  unfolding part
  part_join m =
      ap (λ l. take n (drop at bytes) ++ take m l) (sym (drop-drop n at bytes)) ∙ sym (take-add n m (drop at bytes))

-- the bytes of a number
pub number-length : (width v : ℕ) → length (number_bytes width v) ≡ width
unfolding number_bytes
number-length zero v = refl
number-length (suc width) v = ap suc (number-length width _)

pub number_byte : (width i v : ℕ) → i < width → byte_at (number_bytes width v) i ≡ v / 256 ^ i % 256
unfolding number_bytes
number_byte zero i v h = absurd (omega arith)
number_byte (suc width) zero v h = ap (λ x. x % 256) (sym (div-one v))
number_byte (suc width) (suc i) v h =
    number_byte width i (v / 256) (omega arith) ∙
    ap (λ x. x % 256) (div-div-eq-div-mul v 256 (256 ^ i) ∙ ap (λ x. v / x) (mul_comm 256 (256 ^ i) ∙ sym (pow-suc 256 i)))

-- a number comes back from its bytes, and bytes from the number that they make, which is as small
-- as they are few
pub number-kept : NumberKept
unfolding number_of number_bytes
number-kept zero v h = omega arith
number-kept (suc width) v h = omega (arith, number-kept width (v / 256) (omega arith))

pub number-again : (bytes : List ℕ) → Bytes bytes → number_bytes (length bytes) (number_of bytes) ≡ bytes
unfolding number_of number_bytes
number-again [] low = refl
number-again (b ∷ bytes) low =
    let l : b < 256 = low 0 in
    let n = number_of bytes in
    let first : (b + 256 * n) % 256 ≡ b = omega arith in
    let later : (b + 256 * n) / 256 ≡ n = omega arith in
    rw (first, later) (ap (λ x. b ∷ x) (number-again bytes (λ i. low (suc i))))

pub number_low : (bytes : List ℕ) → Bytes bytes → number_of bytes < 256 ^ length bytes
unfolding number_of
number_low [] low = omega arith
number_low (b ∷ bytes) low =
    let l : b < 256 = low 0 in
    omega (arith, number_low bytes (λ i. low (suc i)), pow-suc 256 (length bytes))

-- A number lies at a place: its bytes, low byte first, and its value, where they are enough for
-- it.
pub record Lies (width v place : ℕ) (bytes : List ℕ) : Type 0 where
  pub low_first : (i : ℕ) → i < width → byte_at bytes (place + i) ≡ v / 256 ^ i % 256
  pub value : v < 256 ^ width → number_of (part place width bytes) ≡ v

-- behind other bytes and before others
pub lies_between : (width v : ℕ) (front later : List ℕ) → Lies width v (length front) (front ++ (number_bytes width v ++ later))
unfolding part
lies_between width v front later =
    let own = number_bytes width v in
    let long : length own ≡ width = number-length width v in
    record {
      low_first = λ i h.
          get_or-append-add front (own ++ later) i 0 ∙
          get_or-append own later 0 i (omega arith) ∙
          number_byte width i v h;
      value = λ h.
          ap (λ l. number_of (take width l)) (drop_at front (own ++ later) (length front) refl) ∙
          ap number_of (take_at own later width long) ∙
          number-kept width v h;
    }

-- the number that a part of bytes makes
module _ (at width : ℕ) (bytes : List ℕ) (fits : at + width ≤ length bytes) (low : Bytes bytes) where
  abbrev v : ℕ
  v = number_of (part at width bytes)

  pub part-again : number_bytes width v ≡ part at width bytes
  part-again = rw (part_length at width bytes fits) at (number-again (part at width bytes) (part_bytes at width bytes low))

  pub part_low : v < 256 ^ width
  part_low = rw (part_length at width bytes fits) at (number_low (part at width bytes) (part_bytes at width bytes low))

  pub part_lies : Lies width v at bytes
  part_lies =
      record {
        low_first = λ i h. part_byte at width bytes i h ∙ ap (λ l. byte_at l i) (sym part-again) ∙ number_byte width i v h;
        value = λ _. refl;
      }

-- the bytes of places
pub places-length : (ns : List ℕ) → length (places_bytes ns) ≡ length ns * place_size
unfolding places_bytes
places-length [] = refl
places-length (n ∷ ns) =
    omega (arith, length-append (number_bytes place_size n) (places_bytes ns), number-length place_size n, places-length ns)

-- each of them, behind other bytes and before others
pub place_lies : (ns front later : List ℕ) (i : ℕ) → i < length ns
    → Lies place_size (get_or ns i 0) (length front + i * place_size) (front ++ (places_bytes ns ++ later))
unfolding places_bytes
place_lies [] front later i l = absurd (omega arith)
place_lies (n ∷ ns) front later zero l =
    let e : length front + 0 * place_size ≡ length front = omega arith in
    rw (e, append_assoc (number_bytes place_size n) (places_bytes ns) later)
    (lies_between place_size n front (places_bytes ns ++ later))
place_lies (n ∷ ns) front later (suc i) l =
    let own = number_bytes place_size n in
    let e : length front + suc i * place_size ≡ length (front ++ own) + i * place_size =
    omega (arith, length-append front own, number-length place_size n) in
    rw (e, append_assoc own (places_bytes ns) later, sym (append_assoc front own (places_bytes ns ++ later)))
    (place_lies ns (front ++ own) later i (omega arith))

-- places out of bytes
pub places_many : (count at : ℕ) (bytes : List ℕ) → length (places_of count at bytes) ≡ count
unfolding places_of
places_many zero at bytes = refl
places_many (suc count) at bytes = ap suc (places_many count (at + place_size) bytes)

pub place_out : (count at : ℕ) (bytes : List ℕ) (i : ℕ) → i < count
    → get_or (places_of count at bytes) i 0 ≡ number_of (part (at + i * place_size) place_size bytes)
unfolding places_of
place_out zero at bytes i l = absurd (omega arith)
place_out (suc count) at bytes zero l =
    let e : at ≡ at + 0 * place_size = omega arith in
    ap (λ k. number_of (part k place_size bytes)) e
place_out (suc count) at bytes (suc i) l =
    let e : at + place_size + i * place_size ≡ at + suc i * place_size = omega arith in
    place_out count (at + place_size) bytes i (omega arith) ∙ ap (λ k. number_of (part k place_size bytes)) e

pub places-again : (count at : ℕ) (bytes : List ℕ) → at + count * place_size ≤ length bytes → Bytes bytes
    → places_bytes (places_of count at bytes) ≡ part at (count * place_size) bytes
unfolding places_of places_bytes part
places-again zero at bytes h low = refl
places-again (suc count) at bytes h low =
    let e : place_size + count * place_size ≡ suc count * place_size = omega arith in
    ap (λ l. l ++ places_bytes (places_of count (at + place_size) bytes)) (part-again at place_size bytes (omega arith) low) ∙
    ap (λ l. part at place_size bytes ++ l) (places-again count (at + place_size) bytes (omega arith) low) ∙
    part_join at place_size bytes (count * place_size) ∙
    ap (λ k. part at k bytes) e
