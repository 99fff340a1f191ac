-- The configuration in its bytes: what stands where, into bytes and out of them.
use Prim.Native.Nat.{ℕ, ◌+◌, ◌*◌, ◌^◌, ◌<◌}
use mathlib.Core.Path.{◌≡◌, refl, sym, ◌∙◌, ap}
use mathlib.Core.List.{List, [], ◌∷◌, ◌++◌, map, append-nil, append_assoc}
use native.Mathlib.Omega.{arith}
use lib.ListN.{length, get_or, length-append, length-map, get_or-append, get_or-map, get_or-eq_default}
use lib.Seq.{ext_get_or, take_all, get_or-append-add}
use lib.Dec.{ltb}
use borrow.Author.Tests.{ltb-true, ltb-false}
use Rattle.base.proofs.Bools.{by}
use Rattle.configuration_places.specs.declared.InputPlace.{InputPlace}
use Rattle.configuration_places.specs.Places.{input_place, input_number, output_place, output_number}
use Rattle.configuration_places.proofs.Facts.{numbers-places, places-numbers}
use Rattle.configuration.specs.declared.Configuration.{Configuration}
use Rattle.c_layout.specs.Offsets.{max_capacity, place_size, configuration_size, configuration_buffer}
use Rattle.c_layout.specs.Offsets.{configuration_places, configuration_received, configuration_emitted}
use Rattle.c_layout.specs.Layout.{byte_at, part, number_bytes, number_of, places_bytes, places_of}
use Rattle.c_layout.specs.Layout.{configuration_of, configuration_bytes}
use Rattle.c_layout.specs.Claims.{Bytes, Typed, PlaceAt, ConfigurationIn, ConfigurationKept, ConfigurationBytesKept}
use Rattle.c_layout.proofs.Numbers.{part_length, part_byte, part_join, part-again, part_low, part_lies}
use Rattle.c_layout.proofs.Numbers.{number-length, Lies, lies_between}
use Rattle.c_layout.proofs.Numbers.{places-length, place_lies, places_many, place_out, places-again}

-- a number of the width of a place
pub place_of : (v place : ℕ) (bytes : List ℕ) → Lies place_size v place bytes → PlaceAt v place bytes
place_of v place bytes l = record { low_first = l.low_first; value = l.value }

-- one of places that stand behind other bytes and before others
pub place_in : (ps : List InputPlace) (front later : List ℕ) (i : ℕ) → i < length ps
    → PlaceAt (input_number (get_or ps i (input_place 0))) (length front + i * place_size)
    (front ++ (places_bytes (map input_number ps) ++ later))
place_in ps front later i l =
    let long = length-map ps input_number in
    rw (sym (get_or-map input_number ps i (input_place 0)))
    (place_of _ _ _ (place_lies (map input_number ps) front later i (omega arith)))

pub places-size : (ps : List InputPlace) → length (places_bytes (map input_number ps)) ≡ length ps * place_size
places-size ps = places-length (map input_number ps) ∙ ap (λ n. n * place_size) (length-map ps input_number)

-- into bytes
module _ (c : Configuration) (six : length c.buffer ≡ max_capacity) (many : length c.places ≡ max_capacity) where
  abbrev head : List ℕ
  head = c.state ∷ c.held ∷ []

  abbrev places : List ℕ
  places = places_bytes (map input_number c.places)

  abbrev received : List ℕ
  received = number_bytes place_size (input_number c.received)

  abbrev emitted : List ℕ
  emitted = number_bytes place_size (output_number c.emitted)

  -- what stands before each part
  abbrev to_places : List ℕ
  to_places = head ++ c.buffer

  abbrev to_received : List ℕ
  to_received = to_places ++ places

  abbrev to_emitted : List ℕ
  to_emitted = to_received ++ received

  at_places : length to_places ≡ configuration_places
  at_places = omega arith

  at-received : length to_received ≡ configuration_received
  at-received = length-append to_places places ∙ omega (arith, places-size c.places)

  at-emitted : length to_emitted ≡ configuration_emitted
  at-emitted =
      length-append to_received received ∙ omega (arith, at-received, number-length place_size (input_number c.received))

  -- the bytes by these parts
  from_received : to_received ++ (received ++ emitted) ≡ configuration_bytes c
  unfolding configuration_bytes
  from_received = append_assoc to_places places (received ++ emitted)

  from_emitted : to_emitted ++ emitted ≡ configuration_bytes c
  from_emitted = append_assoc to_received received emitted ∙ from_received

  pub configuration-size : length (configuration_bytes c) ≡ configuration_size
  configuration-size =
      ap length (sym from_emitted) ∙
      length-append to_emitted emitted ∙
      omega (arith, at-emitted, number-length place_size (output_number c.emitted))

  pub configuration_in : ConfigurationIn c (configuration_bytes c)
  unfolding configuration_bytes
  configuration_in =
      let later = received ++ emitted in
      let input : PlaceAt (input_number c.received) (length to_received) (to_received ++ later) =
      place_of _ _ _ (lies_between place_size (input_number c.received) to_received emitted) in
      let output : PlaceAt (output_number c.emitted) (length to_emitted) (to_emitted ++ (emitted ++ [])) =
      place_of _ _ _ (lies_between place_size (output_number c.emitted) to_emitted []) in
      record {
        size = configuration-size;
        state = refl;
        held = refl;
        buffer = λ i h.
            get_or-append-add head (c.buffer ++ (places ++ later)) i 0 ∙
            get_or-append c.buffer (places ++ later) 0 i (omega arith);
        places = λ i h. rw at_places at (place_in c.places to_places later i (omega arith));
        received = rw (at-received, from_received) at input;
        emitted = rw (at-emitted, append-nil emitted, from_emitted) at output;
      }

-- out of bytes
module _ (bytes : List ℕ) (long : length bytes ≡ configuration_size) (low : Bytes bytes) where
  abbrev numbers : List ℕ
  numbers = places_of max_capacity configuration_places bytes

  -- the places by their numbers
  place-number : (i : ℕ) → input_number (get_or (map input_place numbers) i (input_place 0)) ≡ get_or numbers i 0
  place-number i = ap input_number (get_or-map input_place numbers i 0)

  number-found : (i : ℕ) → i < max_capacity
      → get_or numbers i 0 ≡ number_of (part (configuration_places + i * place_size) place_size bytes)
  number-found i h = place_out max_capacity configuration_places bytes i h

  pub configuration-out : ConfigurationIn (configuration_of bytes) bytes
  unfolding configuration_of
  configuration-out =
      record {
        size = long;
        state = refl;
        held = refl;
        buffer = λ i h. part_byte configuration_buffer max_capacity bytes i h;
        places = λ i h.
            rw (place-number i, number-found i h)
            (place_of _ _ _ (part_lies (configuration_places + i * place_size) place_size bytes (omega arith) low));
        received = place_of _ _ _ (part_lies configuration_received place_size bytes (omega arith) low);
        emitted = place_of _ _ _ (part_lies configuration_emitted place_size bytes (omega arith) low);
      }

  numbers_low : (i : ℕ) → get_or numbers i 0 < 2 ^ 32
  numbers_low i =
      by (ltb i max_capacity)
      (λ u.
      let h = ltb-true i max_capacity u in
      rw (number-found i h) (part_low (configuration_places + i * place_size) place_size bytes (omega arith) low))
      (λ u.
      let beyond = ltb-false i max_capacity u in
      let none = get_or-eq_default numbers 0 {n = i} (omega (arith, places_many max_capacity configuration_places bytes)) in
      rw none (omega arith))

  pub typed_out : Typed (configuration_of bytes)
  unfolding configuration_of
  typed_out =
      record {
        buffer-length = part_length configuration_buffer max_capacity bytes (omega arith);
        places-length = length-map numbers input_place ∙ places_many max_capacity configuration_places bytes;
        places-low = λ i. rw (place-number i) (numbers_low i);
        received-low = part_low configuration_received place_size bytes (omega arith) low;
        emitted-low = part_low configuration_emitted place_size bytes (omega arith) low;
      }

-- a configuration comes back from bytes in which it stands
module _ (c : Configuration) (t : Typed c) (bytes : List ℕ) (k : ConfigurationIn c bytes) where
  buffer-read : part configuration_buffer max_capacity bytes ≡ c.buffer
  buffer-read =
      let six = part_length configuration_buffer max_capacity bytes (omega (arith, k.size)) in
      ext_get_or 0 (part configuration_buffer max_capacity bytes) c.buffer (six ∙ sym t.buffer-length)
      (λ i l.
      let b : i < max_capacity = omega arith in
      sym (part_byte configuration_buffer max_capacity bytes i b) ∙ k.buffer i b)

  places-read : map input_place (places_of max_capacity configuration_places bytes) ≡ c.places
  places-read =
      let numbers = places_of max_capacity configuration_places bytes in
      let six = places_many max_capacity configuration_places bytes in
      let same : numbers ≡ map input_number c.places =
      ext_get_or 0 numbers (map input_number c.places) (six ∙ sym (length-map c.places input_number ∙ t.places-length))
      (λ i l.
      let b : i < max_capacity = omega arith in
      place_out max_capacity configuration_places bytes i b ∙
      (k.places i b).value (t.places-low i) ∙
      sym (get_or-map input_number c.places i (input_place 0))) in
      ap (map input_place) same ∙ places-numbers c.places

  read : configuration_of bytes ≡ c
  unfolding configuration_of
  read =
      λ i.
      record {
        state = k.state i;
        held = k.held i;
        buffer = buffer-read i;
        places = places-read i;
        received = input_place (k.received.value t.received-low i);
        emitted = output_place (k.emitted.value t.emitted-low i);
      }

pub configuration-kept : ConfigurationKept
configuration-kept c t = read c t (configuration_bytes c) (configuration_in c t.buffer-length t.places-length)

-- bytes by the two first and the part behind them
parted : (bytes : List ℕ) → length bytes ≡ configuration_size → byte_at bytes 0 ∷ byte_at bytes 1 ∷ part 2 38 bytes ≡ bytes
unfolding part
parted [] h = absurd (omega arith)
parted (q ∷ []) h = absurd (omega arith)
parted (q ∷ n ∷ l) h = ap (λ r. q ∷ n ∷ r) (take_all 38 l (omega arith))

pub configuration-bytes-kept : ConfigurationBytesKept
unfolding configuration_of configuration_bytes
configuration-bytes-kept bytes long low =
    let numbers = places_of max_capacity configuration_places bytes in
    rw (
      numbers-places numbers,
      places-again max_capacity configuration_places bytes (omega arith) low,
      part-again configuration_received place_size bytes (omega arith) low,
      part-again configuration_emitted place_size bytes (omega arith) low,
      part_join configuration_received place_size bytes place_size,
      part_join configuration_places (max_capacity * place_size) bytes (2 * place_size),
      part_join configuration_buffer max_capacity bytes (max_capacity * place_size + 2 * place_size),
    )
    (parted bytes long)
