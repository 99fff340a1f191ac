-- Places in bytes, as the code takes them out and lays them down.
use Prim.Native.Nat.{ℕ, zero, suc, ◌+◌, ◌*◌, ◌<◌, ◌≤◌}
use mathlib.Core.Path.{◌≡◌, refl, sym, ◌∙◌, ap}
use mathlib.Core.List.{List, [], ◌∷◌, ◌++◌, map, append-nil, append_assoc}
use native.Mathlib.Numerals.{add-one}
use native.Mathlib.Omega.{arith}
use lib.ListN.{length, get_or, set, take, drop, length-append, length-map, get_or-map}
use lib.Seq.{sets, drop-cons, take-suc, take_all, length-take-le}
use Rattle.configuration_places.specs.declared.InputPlace.{InputPlace}
use Rattle.configuration_places.specs.Places.{input_place, input_number}
use Rattle.c_layout.specs.Offsets.{place_size}
use Rattle.c_layout.specs.Layout.{part, number_of, number_bytes, places_of, places_bytes}
use Rattle.c_layout.proofs.Numbers.{number-length}

-- four bytes, one by one
pub part-four : (bytes : List ℕ) (at : ℕ) → at + place_size ≤ length bytes
    → part at place_size bytes ≡ get_or bytes at 0 ∷ get_or bytes (at + 1) 0 ∷ get_or bytes (at + 2) 0 ∷ get_or bytes (at + 3) 0 ∷ []
unfolding part
part-four bytes at h =
    let a : suc at ≡ at + 1 = omega arith in
    let b : suc (at + 1) ≡ at + 2 = omega arith in
    let c : suc (at + 2) ≡ at + 3 = omega arith in
    let z = get_or bytes at 0 in
    let y = get_or bytes (at + 1) 0 in
    let x = get_or bytes (at + 2) 0 in
    ap (take place_size) (drop-cons bytes at 0 (omega arith)) ∙
    ap (λ i. z ∷ take 3 (drop i bytes)) a ∙
    ap (λ l. z ∷ take 3 l) (drop-cons bytes (at + 1) 0 (omega arith)) ∙
    ap (λ i. z ∷ y ∷ take 2 (drop i bytes)) b ∙
    ap (λ l. z ∷ y ∷ take 2 l) (drop-cons bytes (at + 2) 0 (omega arith)) ∙
    ap (λ i. z ∷ y ∷ x ∷ take 1 (drop i bytes)) c ∙
    ap (λ l. z ∷ y ∷ x ∷ take 1 l) (drop-cons bytes (at + 3) 0 (omega arith))

-- a place of a list of places that lies in bytes
pub place_in : (count at : ℕ) (bytes : List ℕ) (i : ℕ) → i < count
    → get_or (map input_place (places_of count at bytes)) i (input_place 0) ≡ input_place (number_of (part (at + i * place_size) place_size bytes))
unfolding places_of
place_in zero at bytes i l = absurd (omega arith)
place_in (suc count) at bytes zero l = let e : at + 0 * place_size ≡ at = omega arith in ap (λ j. input_place (number_of (part j place_size bytes))) (sym e)
place_in (suc count) at bytes (suc i) l =
    let e : at + place_size + i * place_size ≡ at + suc i * place_size = omega arith in
    place_in count (at + place_size) bytes i (omega arith) ∙ ap (λ j. input_place (number_of (part j place_size bytes))) e

pub places_many : (count at : ℕ) (bytes : List ℕ) → length (map input_place (places_of count at bytes)) ≡ count
unfolding places_of
places_many zero at bytes = refl
places_many (suc count) at bytes = ap suc (places_many count (at + place_size) bytes)

-- one more place behind others
bytes-append : (ns : List ℕ) (n : ℕ) → places_bytes (ns ++ n ∷ []) ≡ places_bytes ns ++ number_bytes place_size n
unfolding places_bytes
bytes-append [] n = append-nil (number_bytes place_size n)
bytes-append (m ∷ ns) n = ap (λ l. number_bytes place_size m ++ l) (bytes-append ns n) ∙ sym (append_assoc (number_bytes place_size m) (places_bytes ns) (number_bytes place_size n))

pub bytes_many : (ns : List ℕ) → length (places_bytes ns) ≡ length ns * place_size
unfolding places_bytes
bytes_many [] = refl
bytes_many (n ∷ ns) = length-append (number_bytes place_size n) (places_bytes ns) ∙ omega (arith, number-length place_size n, bytes_many ns)

-- stores, and then those behind them
sets_join : (xs ys l : List ℕ) (at : ℕ) → sets l at (xs ++ ys) ≡ sets (sets l at xs) (at + length xs) ys
sets_join [] ys l at = let e : at ≡ at + 0 = omega arith in ap (λ k. sets l k ys) e
sets_join (x ∷ xs) ys l at =
    let e : suc at + length xs ≡ at + suc (length xs) = omega arith in
    sets_join xs ys (set l at x) (suc at) ∙ ap (λ k. sets (sets (set l at x) (suc at) xs) k ys) e

-- as the loop lays it down
pub laid_next : (ps : List InputPlace) (i at : ℕ) → i < length ps → (lent bytes bytes' : List ℕ)
    → bytes ≡ sets lent at (places_bytes (take i (map input_number ps)))
    → bytes' ≡ sets bytes (at + i * place_size) (number_bytes place_size (input_number (get_or ps i (input_place 0))))
    → bytes' ≡ sets lent at (places_bytes (take (i + 1) (map input_number ps)))
laid_next ps i at l lent bytes bytes' so_far laid =
    let ns = map input_number ps in
    let n = input_number (get_or ps i (input_place 0)) in
    let long : length ns ≡ length ps = length-map ps input_number in
    let front : length (take i ns) ≡ i = length-take-le i ns (omega arith) in
    let behind : length (places_bytes (take i ns)) ≡ i * place_size = bytes_many (take i ns) ∙ ap (λ k. k * place_size) front in
    let more : take (i + 1) ns ≡ take i ns ++ n ∷ [] =
    ap (λ k. take k ns) (add-one i) ∙ take-suc ns i 0 (omega arith) ∙
    ap (λ n. take i ns ++ n ∷ []) (get_or-map input_number ps i (input_place 0))
    in
    laid ∙ ap (λ b. sets b (at + i * place_size) (number_bytes place_size n)) so_far ∙
    ap (λ k. sets (sets lent at (places_bytes (take i ns))) (at + k) (number_bytes place_size n)) (sym behind) ∙
    sym (sets_join (places_bytes (take i ns)) (number_bytes place_size n) lent at) ∙
    ap (sets lent at) (sym (ap places_bytes more ∙ bytes-append (take i ns) n))

-- one place, laid by way of its own four bytes
pub place-laid : (out out' place : List ℕ) (at value : ℕ) → place ≡ number_bytes place_size value
    → out' ≡ sets out at (take place_size (drop 0 place)) → out' ≡ sets out at (number_bytes place_size value)
place-laid out out' place at value e h =
    h ∙ ap (λ l. sets out at (take place_size l)) e ∙ ap (sets out at) (take_all place_size (number_bytes place_size value) (omega (arith, number-length place_size value)))
