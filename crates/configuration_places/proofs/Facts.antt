-- Places and their numbers.
use Prim.Native.Nat.{ℕ, suc, ◌+◌, ◌-◌, ◌<◌}
use mathlib.Core.Path.{◌≡◌, refl, sym, ◌∙◌, ap}
use mathlib.Core.List.{List, [], ◌∷◌, ◌++◌, map, append-nil}
use native.Mathlib.Numerals.{add-one}
use native.Mathlib.Omega.{arith}
use lib.ListN.{length, get_or, set, take, replicate, length-append}
use lib.Seq.{take-suc, length-take-le, set-append_seam, append_snoc}
use Rattle.configuration_places.specs.Places.{InputPlace, input_place, input_number, pad_places}
use Rattle.configuration_places.specs.Claims.{WaitAsWorded}

-- the numbers of places that are made of numbers, and back
pub numbers-places : (ns : List ℕ) → map input_number (map input_place ns) ≡ ns
numbers-places [] = refl
numbers-places (n ∷ ns) = ap (λ l. n ∷ l) (numbers-places ns)

pub places-numbers : (ps : List InputPlace) → map input_place (map input_number ps) ≡ ps
places-numbers [] = refl
places-numbers (p ∷ ps) = ap (λ l. p ∷ l) (places-numbers ps)

-- one more in an array
pub pad-next : (n : ℕ) (l : List InputPlace) (i : ℕ) → i < n → i < length l
    → set (pad_places n (take i l)) i (get_or l i (input_place 0)) ≡ pad_places n (take (i + 1) l)
unfolding pad_places
pad-next n l i b h =
    let t : length (take i l) ≡ i = length-take-le i l (omega arith) in
    let u : length (take i l ++ get_or l i (input_place 0) ∷ []) ≡ suc i = length-append (take i l) (get_or l i (input_place 0) ∷ []) ∙ omega arith in
    let e : n - i ≡ suc (n - suc i) = omega arith in
    let s : take (i + 1) l ≡ take i l ++ get_or l i (input_place 0) ∷ [] = ap (λ j. take j l) (add-one i) ∙ take-suc l i (input_place 0) h in
    rw (s, u, t, e)
    (ap (λ j. set (take i l ++ (input_place 0) ∷ replicate (n - suc i) (input_place 0)) j (get_or l i (input_place 0))) (sym t) ∙
    set-append_seam (take i l) (input_place 0) (replicate (n - suc i) (input_place 0)) (get_or l i (input_place 0)) ∙
    sym (append_snoc (take i l) (get_or l i (input_place 0)) (replicate (n - suc i) (input_place 0))))

pub pad-whole : (n : ℕ) (l : List InputPlace) → length l ≡ n → pad_places n l ≡ l
unfolding pad_places
pad-whole n l h = let e : n - length l ≡ 0 = omega arith in rw e (append-nil l)

pub wait_as_worded : WaitAsWorded
wait_as_worded later earlier = record { leads = λ l. omega arith; none = λ l. omega arith }
