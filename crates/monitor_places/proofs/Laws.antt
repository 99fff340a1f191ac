-- Laws of places in line: what the loops lay down, and that it is what the rule says.
use Prim.Native.Nat.{ℕ, zero, suc, ◌+◌, ◌-◌, ◌<◌, ◌≤◌}
use mathlib.Core.Path.{◌≡◌, refl, sym, ◌∙◌, ap, ap₂}
use mathlib.Core.Bool.{true, false, not, ◌&&◌}
use mathlib.Core.List.{List, [], ◌∷◌, ◌++◌, map, map-append, append_assoc}
use native.Mathlib.Omega.{arith}
use lib.ListN.{length, get_or, set, take, drop, replicate, length-append, length-drop, length-map, get_or-append, drop_of_length-le}
use lib.Seq.{length-take-le, take-append-le, drop-append-le, take_at, drop_at, get_or-take, get_or-drop, get_or-append_seam, get_or-append-add}
use lib.Dec.{eqb}
use borrow.Author.Tests.{eq-eqb, ne_eqb, eqb-true}
use Rattle.base.specs.Pad.{pad}
use Rattle.base.proofs.Bools.{by, clash}
use Rattle.base.proofs.Padding.{pad-set}
use Rattle.configuration_places.specs.declared.InputPlace.{InputPlace}
use Rattle.configuration_places.specs.Places.{input_place, pad_places}
use Rattle.monitor_places.specs.Lines.{joined_by, own_index, places_after, AfterRequires}

abbrev none : InputPlace
none = input_place 0

-- what stands in line
module _ (own : ℕ) (newcomer : InputPlace) (places : List InputPlace) (h : own ≤ length places) where
  abbrev line : List InputPlace
  line = joined_by own newcomer places

  own-length : length (take own places) ≡ own
  own-length = length-take-le own places h

  pub before-own : (i : ℕ) → i < own → get_or places i none ≡ get_or line i none
  unfolding joined_by
  before-own i l =
      sym (get_or-append (take own places) (newcomer ∷ drop own places) none i (omega (arith, own-length)) ∙ get_or-take own places i none l)

  pub at_own : (i : ℕ) → i ≡ own → newcomer ≡ get_or line i none
  unfolding joined_by
  at_own i e =
      sym (ap (λ j. get_or (take own places ++ newcomer ∷ drop own places) j none) (e ∙ sym own-length) ∙
      get_or-append_seam (take own places) newcomer (drop own places) none)

  pub behind-own : (i : ℕ) → own < i → get_or places (i - 1) none ≡ get_or line i none
  unfolding joined_by
  behind-own i l =
      let e : i ≡ length (take own places) + suc (i - 1 - own) = omega (arith, own-length) in
      let f : own + (i - 1 - own) ≡ i - 1 = omega arith in
      sym (ap (λ j. get_or (take own places ++ newcomer ∷ drop own places) j none) e ∙
      get_or-append-add (take own places) (newcomer ∷ drop own places) (suc (i - 1 - own)) none ∙
      get_or-drop own places (i - 1 - own) none ∙ ap (λ j. get_or places j none) f)

  pub line-length : length line ≡ suc (length places)
  unfolding joined_by
  line-length = length-append (take own places) (newcomer ∷ drop own places) ∙ omega (arith, own-length, length-drop own places)

-- Numbers of places, in an array of the places' own type.
abbrev pub places : ℕ → List ℕ → List InputPlace
places n l = map input_place (pad n l)

map-zeros : (n : ℕ) → map input_place (replicate n 0) ≡ replicate n none
map-zeros zero = refl
map-zeros (suc n) = ap (λ l. none ∷ l) (map-zeros n)

map-take : (n : ℕ) (l : List ℕ) → take n (map input_place l) ≡ map input_place (take n l)
map-take zero l = refl
map-take (suc n) [] = refl
map-take (suc n) (x ∷ l) = ap (λ m. input_place x ∷ m) (map-take n l)

map-drop : (n : ℕ) (l : List ℕ) → drop n (map input_place l) ≡ map input_place (drop n l)
map-drop zero l = refl
map-drop (suc n) [] = refl
map-drop (suc n) (x ∷ l) = map-drop n l

map-set : (l : List ℕ) (i v : ℕ) → set (map input_place l) i (input_place v) ≡ map input_place (set l i v)
map-set [] i v = refl
map-set (x ∷ l) zero v = refl
map-set (x ∷ l) (suc i) v = ap (λ m. input_place x ∷ m) (map-set l i v)

map-pad : (n : ℕ) (l : List ℕ) → pad_places n (map input_place l) ≡ places n l
unfolding pad_places pad
map-pad n l =
    ap₂ (λ m k. map input_place l ++ replicate (n - m) k) (length-map l input_place) refl ∙
    ap (λ z. map input_place l ++ z) (sym (map-zeros (n - length l))) ∙ sym (map-append input_place l (replicate (n - length l) 0))

-- Held places ps and a newcomer's n: the line is theirs, and zeros behind it. The newcomer is
-- first where it passes ..
passing-line : (ps : List ℕ) (n : ℕ) → joined_by 0 (input_place n) (places 6 ps) ≡ map input_place ((n ∷ ps) ++ replicate (6 - length ps) 0)
unfolding joined_by pad
passing-line ps n = refl

-- .. and last where it waits
waiting-line : (ps : List ℕ) (n : ℕ)
    → joined_by (length ps) (input_place n) (places 6 ps) ≡ map input_place ((ps ++ n ∷ []) ++ replicate (6 - length ps) 0)
unfolding joined_by pad
waiting-line ps n =
    let z = replicate {A = ℕ} (6 - length ps) 0 in
    ap₂ (λ x y. x ++ input_place n ∷ y)
    (map-take (length ps) (ps ++ z) ∙ ap (map input_place) (take_at ps z (length ps) refl))
    (map-drop (length ps) (ps ++ z) ∙ ap (map input_place) (drop_at ps z (length ps) refl)) ∙
    sym (ap (map input_place) (append_assoc ps (n ∷ []) z) ∙ map-append input_place ps (n ∷ z))

-- what is taken off the front, and what is left behind it
module _ (line : List InputPlace) (l : List ℕ) (k : ℕ) (e : line ≡ map input_place (l ++ replicate k 0)) (m : ℕ) (h : m ≤ length l) where
  pub front_of : pad_places 7 (take m line) ≡ places 7 (take m l)
  front_of =
      ap (λ x. pad_places 7 (take m x)) e ∙ ap (pad_places 7) (map-take m (l ++ replicate k 0)) ∙
      ap (λ x. pad_places 7 (map input_place x)) (take-append-le m l (replicate k 0) h) ∙ map-pad 7 (take m l)

  pub back_of : (held : ℕ) → m + held ≡ length l → pad_places 6 (take held (drop m line)) ≡ places 6 (drop m l)
  back_of held s =
      let long : length (drop m l) ≡ held = length-drop m l ∙ omega arith in
      ap (λ x. pad_places 6 (take held (drop m x))) e ∙
      ap (λ x. pad_places 6 (take held x)) (map-drop m (l ++ replicate k 0)) ∙
      ap (pad_places 6) (map-take held (drop m (l ++ replicate k 0))) ∙
      ap (λ x. pad_places 6 (map input_place (take held x))) (drop-append-le m l (replicate k 0) h) ∙
      ap (λ x. pad_places 6 (map input_place x)) (take_at (drop m l) (replicate k 0) held long) ∙ map-pad 6 (drop m l)

module _ (ps : List ℕ) (n : ℕ) where
  pub passing-front : (m : ℕ) → m ≤ suc (length ps) → pad_places 7 (take m (joined_by 0 (input_place n) (places 6 ps))) ≡ places 7 (take m (n ∷ ps))
  passing-front m h = front_of _ (n ∷ ps) (6 - length ps) (passing-line ps n) m h

  pub passing_back : (m held : ℕ) → m + held ≡ suc (length ps)
      → pad_places 6 (take held (drop m (joined_by 0 (input_place n) (places 6 ps)))) ≡ places 6 (drop m (n ∷ ps))
  passing_back m held s = back_of _ (n ∷ ps) (6 - length ps) (passing-line ps n) m (omega arith) held s

  ended : length (ps ++ n ∷ []) ≡ suc (length ps)
  ended = length-append ps (n ∷ []) ∙ omega arith

  pub waiting-front : (m : ℕ) → m ≤ suc (length ps)
      → pad_places 7 (take m (joined_by (length ps) (input_place n) (places 6 ps))) ≡ places 7 (take m (ps ++ n ∷ []))
  waiting-front m h = front_of _ (ps ++ n ∷ []) (6 - length ps) (waiting-line ps n) m (omega (arith, ended))

  pub waiting_back : (m held : ℕ) → m + held ≡ suc (length ps)
      → pad_places 6 (take held (drop m (joined_by (length ps) (input_place n) (places 6 ps)))) ≡ places 6 (drop m (ps ++ n ∷ []))
  waiting_back m held s = back_of _ (ps ++ n ∷ []) (6 - length ps) (waiting-line ps n) m (omega (arith, ended)) held (omega (arith, ended))

  -- a newcomer behind the others, where nothing is emitted
  pub waiting_end : length ps < 6 → set (places 6 ps) (length ps) (input_place n) ≡ places 6 (ps ++ n ∷ [])
  waiting_end h = map-set (pad 6 ps) (length ps) n ∙ ap (map input_place) (pad-set 6 ps n h)

  -- what is held after an event: the newcomer passed ..
  module _ (released held : ℕ) (few : held ≤ length ps + 1) where
    abbrev left : List InputPlace
    left = places_after (places 6 ps) (length ps) (input_place n) released held

    pub left-passing : released + held ≡ length ps → left ≡ places 6 (drop (length ps + 1 - held) (n ∷ ps))
    unfolding own_index
    left-passing e = rw (eq-eqb (released + held) (length ps) e) (passing_back (length ps + 1 - held) held (omega arith))

    -- .. or waited
    pub left-waiting : (released + held ≡ length ps → ⊥) → left ≡ places 6 (drop (length ps + 1 - held) (ps ++ n ∷ []))
    unfolding own_index
    left-waiting e =
        rw (ne_eqb (released + held) (length ps) e) (waiting_back (length ps + 1 - held) held (omega arith))

-- where the places need not be gone over
module _ {ps : List InputPlace} {before released held : ℕ} (g : AfterRequires ps before released held) (newcomer : InputPlace) where
  abbrev numbers : List ℕ
  numbers = g.numbers

  abbrev n : ℕ
  n = newcomer.0

  by_numbers : places_after (places 6 numbers) (length numbers) newcomer released held ≡ places_after ps before newcomer released held
  by_numbers = ap₂ (λ x i. places_after x i newcomer released held) (sym g.laid) g.each-has

  few : held ≤ length numbers + 1
  few = omega (arith, g.each-has, g.one_more)

  -- the newcomer waits with all others
  pub after_waits : before < held → set ps before newcomer ≡ places_after ps before newcomer released held
  after_waits l =
      let all : length numbers + 1 - held ≡ 0 = omega (arith, g.each-has) in
      let put : set (places 6 numbers) (length numbers) newcomer ≡ places 6 (numbers ++ n ∷ []) = waiting_end numbers n (omega (arith, g.each-has, g.held-few)) in
      let left = left-waiting numbers n released held few (λ y. omega (arith, y, g.each-has)) in
      ap₂ (λ x i. set x i newcomer) g.laid (sym g.each-has) ∙ put ∙ ap (λ i. places 6 (drop i (numbers ++ n ∷ []))) (sym all) ∙ sym left ∙ by_numbers

  -- none were held ..
  after_none : before ≡ 0 → held ≡ 0 → ps ≡ places_after ps before newcomer released held
  unfolding pad_places pad
  after_none z y =
      let short : length numbers ≤ 0 = omega (arith, g.each-has) in
      let empty : numbers ≡ [] = drop_of_length-le numbers short in
      g.laid ∙ ap (places 6) empty ∙ rw y

  -- .. or none are released
  pub after_same : released ≡ 0 → held ≤ before → ps ≡ places_after ps before newcomer released held
  after_same z l =
      let same : released + held ≡ length numbers = omega (arith, g.each-has, g.none-lost) in
      let one : length numbers + 1 - held ≡ 1 = omega (arith, same) in
      g.laid ∙ ap (λ i. places 6 (drop i (n ∷ numbers))) (sym one) ∙ sym (left-passing numbers n released held few same) ∙ by_numbers

  pub after-stays : held ≤ before → (not (eqb before 0) && not (eqb released 0)) ≡ false → ps ≡ places_after ps before newcomer released held
  after-stays l h =
      by (eqb before 0)
      (λ z. let none = eqb-true before 0 z in after_none none (omega arith))
      (λ z. by (eqb released 0)
      (λ y. after_same (eqb-true released 0 y) l)
      (λ y. absurd (clash {b = true} refl (rw (z, y) at h))))
