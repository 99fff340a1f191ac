-- Laws of `pad`.
use Prim.Native.Nat.{ℕ, zero, suc, ◌+◌, ◌-◌, ◌<◌, ◌≤◌}
use mathlib.Core.Path.{◌≡◌, refl, sym, ◌∙◌, ap}
use mathlib.Core.List.{List, [], ◌∷◌, ◌++◌, append-nil, append_assoc}
use native.Mathlib.Nat.{zero-add}
use native.Mathlib.Omega.{arith}
use lib.ListN.{length, get_or, set, take, drop, replicate, length-append, length-replicate, replicate-append-replicate, get_or-append}
use lib.Seq.{sets, sets-eq, ext_get_or, get_or-take, get_or-append-add, length-take-le, take-append_seam, drop-append-add, set-append_seam, append_snoc, set-get_or}
use lib.Dec.{ltb}
use borrow.Author.Tests.{ltb-true, ltb-false}
use Rattle.base.specs.Pad.{pad, UsedTo}
use Rattle.base.proofs.Bools.{by}
use Rattle.base.proofs.Every.{Every}

pub pad-length : (n : ℕ) (l : List ℕ) → length l ≤ n → length (pad n l) ≡ n
unfolding pad
pad-length n l h = simp (length-append, length-replicate) (omega arith)

pub pad-inside : (n : ℕ) (l : List ℕ) (i : ℕ) → i < length l → get_or (pad n l) i 0 ≡ get_or l i 0
unfolding pad
pad-inside n l i h = get_or-append l (replicate (n - length l) 0) 0 i h

zeros-at : (n i : ℕ) → ◌≡◌ {A = ℕ} (get_or (replicate n 0) i 0) 0
zeros-at zero i = refl
zeros-at (suc n) zero = refl
zeros-at (suc n) (suc i) = zeros-at n i

pub pad-outside : (n : ℕ) (l : List ℕ) (i : ℕ) → length l ≤ i → get_or (pad n l) i 0 ≡ 0
unfolding pad
pad-outside n l i h =
    let e : i ≡ length l + (i - length l) = omega arith in
    ap (λ j. get_or (l ++ replicate (n - length l) 0) j 0) e ∙
    get_or-append-add l (replicate (n - length l) 0) (i - length l) 0 ∙
    zeros-at (n - length l) (i - length l)

pub pad-used : (n : ℕ) (l : List ℕ) → length l ≤ n → UsedTo n (length l) (pad n l)
pad-used n l h = (pad-length n l h, pad-outside n l)

pub zeros-used : (n : ℕ) → UsedTo n 0 (replicate n 0)
zeros-used n = (length-replicate n 0, λ j _. zeros-at n j)

pub drop-zeros : (n k : ℕ) → ◌≡◌ {A = List ℕ} (drop k (replicate n 0)) (replicate (n - k) 0)
drop-zeros n zero = let e : n ≡ n - 0 = omega arith in ap (λ m. replicate {A = ℕ} m 0) e
drop-zeros zero (suc k) = let e : 0 ≡ 0 - suc k = omega arith in ap (λ m. replicate {A = ℕ} m 0) e
drop-zeros (suc n) (suc k) = let e : n - k ≡ suc n - suc k = omega arith in drop-zeros n k ∙ ap (λ m. replicate {A = ℕ} m 0) e

-- a list stored at the front of zeros
pub pad-stored : (n : ℕ) (l : List ℕ) → length l ≤ n → sets (replicate n 0) 0 l ≡ pad n l
unfolding pad
pad-stored n l h =
    sets-eq l (replicate n 0) 0 (rw (length-replicate {A = ℕ} n 0) (omega arith)) ∙
    rw (zero-add (length l), drop-zeros n (length l))

-- the used part of an array, padded again
pub pad-take : (n m : ℕ) (l : List ℕ) → length l ≡ n → m ≤ n → ((i : ℕ) → m ≤ i → i < n → get_or l i 0 ≡ 0) → pad n (take m l) ≡ l
pad-take n m l long h zeros =
    let short : length (take m l) ≡ m = length-take-le m l (omega arith) in
    let same : length (pad n (take m l)) ≡ n = pad-length n (take m l) (omega arith) in
    ext_get_or 0 (pad n (take m l)) l (omega arith) λ i b.
    by (ltb i m)
    (λ u. let v : i < m = ltb-true i m u in pad-inside n (take m l) i (omega arith) ∙ get_or-take m l i 0 v)
    (λ u. let v : m ≤ i = ltb-false i m u in pad-outside n (take m l) i (omega arith) ∙ sym (zeros i v (omega arith)))

pub take-pad : (n : ℕ) (l : List ℕ) → take (length l) (pad n l) ≡ l
unfolding pad
take-pad n l = take-append_seam l (replicate (n - length l) 0)

-- a fact of 0 and of every number of the list
pub pad_every : (P : ℕ → Type 0) (n : ℕ) (l : List ℕ) → P 0 → Every P l → (i : ℕ) → P (get_or (pad n l) i 0)
pad_every P n l z f i =
    by (ltb i (length l))
    (λ u. let h : i < length l = ltb-true i (length l) u in rw (pad-inside n l i h) (f i h))
    (λ u. rw (pad-outside n l i (ltb-false i (length l) u)) z)

-- one more number behind the list
pub pad-set : (n : ℕ) (l : List ℕ) (v : ℕ) → length l < n → set (pad n l) (length l) v ≡ pad n (l ++ v ∷ [])
unfolding pad
pad-set n l v h =
    let e : n - length l ≡ suc (n - suc (length l)) = omega arith in
    let f : length (l ++ v ∷ []) ≡ suc (length l) = length-append l (v ∷ []) ∙ omega arith in
    rw (e, f) (set-append_seam l 0 (replicate (n - suc (length l)) 0) v ∙ sym (append_snoc l v (replicate (n - suc (length l)) 0)))

-- a padded 0 may stand in the list
pub pad-zero : (n : ℕ) (l : List ℕ) → length l < n → pad n l ≡ pad n (l ++ 0 ∷ [])
pad-zero n l h =
    sym (set-get_or (pad n l) (length l) 0) ∙
    ap (λ x. set (pad n l) (length l) x) (pad-outside n l (length l) (omega arith)) ∙
    pad-set n l 0 h

-- a list stored behind a padded list
pub pad-sets : (n : ℕ) (l v : List ℕ) → length l + length v ≤ n → sets (pad n l) (length l) v ≡ pad n (l ++ v)
pad-sets n l [] h = ap (pad n) (sym (append-nil l))
pad-sets n l (x ∷ v) h =
    let e : suc (length l) ≡ length (l ++ x ∷ []) = simp length-append (omega arith) in
    ap (λ y. sets y (suc (length l)) v) (pad-set n l x (omega arith)) ∙
    ap (λ i. sets (pad n (l ++ x ∷ [])) i v) e ∙
    pad-sets n (l ++ x ∷ []) v (simp length-append (omega arith)) ∙
    ap (pad n) (append_assoc l (x ∷ []) v)

-- a list stored behind a padded list, with zeros up to a width of its own
pub pad-more : (size : ℕ) (before block : List ℕ) (width : ℕ) → length block ≤ width → length before + width ≤ size
    → sets (pad size before) (length before) block ≡ pad size (before ++ pad width block)
unfolding pad
pad-more size before block width h k =
    let zeros : ℕ → List ℕ = λ i. replicate i 0 in
    let a : length before + length block ≤ length (before ++ zeros (size - length before)) = simp (length-append, length-replicate) (omega arith) in
    let e : size - length before - length block ≡ (width - length block) + (size - (length before + width)) = omega arith in
    let f : length (before ++ (block ++ zeros (width - length block))) ≡ length before + width = simp (length-append, length-replicate) (omega arith) in
    sets-eq block (before ++ zeros (size - length before)) (length before) a ∙
    rw (take-append_seam before (zeros (size - length before)), drop-append-add before (zeros (size - length before)) (length block), drop-zeros (size - length before) (length block), f, e)
    (rw (← replicate-append-replicate {A = ℕ} (width - length block) (size - (length before + width)) 0) (simp append_assoc))

-- equal elements, one more
pub repeat_end : (k : ℕ) (x : ℕ) (l : List ℕ) → replicate k x ++ x ∷ l ≡ replicate (suc k) x ++ l
repeat_end zero x l = refl
repeat_end (suc k) x l = ap (λ m. x ∷ m) (repeat_end k x l)
