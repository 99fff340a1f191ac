-- A fact of every number of a list.
use Prim.Native.Nat.{ℕ, zero, suc, ◌+◌, ◌-◌, ◌<◌}
use mathlib.Core.Path.{◌≡◌, refl}
use mathlib.Core.List.{List, [], ◌∷◌, ◌++◌, map}
use native.Mathlib.Omega.{arith}
use lib.ListN.{length, get_or, length-append, get_or-append}
use lib.Seq.{get_or-append-add}
use lib.Dec.{ltb}
use borrow.Author.Tests.{ltb-true, ltb-false}
use Rattle.base.proofs.Bools.{by}

abbrev pub Every : (ℕ → Type 0) → List ℕ → Type 0
Every P l = (i : ℕ) → i < length l → P (get_or l i 0)

module _ (P : ℕ → Type 0) where
  pub every_cons : (x : ℕ) (xs : List ℕ) → P x → Every P xs → Every P (x ∷ xs)
  every_cons x xs p f zero h = p
  every_cons x xs p f (suc i) h = f i (omega arith)

  pub every_append : (xs ys : List ℕ) → Every P xs → Every P ys → Every P (xs ++ ys)
  every_append xs ys f g i h =
      by (ltb i (length xs))
      (λ u. let l : i < length xs = ltb-true i (length xs) u in rw (get_or-append xs ys 0 i l) (f i l))
      (λ u.
      let j : ℕ = i - length xs in
      let e : i ≡ length xs + j = omega (arith, ltb-false i (length xs) u) in
      let k : j < length ys = omega (arith, ltb-false i (length xs) u, length-append xs ys) in
      rw (e, get_or-append-add xs ys j 0) (g j k))

-- what stands at a place of a list under a map, whatever stands for what is past the end
pub get_d_map : {A B : Type 0} (f : A → B) (l : List A) (i : ℕ) (d : A) (b : B) → i < length l → get_or (map f l) i b ≡ f (get_or l i d)
get_d_map f [] i d b h = absurd (omega arith)
get_d_map f (x ∷ l) zero d b h = refl
get_d_map f (x ∷ l) (suc i) d b h = get_d_map f l i d b (omega arith)
