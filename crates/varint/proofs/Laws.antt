-- The cases of reading and writing a number.
use Prim.Native.Nat.{ℕ, zero, suc, ◌+◌, ◌-◌, ◌*◌, ◌/◌, ◌%◌, ◌<◌, ◌≤◌}
use mathlib.Core.Path.{◌≡◌, refl, sym, ◌∙◌, ap, ap₂}
use mathlib.Core.Logic.{◌⊎◌, inl, inr}
use mathlib.Core.Bool.{Bool, true, false}
use mathlib.Core.List.{List, [], ◌∷◌}
use lib.ListN.{length, get_or}
use lib.Seq.{sets, sets-eq}
use native.Mathlib.Nat.{zero-add}
use native.Mathlib.Omega.{arith}
use lib.Dec.{ltb}
use borrow.Author.Tests.{lt-ltb, le-ltb, le-leb, lt-leb}
use Rattle.base.proofs.Bools.{by}
use Rattle.varint.specs.Varint.{value, fault, groups, read, encode, bytes, fits, written, written_length}

-- one group
module _ (s : List ℕ) (start k unit low at : ℕ) where
  pub group_ended : length s ≤ at → fault 1 start ≡ groups s start (suc k) unit low at
  unfolding groups
  group_ended h = rw (le-ltb at (length s) h)

  pub group_last : (b : ℕ) → at < length s → b ≡ get_or s at 0 → b < 128 → value (low + b * unit) (at + 1) ≡ groups s start (suc k) unit low at
  unfolding groups
  group_last b h e l = rw e (let l' : get_or s at 0 < 128 = omega arith in rw (lt-ltb at (length s) h, lt-ltb (get_or s at 0) 128 l'))

  pub group_more : (b : ℕ) → at < length s → b ≡ get_or s at 0 → 128 ≤ b
      → groups s start k (unit * 128) (low + (b - 128) * unit) (at + 1) ≡ groups s start (suc k) unit low at
  unfolding groups
  group_more b h e l = rw e (let l' : 128 ≤ get_or s at 0 = omega arith in rw (lt-ltb at (length s) h, le-ltb (get_or s at 0) 128 l'))

-- equal values at equal places
pub same : {v w p r : ℕ} → v ≡ w → p ≡ r → value v p ≡ value w r
same e f = ap₂ value e f

module _ (s : List ℕ) (at : ℕ) where
  pub ended_at : length s ≤ at → fault 1 at ≡ read s at
  unfolding read
  ended_at h = group_ended s at 2 1 0 at h

  pub one_byte : (a : ℕ) → at < length s → a ≡ get_or s at 0 → a < 128 → value a (at + 1) ≡ read s at
  unfolding read
  one_byte a h e l = same (omega arith) refl ∙ group_last s at 2 1 0 at a h e l

  module _ (a : ℕ) (h : at < length s) (ea : a ≡ get_or s at 0) (la : 128 ≤ a) where
    second : groups s at 2 128 (0 + (a - 128) * 1) (at + 1) ≡ read s at
    unfolding read
    second = group_more s at 2 1 0 at a h ea la

    pub ended-second : length s ≤ at + 1 → fault 1 at ≡ read s at
    ended-second j = group_ended s at 1 128 (0 + (a - 128) * 1) (at + 1) j ∙ second

    pub two_bytes : (b : ℕ) → at + 1 < length s → b ≡ get_or s (at + 1) 0 → b < 128 → value (a - 128 + b * 128) (at + 2) ≡ read s at
    two_bytes b j e l = same (omega arith) (omega arith) ∙ group_last s at 1 128 (0 + (a - 128) * 1) (at + 1) b j e l ∙ second

    module _ (b : ℕ) (j : at + 1 < length s) (eb : b ≡ get_or s (at + 1) 0) (lb : 128 ≤ b) where
      third : groups s at 1 16384 (0 + (a - 128) * 1 + (b - 128) * 128) (at + 1 + 1) ≡ read s at
      third = group_more s at 1 128 (0 + (a - 128) * 1) (at + 1) b j eb lb ∙ second

      pub ended-third : length s ≤ at + 2 → fault 1 at ≡ read s at
      ended-third i = group_ended s at 0 16384 (0 + (a - 128) * 1 + (b - 128) * 128) (at + 1 + 1) (omega arith) ∙ third

      module _ (c : ℕ) (i : at + 2 < length s) (ec : c ≡ get_or s (at + 2) 0) where
        ec' : c ≡ get_or s (at + 1 + 1) 0
        ec' = let p : at + 2 ≡ at + 1 + 1 = omega arith in ec ∙ ap (λ n. get_or s n 0) p

        pub three-bytes : c < 128 → value (a - 128 + (b - 128) * 128 + c * 16384) (at + 3) ≡ read s at
        three-bytes l =
            same (omega arith) (omega arith) ∙
            group_last s at 0 16384 (0 + (a - 128) * 1 + (b - 128) * 128) (at + 1 + 1) c (omega arith) ec' l ∙
            third

        pub too_long : 128 ≤ c → fault 2 at ≡ read s at
        unfolding groups
        too_long l = group_more s at 0 16384 (0 + (a - 128) * 1 + (b - 128) * 128) (at + 1 + 1) c (omega arith) ec' l ∙ third

-- the bytes of a number
pub bytes_one : (v : ℕ) → v < 128 → bytes v ≡ v ∷ []
unfolding bytes encode
bytes_one v h = rw (lt-ltb v 128 h)

pub bytes-two : (v : ℕ) → 128 ≤ v → v < 16384 → bytes v ≡ (v % 128 + 128) ∷ (v / 128) ∷ []
unfolding bytes encode
bytes-two v h l = let k : v / 128 < 128 = omega arith in rw (le-ltb v 128 h, lt-ltb (v / 128) 128 k)

pub bytes-three : (v : ℕ) → 16384 ≤ v → v < 2097152 → bytes v ≡ (v % 128 + 128) ∷ (v / 128 % 128 + 128) ∷ (v / 16384) ∷ []
unfolding bytes encode
bytes-three v h l =
    let i : 128 ≤ v = omega arith in
    let j : 128 ≤ v / 128 = omega arith in
    let k : v / 128 / 128 < 128 = omega arith in
    let e : v / 128 / 128 ≡ v / 16384 = omega arith in
    rw (le-ltb v 128 i, le-ltb (v / 128) 128 j, lt-ltb (v / 128 / 128) 128 k, e)

-- what is answered of a write, and the buffer after it
abbrev Writes : List ℕ → ℕ → ℕ → Bool → List ℕ → Type 0
Writes out v n fit new = (n ≡ written_length out v) × (fit ≡ fits out v) × (new ≡ written out v)

-- writing: refused, or the bytes at the front
module _ (out : List ℕ) (v : ℕ) where
  refuse : fits out v ≡ false → Writes out v 0 false out
  unfolding written written_length
  refuse h = (rw h, sym h, rw h)

  pub too_large : 2097152 ≤ v → Writes out v 0 false out
  unfolding fits
  too_large h = refuse (rw (le-ltb v 2097152 h))

  module _ (bs : List ℕ) (e : bytes v ≡ bs) (small : v < 2097152) where
    pub no_room : length out < length bs → Writes out v 0 false out
    unfolding fits
    no_room h = refuse (rw (lt-ltb v 2097152 small, e, lt-leb (length bs) (length out) h))

    pub room : length bs ≤ length out → Writes out v (length bs) true (sets out 0 bs)
    unfolding fits written written_length
    room h =
        let f : fits out v ≡ true = rw (lt-ltb v 2097152 small, e, le-leb (length bs) (length out) h) in
        (rw (f, e), sym f, sets-eq bs out 0 (omega arith) ∙ rw (zero-add (length bs), f, e))

-- what is read: a value and the place after it, or row 1 or 2 where the number begins
groups-cases : {R : Type 0} (s : List ℕ) (start k unit low at : ℕ)
    → ((row : ℕ) → (row ≡ 1) ⊎ (row ≡ 2) → groups s start k unit low at ≡ fault row start → R)
    → ((v next : ℕ) → groups s start k unit low at ≡ value v next → R)
    → R
unfolding groups
groups-cases s start zero unit low at refused read' = refused 2 (inr refl) refl
groups-cases s start (suc k) unit low at refused read' =
    by (ltb at (length s))
    (λ e. by (ltb (get_or s at 0) 128)
    (λ f. read' (low + get_or s at 0 * unit) (at + 1) (rw (e, f)))
    (λ f. groups-cases s start k (unit * 128) (low + (get_or s at 0 - 128) * unit) (at + 1)
    (λ row l h. refused row l (rw (e, f) h))
    (λ v next h. read' v next (rw (e, f) h))))
    (λ e. refused 1 (inl refl) (rw e))

pub read-cases : {R : Type 0} (s : List ℕ) (at : ℕ)
    → ((row : ℕ) → (row ≡ 1) ⊎ (row ≡ 2) → read s at ≡ fault row at → R)
    → ((v next : ℕ) → read s at ≡ value v next → R)
    → R
unfolding read
read-cases s at = groups-cases s at 3 1 0 at
