-- Reading a number that was written, and writing one that was read.
use Prim.Native.Nat.{ℕ, zero, suc, ◌+◌, ◌-◌, ◌*◌, ◌/◌, ◌%◌, ◌^◌, ◌<◌, ◌≤◌}
use mathlib.Core.Path.{◌≡◌, refl, sym, ◌∙◌, ap}
use mathlib.Core.List.{List, [], ◌∷◌, ◌++◌}
use lib.ListN.{length, get_or, length-append}
use lib.Seq.{get_or-append_seam, append_snoc}
use lib.Dec.{ltb}
use native.Mathlib.Nat.{pow-suc, one-le-pow, add-mul, mul_assoc, mul_comm}
use native.Mathlib.Omega.{arith}
use borrow.Author.Tests.{ltb-true, ltb-false, lt-ltb, le-ltb}
use Rattle.base.proofs.Bools.{by}
use Rattle.varint.specs.Varint.{value, fault, groups, read, encode, bytes}
use Rattle.varint.specs.Claims.{AreBytes, ReadsBack, Fewest}
use Rattle.varint.proofs.Laws.{group_ended, group_last, group_more, same}

-- the bytes of a number: one, or a group and those of what is left
module _ (k v : ℕ) where
  encode_one : v < 128 → encode (suc k) v ≡ v ∷ []
  unfolding encode
  encode_one h = rw (lt-ltb v 128 h)

  encode-more : 128 ≤ v → encode (suc k) v ≡ (v % 128 + 128) ∷ encode k (v / 128)
  unfolding encode
  encode-more h = rw (le-ltb v 128 h)

-- the value of a group and of what is left
weigh : (group later unit low : ℕ) → low + group * unit + later * (unit * 128) ≡ low + (group + later * 128) * unit
weigh group later unit low =
    let e : later * (unit * 128) ≡ later * 128 * unit = rw (mul_comm unit 128) (sym (mul_assoc later 128 unit)) in
    rw (e, add-mul group (later * 128) unit) (omega arith)

module _ (q : List ℕ) (start : ℕ) where
  -- v after p, in at most k + 1 groups, reads back
  abbrev Back : ℕ → ℕ → List ℕ → ℕ → ℕ → Type 0
  Back k v p unit low =
      groups (p ++ (encode (suc k) v ++ q)) start (suc k) unit low (length p) ≡ value (low + v * unit) (length p + length (encode (suc k) v))

  back_one : (k v : ℕ) (p : List ℕ) (unit low : ℕ) → v < 128 → Back k v p unit low
  back_one k v p unit low l =
      rw (encode_one k v l)
      (sym (group_last (p ++ v ∷ q) start k unit low (length p) v (simp length-append (omega arith)) (sym (get_or-append_seam p v q 0)) l))

  groups_back : (k v : ℕ) (p : List ℕ) (unit low : ℕ) → v < 128 ^ suc k → Back k v p unit low
  groups_back zero v p unit low h = back_one 0 v p unit low h
  groups_back (suc k) v p unit low h =
      by (ltb v 128)
      (λ e. back_one (suc k) v p unit low (ltb-true v 128 e))
      (λ e. let l : 128 ≤ v = ltb-false v 128 e in
      let b : ℕ = v % 128 + 128 in
      let later : List ℕ = encode (suc k) (v / 128) in
      let inside : length p < length (p ++ b ∷ (later ++ q)) = simp length-append (omega arith) in
      let long : length (p ++ b ∷ []) ≡ length p + 1 = length-append p (b ∷ []) in
      let smaller : v / 128 < 128 ^ suc k = let j : v < 128 ^ suc k * 128 = rw (pow-suc 128 (suc k)) at h in omega arith in
      let whole : b - 128 + v / 128 * 128 ≡ v = omega arith in
      rw (encode-more (suc k) v l)
      (sym (group_more (p ++ b ∷ (later ++ q)) start (suc k) unit low (length p) b inside (sym (get_or-append_seam p b (later ++ q) 0)) (omega arith)) ∙
      rw (append_snoc p b (later ++ q), long) at (groups_back k (v / 128) (p ++ b ∷ []) (unit * 128) (low + (b - 128) * unit) smaller) ∙
      same (weigh (b - 128) (v / 128) unit low ∙ ap (λ x. low + x * unit) whole) (omega arith)))

pub reads_back : ReadsBack
unfolding read bytes
reads_back v p q h = groups_back q (length p) 2 v p 1 0 h ∙ same (omega arith) refl

-- what was read in at most k groups of weight `unit` and more, after `low`
record Groups (s : List ℕ) (k unit low at v next : ℕ) : Type 0 where
  later : ℕ
  sum : v ≡ low + later * unit
  after : at < next
  inside : next ≤ length s
  small : AreBytes s → later < 128 ^ k
  fewest : AreBytes s → at + length (encode k later) ≤ next

module _ (s : List ℕ) (start v next : ℕ) where
  no_fault : (row : ℕ) → fault (suc row) start ≡ value v next → ⊥
  no_fault row h = let z : suc row ≡ 0 = ap (λ n. n.refusal) h in omega arith

  groups-read : (k unit low at : ℕ) → groups s start k unit low at ≡ value v next → Groups s k unit low at v next
  unfolding groups
  groups-read zero unit low at h = absurd (no_fault 1 h)
  groups-read (suc k) unit low at h =
      by (ltb at (length s))
      (λ e.
      let i : at < length s = ltb-true at (length s) e in
      let b : ℕ = get_or s at 0 in
      by (ltb b 128)
      (λ f.
      let l : b < 128 = ltb-true b 128 f in
      let g : value (low + b * unit) (at + 1) ≡ value v next = group_last s start k unit low at b i refl l ∙ h in
      let n : at + 1 ≡ next = ap (λ n. n.place) g in
      record {
        later = b;
        sum = sym (ap (λ n. n.value) g);
        after = omega arith;
        inside = omega arith;
        small = λ _. rw (pow-suc 128 k) (omega (arith, one-le-pow k 128 (omega arith)));
        fewest = λ _. rw (encode_one k b l) (omega arith);
      })
      (λ f.
      let l : 128 ≤ b = ltb-false b 128 f in
      let r = groups-read k (unit * 128) (low + (b - 128) * unit) (at + 1) (group_more s start k unit low at b i refl l ∙ h) in
      let w : ℕ = b - 128 + r.later * 128 in
      record {
        later = w;
        sum = r.sum ∙ weigh (b - 128) r.later unit low;
        after = omega arith;
        inside = r.inside;
        small = λ d. rw (pow-suc 128 k) (omega (arith, r.small d, d at i));
        fewest = λ d. by (ltb w 128)
            (λ u. rw (encode_one k w (ltb-true w 128 u)) (omega arith))
            (λ u. rw (encode-more k w (ltb-false w 128 u))
            (let o : w / 128 ≡ r.later = omega (arith, d at i) in rw o (omega (arith, r.fewest d))));
      }))
      (λ e. absurd (no_fault 0 (group_ended s start k unit low at (ltb-false at (length s) e) ∙ h)))

module _ (s : List ℕ) (at v next : ℕ) (h : read s at ≡ value v next) where
  whole : Groups s 3 1 0 at v next
  unfolding read
  whole = groups-read s at v next 3 1 0 at h

  pub read-after : at < next
  read-after = whole.after

  pub read-inside : next ≤ length s
  read-inside = whole.inside

  pub read_small : AreBytes s → v < 2097152
  read_small d = omega (arith, whole.sum, whole.small d)

pub fewest : Fewest
unfolding bytes
fewest s at v next d h =
    let g = whole s at v next h in
    let e : v ≡ g.later = omega (arith, g.sum) in
    rw e (g.fewest d)
