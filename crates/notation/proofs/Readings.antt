-- Laws of reading a text token by token.
use Prim.Native.Nat.{ℕ, suc, ◌+◌, ◌-◌, ◌<◌, ◌≤◌}
use mathlib.Core.Path.{◌≡◌}
use mathlib.Core.Bool.{true, false}
use mathlib.Core.List.{List, [], ◌∷◌}
use native.Mathlib.Omega.{arith}
use lib.ListN.{length, drop, length-drop}
use lib.Seq.{length-take-le}
use lib.Dec.{ltb}
use borrow.Author.Tests.{lt-ltb, le-ltb, ltb-true, ltb-false}
use Rattle.base.proofs.Bools.{by, and_left, and_right}
use Rattle.varint.specs.Varint.{bytes}
use Rattle.varint.proofs.Laws.{bytes_one, bytes-two, bytes-three}
use Rattle.notation.specs.Tokens.{token_at, bytes_of}
use Rattle.notation.specs.Words.{max_number, is_digit, all_digits, value_from, word_from, word_of}
use Rattle.notation.specs.Outcomes.{numbers, faulty, before}
use Rattle.notation.specs.Packing.{sound, reading_from}
use Rattle.notation.specs.Items.{Item, item_at}
use Rattle.notation.proofs.Finding.{Lies, token_lies}
use Rattle.notation.proofs.Values.{digit_high}

-- the length of a number's bytes, by its value
pub bytes_most : (v : ℕ) → v < 2097152 → length (bytes v) ≤ 3
bytes_most v h =
    by (ltb v 128)
    (λ e. rw (bytes_one v (ltb-true v 128 e)) (omega arith))
    (λ e. by (ltb v 16384)
    (λ f. rw (bytes-two v (ltb-false v 128 e) (ltb-true v 16384 f)) (omega arith))
    (λ f. rw (bytes-three v (ltb-false v 16384 f) h) (omega arith)))

bytes-two_most : (v : ℕ) → v < 16384 → length (bytes v) ≤ 2
bytes-two_most v h =
    by (ltb v 128)
    (λ e. rw (bytes_one v (ltb-true v 128 e)) (omega arith))
    (λ e. rw (bytes-two v (ltb-false v 128 e) h) (omega arith))

-- every number of a word is one of three groups at most
pub word_small : (w : List ℕ) → (word_of w).value < 2097152
unfolding word_of word_from
word_small w =
    by (all_digits w)
    (λ e. rw e (by (ltb max_number (value_from 0 w))
    (λ f. rw f (omega arith))
    (λ f. rw f (omega (arith, ltb-false max_number (value_from 0 w) f)))))
    (λ e. rw e (omega arith))

-- its value is that of its digits, or 0
word_value : (w : List ℕ) (P : ℕ → Type 0) → P 0 → (all_digits w ≡ true → P (value_from 0 w)) → P (word_of w).value
unfolding word_of word_from
word_value w P z f =
    by (all_digits w)
    (λ e. rw e (by (ltb max_number (value_from 0 w)) (λ g. rw g z) (λ g. rw g (f e))))
    (λ e. rw e z)

-- a digit is worth 9 at most
worth : (b : ℕ) (w : List ℕ) → all_digits (b ∷ w) ≡ true → (b - 48 ≤ 9) × (all_digits w ≡ true)
unfolding all_digits
worth b w h =
    (omega (arith, digit_high b (and_left (is_digit b) (all_digits w) h)), and_right (is_digit b) (all_digits w) h)

two_digits : (a b : ℕ) → all_digits (a ∷ b ∷ []) ≡ true → value_from 0 (a ∷ b ∷ []) < 128
unfolding value_from
two_digits a b h =
    let x = worth a (b ∷ []) h in
    let y = worth b [] x.1 in
    omega (arith, x.0, y.0)

four-digits : (a b c d : ℕ) → all_digits (a ∷ b ∷ c ∷ d ∷ []) ≡ true → value_from 0 (a ∷ b ∷ c ∷ d ∷ []) < 16384
unfolding value_from
four-digits a b c d h =
    let x = worth a (b ∷ c ∷ d ∷ []) h in
    let y = worth b (c ∷ d ∷ []) x.1 in
    let z = worth c (d ∷ []) y.1 in
    let u = worth d [] z.1 in
    omega (arith, x.0, y.0, z.0, u.0)

three-digits : (a b c : ℕ) → all_digits (a ∷ b ∷ c ∷ []) ≡ true → value_from 0 (a ∷ b ∷ c ∷ []) < 16384
unfolding value_from
three-digits a b c h =
    let x = worth a (b ∷ c ∷ []) h in
    let y = worth b (c ∷ []) x.1 in
    let z = worth c [] y.1 in
    omega (arith, x.0, y.0, z.0)

one-digit : (a : ℕ) → all_digits (a ∷ []) ≡ true → value_from 0 (a ∷ []) < 128
unfolding value_from
one-digit a h = let x = worth a [] h in omega (arith, x.0)

-- a number takes no more bytes than its token
at_most : (n : ℕ) → n < 128 → length (bytes n) ≤ 1
at_most n h = rw (bytes_one n h) (omega arith)

pub word_fewer : (w : List ℕ) → 0 < length w → length (bytes (word_of w).value) ≤ length w
word_fewer [] h = absurd (omega arith)
word_fewer (a ∷ []) h = word_value (a ∷ []) (λ n. length (bytes n) ≤ 1) (at_most 0 (omega arith)) (λ e. at_most _ (one-digit a e))
word_fewer (a ∷ b ∷ []) h =
    let l = word_value (a ∷ b ∷ []) (λ n. length (bytes n) ≤ 1) (at_most 0 (omega arith)) (λ e. at_most _ (two_digits a b e)) in
    omega (arith, l)
word_fewer (a ∷ b ∷ c ∷ []) h =
    let l = word_value (a ∷ b ∷ c ∷ []) (λ n. length (bytes n) ≤ 2) (bytes-two_most 0 (omega arith)) (λ e. bytes-two_most _ (three-digits a b c e)) in
    omega (arith, l)
word_fewer (a ∷ b ∷ c ∷ d ∷ []) h =
    let l = word_value (a ∷ b ∷ c ∷ d ∷ []) (λ n. length (bytes n) ≤ 2) (bytes-two_most 0 (omega arith)) (λ e. bytes-two_most _ (four-digits a b c d e)) in
    omega (arith, l)
word_fewer (a ∷ b ∷ c ∷ d ∷ e ∷ w) h = omega (arith, bytes_most (word_of (a ∷ b ∷ c ∷ d ∷ e ∷ w)).value (word_small (a ∷ b ∷ c ∷ d ∷ e ∷ w)))

-- the next token and what its bytes are
module _ (s : List ℕ) (lines at : ℕ) (i : Item) (e : i ≡ item_at s lines at) where
  pub item_lies : lines ≤ at → at ≤ length s → Lies s at i.token
  unfolding item_at
  item_lies h l = rw e (token_lies s lines at h l)

  pub item_small : i.word.value < 2097152
  unfolding item_at
  item_small = rw e (word_small (bytes_of s (token_at s lines at)))

  pub item_fewer : lines ≤ at → at ≤ length s → i.token.from < i.token.to
      → i.token.from + length (bytes i.word.value) ≤ i.token.to
  unfolding item_at bytes_of
  item_fewer h l =
      let t = token_at s lines at in
      let g = token_lies s lines at h l in
      let n : length (bytes_of s t) ≡ t.to - t.from =
      length-take-le (t.to - t.from) (drop t.from s) (omega (arith, g.inside, length-drop t.from s)) in
      rw e (λ m. omega (arith, n, word_fewer (bytes_of s t) (omega (arith, n))))

  module _ (k : ℕ) where
    pub item_ended : i.token.to ≤ i.token.from → reading_from (suc k) s lines at ≡ numbers []
    unfolding item_at reading_from
    item_ended = rw e (λ h. rw (le-ltb (token_at s lines at).from (token_at s lines at).to h))

    pub item_faulty : i.token.from < i.token.to → sound i.word.fault ≡ false
        → reading_from (suc k) s lines at ≡ faulty (i.word.fault, i.token)
    unfolding item_at reading_from
    item_faulty = rw e (λ h f. rw (lt-ltb (token_at s lines at).from (token_at s lines at).to h, f))

    pub item_number : i.token.from < i.token.to → sound i.word.fault ≡ true
        → reading_from (suc k) s lines at ≡ before i.word.value (reading_from k s i.token.lines i.token.to)
    unfolding item_at reading_from
    item_number = rw e (λ h f. rw (lt-ltb (token_at s lines at).from (token_at s lines at).to h, f))
