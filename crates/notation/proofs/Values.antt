-- Laws of the number that a token's bytes stand for.
use Prim.Native.Nat.{ℕ, ◌+◌, ◌-◌, ◌*◌, ◌<◌, ◌≤◌}
use mathlib.Core.Path.{◌≡◌, refl, sym, ◌∙◌}
use mathlib.Core.Bool.{true, false}
use mathlib.Core.List.{List, [], ◌∷◌}
use native.Mathlib.Omega.{arith}
use lib.ListN.{length, get_or, drop, drop_of_length-le}
use lib.Dec.{ltb, leb}
use borrow.Author.Tests.{lt-ltb, le-ltb, le-leb, ltb-true, leb-true}
use Rattle.std.specs.Char.{is_ascii_digit}
use Rattle.base.proofs.Bools.{by, and_left, and_right, and_both}
use Rattle.notation.specs.Words.{NotNumber, TooLarge, max_number, is_digit, all_digits, value_from, number, wrong, word_from, word_of}
use Rattle.notation.specs.Items.{capped}
use Rattle.notation.proofs.Finding.{next_byte}

-- a digit, or none
module _ (b : ℕ) where
  pub digit : 48 ≤ b → b ≤ 57 → is_digit b ≡ true
  unfolding is_digit
  digit h l = and_both (le-leb 48 b h) (le-leb b 57 l)

  pub ascii_digit : is_ascii_digit b ≡ is_digit b
  unfolding is_digit
  ascii_digit = refl

  pub digit_low : is_digit b ≡ true → 48 ≤ b
  unfolding is_digit
  digit_low h = leb-true 48 b (and_left (leb 48 b) (leb b 57) h)

  pub digit_high : is_digit b ≡ true → b ≤ 57
  unfolding is_digit
  digit_high h = leb-true b 57 (and_right (leb 48 b) (leb b 57) h)

-- digits only make a number larger
pub value_grows : (v : ℕ) (w : List ℕ) → v ≤ value_from v w
unfolding value_from
value_grows v [] = omega arith
value_grows v (b ∷ w) = omega (arith, value_grows (v * 10 + (b - 48)) w)

-- bytes after digits of value v
module _ (v : ℕ) where
  word_number : v ≤ max_number → number v ≡ word_from v []
  unfolding word_from all_digits value_from
  word_number h = rw (le-ltb max_number v h)

  word_large : max_number < v → wrong TooLarge ≡ word_from v []
  unfolding word_from all_digits value_from
  word_large h = rw (lt-ltb max_number v h)

  module _ (b : ℕ) (w : List ℕ) where
    word_wrong : is_digit b ≡ false → wrong NotNumber ≡ word_from v (b ∷ w)
    unfolding word_from all_digits
    word_wrong h = rw h

    word_goes_on : is_digit b ≡ true → word_from (v * 10 + (b - 48)) w ≡ word_from v (b ∷ w)
    unfolding word_from all_digits value_from
    word_goes_on h = rw h

  -- above the largest number, how far above says nothing
  word_capped : (w : List ℕ) → word_from (capped v) w ≡ word_from v w
  unfolding word_from capped
  word_capped w =
      by (ltb max_number v)
      (λ e.
      let l : max_number < value_from v w = omega (arith, ltb-true max_number v e, value_grows v w) in
      let k : max_number < value_from 2097152 w = omega (arith, value_grows 2097152 w) in
      rw (e, lt-ltb max_number (value_from v w) l, lt-ltb max_number (value_from 2097152 w) k))
      (λ e. rw e)

-- the loop over the bytes
pub record Reads (w : List ℕ) (v i : ℕ) : Type 0 where
  pub small : v ≤ 2097152
  pub so_far : word_from v (drop i w) ≡ word_of w

pub reads_begin : (w : List ℕ) → Reads w 0 0
unfolding word_of
reads_begin w = record { small = omega arith; so_far = refl }

module _ {w : List ℕ} {v i : ℕ} (g : Reads w v i) where
  module _ (h : i < length w) where
    abbrev b : ℕ
    b = get_or w i 0

    here : word_from v (b ∷ drop (i + 1) w) ≡ word_of w
    here = rw (next_byte w i h) at g.so_far

    pub reads_wrong : is_ascii_digit b ≡ false → wrong NotNumber ≡ word_of w
    reads_wrong l = word_wrong v b (drop (i + 1) w) (sym (ascii_digit b) ∙ l) ∙ here

    pub reads_on : {x : ℕ} → is_ascii_digit b ≡ true → x ≡ capped (v * 10 + (b - 48)) → x ≤ 2097152 → Reads w x (i + 1)
    reads_on {x} l f m =
        record {
          small = m;
          so_far = rw f (word_capped (v * 10 + (b - 48)) (drop (i + 1) w) ∙ word_goes_on v b (drop (i + 1) w) (sym (ascii_digit b) ∙ l) ∙ here);
        }

  module _ (h : length w ≤ i) where
    ended : word_from v [] ≡ word_of w
    ended = rw (drop_of_length-le w h) at g.so_far

    pub reads_large : max_number < v → wrong TooLarge ≡ word_of w
    reads_large l = word_large v l ∙ ended

    pub reads_number : v ≤ max_number → number v ≡ word_of w
    reads_number l = word_number v l ∙ ended
