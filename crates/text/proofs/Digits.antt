-- Laws of decimal numbers.
use Prim.Native.Nat.{ℕ, zero, suc, ◌+◌, ◌*◌, ◌/◌, ◌%◌, ◌^◌, ◌<◌, ◌≤◌}
use mathlib.Core.Path.{◌≡◌, ◌∙◌, ap}
use mathlib.Core.List.{List, [], ◌∷◌, ◌++◌}
use native.Mathlib.Omega.{arith}
use lib.ListN.{length, length-append}
use lib.Dec.{ltb}
use borrow.Author.Tests.{lt-ltb, le-ltb, ltb-true, ltb-false}
use Rattle.std.specs.Fmt.{decimal as library}
use Rattle.std.proofs.lemmas.Fmt.{decimal_by_steps}
use Rattle.base.proofs.Bools.{by}
use Rattle.text.specs.Decimal.{digit, digits, decimal}

-- more digits than enough are the same
fuel : (k j n : ℕ) → n < k → n < j → digits k n ≡ digits j n
unfolding digits
fuel zero j n h l = absurd (omega arith)
fuel (suc k) zero n h l = absurd (omega arith)
fuel (suc k) (suc j) n h l =
    by (ltb n 10)
    (λ e. rw e)
    (λ e. let g = ltb-false n 10 e in rw (e, fuel k j (n / 10) (omega arith) (omega arith)))

-- one digit, or one more
pub decimal-one : (n : ℕ) → n < 10 → decimal n ≡ digit n ∷ []
unfolding decimal digits
decimal-one n h = rw (lt-ltb n 10 h)

pub decimal-more : (n : ℕ) → 10 ≤ n → decimal n ≡ decimal (n / 10) ++ digit (n % 10) ∷ []
unfolding decimal digits
decimal-more n h = rw (le-ltb n 10 h, fuel n (suc (n / 10)) (n / 10) (omega arith) (omega arith))

-- a number below 10 ^ k has at most k digits
pub decimal-length : (k n : ℕ) → n < 10 ^ suc k → length (decimal n) ≤ suc k
decimal-length zero n h = rw (decimal-one n (omega (arith, h))) (omega arith)
decimal-length (suc k) n h =
    by (ltb n 10)
    (λ e. rw (decimal-one n (ltb-true n 10 e)) (omega arith))
    (λ e.
    let p : 10 ^ suc (suc k) ≡ 10 * 10 ^ suc k = omega arith in
    let l : n / 10 < 10 ^ suc k = omega arith in
    let i = decimal-length k (n / 10) l in
    rw (decimal-more n (ltb-false n 10 e), length-append (decimal (n / 10)) (digit (n % 10) ∷ [])) (omega arith))

-- no number is empty
pub decimal-some : (n : ℕ) → 0 < length (decimal n)
decimal-some n =
    by (ltb n 10)
    (λ e. rw (decimal-one n (ltb-true n 10 e)) (omega arith))
    (λ e. rw (decimal-more n (ltb-false n 10 e), length-append (decimal (n / 10)) (digit (n % 10) ∷ [])) (omega arith))

-- a byte, and any number of a program
pub byte_length : (n : ℕ) → n < 256 → length (decimal n) ≤ 3
byte_length n h = decimal-length 2 n (omega arith)

pub word_length : (n : ℕ) → n < 2 ^ 64 → length (decimal n) ≤ 20
word_length n h = decimal-length 19 n (omega arith)

-- a word and a number, twice
pub pair-length : (p q : List ℕ) (n m : ℕ)
    → length ((p ++ decimal n) ++ (q ++ decimal m)) ≡ length p + length q + (length (decimal n) + length (decimal m))
pair-length p q n m =
    rw (length-append (p ++ decimal n) (q ++ decimal m), length-append p (decimal n), length-append q (decimal m)) (omega arith)

-- the library's digits are the same
pub decimal_is : (n : ℕ) → n < 2 ^ 64 → decimal n ≡ library n
unfolding digit
decimal_is n h =
    decimal_by_steps (λ m ds. decimal m ≡ ds)
    (λ m l. decimal-one m l)
    (λ m ds l e. decimal-more m l ∙ ap (λ ds. ds ++ digit (m % 10) ∷ []) e)
    n h
