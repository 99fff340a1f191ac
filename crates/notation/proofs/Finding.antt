-- Laws of finding tokens.
use Prim.Native.Nat.{ℕ, ◌+◌, ◌-◌, ◌<◌, ◌≤◌}
use mathlib.Core.Path.{◌≡◌, refl}
use mathlib.Core.Bool.{Bool, true, false, ◌||◌}
use mathlib.Core.List.{List, [], ◌∷◌}
use native.Mathlib.Numerals.{add-one}
use native.Mathlib.Omega.{arith}
use lib.ListN.{length, get_or, take, drop, length-drop, drop_of_length-le}
use lib.Seq.{drop-cons, take_all}
use lib.Dec.{eqb, ltb}
use borrow.Author.Tests.{ltb-false}
use Rattle.std.specs.Prelude.{Option, Some, None}
use Rattle.std.specs.List.{position, position_or_len}
use Rattle.std.proofs.lemmas.List.Recursion.{is_position_or_len}
use Rattle.base.proofs.Bools.{by}
use Rattle.notation.specs.Tokens.{Place, Token, ends, comment, newlines, beginning, token_length, token_at}

-- a byte ends a line or none
pub newlines_most : (b : ℕ) → newlines b ≤ 1
unfolding newlines
newlines_most b = by (eqb b 10) (λ e. rw e (omega arith)) (λ e. rw e (omega arith))

-- one more byte of a list, as a loop goes
pub next_byte : (s : List ℕ) (at : ℕ) → at < length s → drop at s ≡ get_or s at 0 ∷ drop (at + 1) s
next_byte s at h = rw (add-one at) (drop-cons s at 0 h)

-- the bytes from a place on, as a program takes them
pub rest : (s : List ℕ) (at : ℕ) → take (length s - at) (drop at s) ≡ drop at s
rest s at = take_all (length s - at) (drop at s) (omega (arith, length-drop at s))

-- the loop that looks for the next token
pub record Beginning (s : List ℕ) (lines from ended at : ℕ) (c : Bool) : Type 0 where
  pub inside : at ≤ length s
  pub counted : ended ≤ at
  pub so_far : beginning (drop at s) c ended at ≡ beginning (drop from s) false lines from

pub beginning_begins : (s : List ℕ) (lines from : ℕ) → lines ≤ from → from ≤ length s → Beginning s lines from lines from false
beginning_begins s lines from h l = record { inside = l; counted = h; so_far = refl }

module _ {s : List ℕ} {lines from ended at : ℕ} {c : Bool} (g : Beginning s lines from ended at c) where
  pub beginning-ended : length s ≤ at → record { lines = ended; at = at } ≡ beginning (drop from s) false lines from
  unfolding beginning
  beginning-ended h = rw (drop_of_length-le s h) at g.so_far

  pub beginning-found : at < length s → (c || ends (get_or s at 0)) ≡ false
      → record { lines = ended; at = at } ≡ beginning (drop from s) false lines from
  unfolding beginning
  beginning-found h e = rw (next_byte s at h, e) at g.so_far

  pub beginning-goes_on : at < length s → (c || ends (get_or s at 0)) ≡ true
      → Beginning s lines from (ended + newlines (get_or s at 0)) (at + 1) (comment c (get_or s at 0))
  unfolding beginning
  beginning-goes_on h e =
      record {
        inside = omega arith;
        counted = omega (arith, newlines_most (get_or s at 0), g.counted);
        so_far = rw (next_byte s at h, e) at g.so_far;
      }

-- the loop that looks for a token's end
pub record Scanning (s : List ℕ) (from at : ℕ) : Type 0 where
  pub inside : at ≤ length s
  pub so_far : at + token_length (drop at s) ≡ from + token_length (drop from s)

module _ {s : List ℕ} {from at : ℕ} (g : Scanning s from at) where
  pub scanning_ended : length s ≤ at → at ≡ from + token_length (drop from s)
  unfolding token_length
  scanning_ended h = let e : at + 0 ≡ from + token_length (drop from s) = rw (drop_of_length-le s h) at g.so_far in omega arith

  pub scanning_found : at < length s → ends (get_or s at 0) ≡ true → at ≡ from + token_length (drop from s)
  unfolding token_length
  scanning_found h e = let i : at + 0 ≡ from + token_length (drop from s) = rw (next_byte s at h, e) at g.so_far in omega arith

  pub scanning_goes_on : at < length s → ends (get_or s at 0) ≡ false → Scanning s from (at + 1)
  unfolding token_length
  scanning_goes_on h e =
      let i : at + (token_length (drop (at + 1) s) + 1) ≡ from + token_length (drop from s) = rw (next_byte s at h, e) at g.so_far in
      record { inside = omega arith; so_far = omega arith }

-- where the next token begins
pub record Begun (n lines at : ℕ) (p : Place) : Type 0 where
  pub after : at ≤ p.at
  pub inside : p.at ≤ at + n
  pub counted : lines ≤ at → p.lines ≤ p.at

begun : (s : List ℕ) (c : Bool) (lines at : ℕ) → Begun (length s) lines at (beginning s c lines at)
unfolding beginning
begun [] c lines at = record { after = omega arith; inside = omega arith; counted = λ h. h }
begun (b ∷ s) c lines at =
    let i = begun s (comment c b) (lines + newlines b) (at + 1) in
    by (c || ends b)
    (λ e. rw e (record {
      after = omega (arith, i.after);
      inside = omega (arith, i.inside);
      counted = λ h. i.counted (omega (arith, newlines_most b));
    }))
    (λ e. rw e (record { after = omega arith; inside = omega arith; counted = λ h. h }))

pub begun-inside : (s : List ℕ) (lines at : ℕ) → at ≤ length s → (beginning (drop at s) false lines at).at ≤ length s
begun-inside s lines at h = omega (arith, (begun (drop at s) false lines at).inside, length-drop at s)

token_most : (s : List ℕ) → token_length s ≤ length s
unfolding token_length
token_most [] = omega arith
token_most (b ∷ s) = by (ends b) (λ e. rw e (omega arith)) (λ e. rw e (omega (arith, token_most s)))

-- a token's bytes are those before the first that ends it, or all that there are
module _ (s : List ℕ) where
  token_before : token_length s ≡ position_or_len ends s
  unfolding token_length
  token_before = is_position_or_len token_length ends refl (λ b l. by (ends b) (λ e. rw e) (λ e. rw e (omega arith))) s

  token_found : (n : ℕ) → position ends s ≡ Some n → n ≡ token_length s
  token_found n h =
      by (ltb (position_or_len ends s) (length s))
      (λ t. let e : Some (position_or_len ends s) ≡ Some n = rw t at h in cc (token_before))
      (λ t. let e : ◌≡◌ {A = Option ℕ} None (Some n) = rw t at h in cc)

  token_whole : position ends s ≡ None → token_length s ≡ length s
  token_whole h =
      by (ltb (position_or_len ends s) (length s))
      (λ t. let e : ◌≡◌ {A = Option ℕ} (Some (position_or_len ends s)) None = rw t at h in cc)
      (λ t. omega (arith, token_before, token_most s, ltb-false _ _ t))

-- .. from a place on
module _ (s : List ℕ) (at : ℕ) (inside : at ≤ length s) where
  pub end_found : (n : ℕ) → position ends (take (length s - at) (drop at s)) ≡ Some n
      → (at + n ≤ length s) × (at + n ≡ at + token_length (drop at s))
  end_found n h =
      let e : n ≡ token_length (drop at s) = token_found (drop at s) n (rw (rest s at) at h) in
      (omega (arith, e, token_most (drop at s), length-drop at s), omega (arith, e))

  pub end_whole : position ends (take (length s - at) (drop at s)) ≡ None → length s ≡ at + token_length (drop at s)
  end_whole h = omega (arith, token_whole (drop at s) (rw (rest s at) at h), length-drop at s)

-- a token lies in the text, after the place from which it was looked for
pub record Lies (s : List ℕ) (at : ℕ) (t : Token) : Type 0 where
  pub after : at ≤ t.from
  pub order : t.from ≤ t.to
  pub inside : t.to ≤ length s
  pub counted : t.lines ≤ t.from

pub token_lies : (s : List ℕ) (lines at : ℕ) → lines ≤ at → at ≤ length s → Lies s at (token_at s lines at)
unfolding token_at
token_lies s lines at h l =
    let g = begun (drop at s) false lines at in
    let p = beginning (drop at s) false lines at in
    let i = begun-inside s lines at l in
    record {
      after = g.after;
      order = omega arith;
      inside = omega (arith, token_most (drop p.at s), length-drop p.at s);
      counted = g.counted h;
    }
