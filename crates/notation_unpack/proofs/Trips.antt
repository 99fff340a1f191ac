-- Reading the line that unpacking writes, and the bytes that packing writes.
use Prim.Native.Nat.{ℕ, zero, suc, ◌+◌, ◌-◌, ◌*◌, ◌/◌, ◌%◌, ◌<◌, ◌≤◌}
use mathlib.Core.Path.{◌≡◌, refl, sym, ◌∙◌, ap}
use mathlib.Core.Bool.{true, false}
use mathlib.Core.List.{List, [], ◌∷◌, ◌++◌, append_assoc}
use native.Mathlib.Omega.{arith}
use lib.ListN.{length, drop, length-append}
use lib.Seq.{drop-drop, take_at, drop_at}
use lib.Dec.{ltb, eqb}
use borrow.Author.Tests.{ltb-true, ltb-false, lt-ltb, le-ltb, ne_eqb, eqb-true, eqb-false}
use Rattle.base.proofs.Bools.{by, and_both, and_left, and_right}
use Rattle.base.proofs.Every.{Every, every_cons}
use Rattle.varint.specs.Varint.{value, groups, read, bytes}
use Rattle.varint.specs.Claims.{AreBytes}
use Rattle.varint.proofs.Laws.{bytes_one, bytes-two, bytes-three}
use Rattle.varint.proofs.Trips.{reads_back, fewest, read_small, read-after, read-inside}
use Rattle.text.specs.Decimal.{ascii, digit, digits, decimal}
use Rattle.text.proofs.Digits.{decimal-one, decimal-more, decimal-some, decimal-length}
use Rattle.notation.specs.Outcomes.{numbers, before}
use Rattle.notation.proofs.Outcomes.{none_left, one_left, no_fault}
use Rattle.notation.specs.Tokens.{separator, ends, comment, newlines, beginning, token_length, token_at, bytes_of}
use Rattle.notation.specs.Words.{max_number, is_digit, all_digits, value_from, number, word_from, word_of}
use Rattle.notation.specs.Packing.{sound, reading_from, reading, encoded}
use Rattle.notation.proofs.Values.{digit as digit_is, digit_low, digit_high}
use Rattle.notation.proofs.Laws.{read_small as text-small}
use Rattle.notation_unpack.specs.Unpacking.{decoded_from, decoded, mark, line_of}
use Rattle.notation_unpack.specs.Claims.{LineReadsBack, PacksShortest, PackedReadsBack, LineBounded, CasesUnpacked}
use Rattle.notation_unpack.proofs.Decoding.{decoded-ended, decoded-faulty, decoded-number, number_read, number-inside}

-- digits one after the other
digits_append : (p q : List ℕ) → all_digits p ≡ true → all_digits q ≡ true → all_digits (p ++ q) ≡ true
unfolding all_digits
digits_append [] q h k = k
digits_append (b ∷ p) q h k = and_both (and_left (is_digit b) (all_digits p) h) (digits_append p q (and_right (is_digit b) (all_digits p) h) k)

value-append : (v : ℕ) (p q : List ℕ) → value_from v (p ++ q) ≡ value_from (value_from v p) q
unfolding value_from
value-append v [] q = refl
value-append v (b ∷ p) q = value-append (v * 10 + (b - 48)) p q

one-digit : (d : ℕ) → d < 10 → all_digits (digit d ∷ []) ≡ true
unfolding all_digits digit
one-digit d h = and_both (digit_is (48 + d) (omega arith) (omega arith)) refl

-- a number in decimal is of digits, and of its own value
record Spells (n : ℕ) : Type 0 where
  all : all_digits (decimal n) ≡ true
  worth : value_from 0 (decimal n) ≡ n

spells : (k n : ℕ) → n < k → Spells n
unfolding value_from digit
spells zero n h = absurd (omega arith)
spells (suc k) n h =
    by (ltb n 10)
    (λ t.
    let l = ltb-true n 10 t in
    record {
      all = rw (decimal-one n l) (one-digit n l);
      worth = rw (decimal-one n l) (omega arith);
    })
    (λ t.
    let l = ltb-false n 10 t in
    let g = spells k (n / 10) (omega arith) in
    record {
      all = rw (decimal-more n l) (digits_append (decimal (n / 10)) (digit (n % 10) ∷ []) g.all (one-digit (n % 10) (omega arith)));
      worth =
          ap (value_from 0) (decimal-more n l) ∙ value-append 0 (decimal (n / 10)) (digit (n % 10) ∷ []) ∙
          ap (λ v. v * 10 + (48 + n % 10 - 48)) g.worth ∙ omega arith;
    })

-- so its bytes are the number
decimal_word : (n : ℕ) → n < 2097152 → word_of (decimal n) ≡ number n
unfolding word_of word_from
decimal_word n h =
    let g = spells (suc n) n (omega arith) in
    rw (g.all, g.worth, le-ltb max_number n (omega arith))

-- no digit ends a token
digit-stays : (b : ℕ) → is_digit b ≡ true → ends b ≡ false
unfolding ends separator
digit-stays b h =
    let l = digit_low b h in
    let k = digit_high b h in
    rw (
      ne_eqb b 32 (λ e. omega arith),
      ne_eqb b 44 (λ e. omega arith),
      ne_eqb b 9 (λ e. omega arith),
      ne_eqb b 10 (λ e. omega arith),
      ne_eqb b 13 (λ e. omega arith),
      ne_eqb b 35 (λ e. omega arith),
    )

token_digits : (w : List ℕ) (m : ℕ) (s : List ℕ) → all_digits w ≡ true → ends m ≡ true → token_length (w ++ (m ∷ s)) ≡ length w
unfolding token_length all_digits
token_digits [] m s h e = rw e
token_digits (b ∷ w) m s h e =
    rw (digit-stays b (and_left (is_digit b) (all_digits w) h), token_digits w m s (and_right (is_digit b) (all_digits w) h) e) (omega arith)

-- a token that begins at once
begin_digits : (w s : List ℕ) (lines at : ℕ) → all_digits w ≡ true → 0 < length w → beginning (w ++ s) false lines at ≡ record { lines = lines; at = at }
unfolding beginning all_digits
begin_digits [] s lines at h l = absurd (omega arith)
begin_digits (b ∷ w) s lines at h l = rw (digit-stays b (and_left (is_digit b) (all_digits w) h))

-- a mark is a separator and begins no comment
mark-ends : (vs : List ℕ) → ends (mark vs) ≡ true
unfolding ends separator mark
mark-ends [] = refl
mark-ends (v ∷ vs) = refl

mark_plain : (vs : List ℕ) → comment false (mark vs) ≡ false
unfolding comment mark
mark_plain [] = refl
mark_plain (v ∷ vs) = refl

module _ (s : List ℕ) where
  -- past a mark
  past-mark : (k lines at : ℕ) (vs : List ℕ) → drop at s ≡ mark vs ∷ line_of vs
      → reading_from (suc k) s lines at ≡ reading_from (suc k) s (lines + newlines (mark vs)) (at + 1)
  unfolding reading_from token_at beginning
  past-mark k lines at vs e =
      let f : drop (at + 1) s ≡ line_of vs = sym (drop-drop 1 at s) ∙ ap (drop 1) e in
      rw (e, f, mark-ends vs, mark_plain vs)

  -- a number and the mark after it
  module _ (lines at v : ℕ) (vs : List ℕ) (h : v < 2097152) (e : drop at s ≡ line_of (v ∷ vs)) where
    token_here : token_at s lines at ≡ record { lines = lines; from = at; to = at + length (decimal v) }
    unfolding token_at line_of
    token_here =
        let g = spells (suc v) v (omega arith) in
        rw (
          e,
          begin_digits (decimal v) (mark vs ∷ line_of vs) lines at g.all (decimal-some v),
          e,
          token_digits (decimal v) (mark vs) (line_of vs) g.all (mark-ends vs),
        )

    bytes-here : bytes_of s (record { lines = lines; from = at; to = at + length (decimal v) }) ≡ decimal v
    unfolding bytes_of line_of
    bytes-here =
        let n : at + length (decimal v) - at ≡ length (decimal v) = omega arith in
        rw (n, e) (take_at (decimal v) (mark vs ∷ line_of vs) (length (decimal v)) refl)

    number-here : (k : ℕ) → reading_from (suc k) s lines at ≡ before v (reading_from k s lines (at + length (decimal v)))
    unfolding reading_from sound
    number-here k =
        rw (token_here, bytes-here, decimal_word v h, lt-ltb at (at + length (decimal v)) (omega (arith, decimal-some v)))

    later-here : drop (at + length (decimal v)) s ≡ mark vs ∷ line_of vs
    unfolding line_of
    later-here =
        sym (drop-drop (length (decimal v)) at s) ∙ ap (drop (length (decimal v))) e ∙
        drop_at (decimal v) (mark vs ∷ line_of vs) (length (decimal v)) refl

  nothing-here : (k lines at : ℕ) → drop at s ≡ [] → reading_from (suc k) s lines at ≡ numbers []
  unfolding reading_from token_at beginning token_length line_of
  nothing-here k lines at e = rw (e, e, le-ltb at (at + 0) (omega arith))

  after-mark : (at : ℕ) (vs : List ℕ) → drop at s ≡ mark vs ∷ line_of vs → drop (at + 1) s ≡ line_of vs
  after-mark at vs e = sym (drop-drop 1 at s) ∙ ap (drop 1) e

  line_read : (vs : List ℕ) (k lines at : ℕ) → length vs < k → Every (λ v. v < 2097152) vs → drop at s ≡ line_of vs
      → reading_from k s lines at ≡ numbers vs
  unfolding line_of before
  line_read vs zero lines at l h e = absurd (omega arith)
  line_read [] (suc k) lines at l h e = nothing-here k lines at e
  line_read (v ∷ vs) (suc zero) lines at l h e = absurd (omega arith)
  line_read (v ∷ vs) (suc (suc k)) lines at l h e =
      let small : v < 2097152 = h 0 (omega arith) in
      let next : ℕ = at + length (decimal v) in
      let r = later-here lines at v vs small e in
      number-here lines at v vs small e (suc k) ∙
      ap (before v)
      (past-mark k lines next vs r ∙
      line_read vs (suc k) (lines + newlines (mark vs)) (next + 1) (omega arith) (λ i j. h (suc i) (omega arith)) (after-mark next vs r))

line_longer : (vs : List ℕ) → length vs ≤ length (line_of vs)
unfolding line_of
line_longer [] = omega arith
line_longer (v ∷ vs) = omega (arith, line_longer vs, length-append (decimal v) (mark vs ∷ line_of vs))

-- a number takes at most four characters for each byte, its mark counted
spelled : (v : ℕ) → v < 2097152 → length (decimal v) + 1 ≤ 4 * length (bytes v)
spelled v h =
    by (ltb v 128)
    (λ t. let l = ltb-true v 128 t in rw (bytes_one v l) (omega (arith, decimal-length 2 v (omega arith))))
    (λ t. by (ltb v 16384)
    (λ u. let l = ltb-true v 16384 u in rw (bytes-two v (ltb-false v 128 t) l) (omega (arith, decimal-length 4 v (omega arith))))
    (λ u. rw (bytes-three v (ltb-false v 16384 u) h) (omega (arith, decimal-length 6 v (omega arith)))))

-- the numbers from a place on: small, in no more bytes than stand there, and their line
record Numbers (s : List ℕ) (at : ℕ) (vs : List ℕ) : Type 0 where
  small : Every (λ v. v < 2097152) vs
  fewer : at + length (encoded vs) ≤ length s
  line : 4 * at + length (line_of vs) ≤ 4 * length s

none-numbers : (s : List ℕ) (at : ℕ) (vs : List ℕ) → at ≤ length s → vs ≡ [] → Numbers s at vs
unfolding encoded line_of
none-numbers s at vs h e = rw e (record { small = λ i l. absurd (omega arith); fewer = omega arith; line = omega arith })

all-numbers : (k : ℕ) (s : List ℕ) (at : ℕ) (vs : List ℕ) → AreBytes s → at ≤ length s → decoded_from k s at ≡ numbers vs → Numbers s at vs
unfolding decoded_from encoded line_of
all-numbers zero s at vs d l e = none-numbers s at vs l (none_left vs e)
all-numbers (suc k) s at vs d l e =
    let n = read s at in
    by (ltb at (length s))
    (λ t.
    let i = ltb-true at (length s) t in
    by (eqb n.refusal 0)
    (λ f.
    let z = eqb-true n.refusal 0 f in
    let o = one_left n.value (decoded_from k s n.place) vs (sym (decoded-number s at n refl k i z) ∙ e) in
    let w = number_read s at n refl z in
    let r = all-numbers k s n.place o.0 d (number-inside s at n refl z) o.2 in
    let small = read_small s at n.value n.place w d in
    let few = fewest s at n.value n.place d w in
    rw o.1 (record {
      small = every_cons (λ v. v < 2097152) n.value o.0 small r.small;
      fewer = omega (arith, r.fewer, few, length-append (bytes n.value) (encoded o.0));
      line = omega (arith, r.line, few, spelled n.value small, length-append (decimal n.value) (mark o.0 ∷ line_of o.0));
    }))
    (λ f. absurd (no_fault (n.refusal, n.place) vs (sym (decoded-faulty s at n refl k i (eqb-false n.refusal 0 f)) ∙ e))))
    (λ t. none-numbers s at vs l (none_left vs (sym (decoded-ended s at n refl k (ltb-false at (length s) t)) ∙ e)))

bytes-numbers : (s vs : List ℕ) → AreBytes s → decoded s ≡ numbers vs → Numbers s 0 vs
unfolding decoded
bytes-numbers s vs d h = all-numbers (suc (length s)) s 0 vs d (omega arith) h

pub line_reads_back : LineReadsBack
unfolding reading
line_reads_back s vs d h =
    line_read (line_of vs) vs (suc (length (line_of vs))) 0 0 (omega (arith, line_longer vs)) (bytes-numbers s vs d h).small refl

pub packs_shortest : PacksShortest
packs_shortest s vs d h = omega (arith, (bytes-numbers s vs d h).fewer)

pub line-bounded : LineBounded
line-bounded s vs d h = omega (arith, (bytes-numbers s vs d h).line)

-- the bytes that packing writes
packed-read : (vs : List ℕ) (k : ℕ) (p : List ℕ) → length vs < k → Every (λ v. v < 2097152) vs
    → decoded_from k (p ++ encoded vs) (length p) ≡ numbers vs
unfolding encoded before
packed-read vs zero p l h = absurd (omega arith)
packed-read [] (suc k) p l h =
    decoded-ended (p ++ []) (length p) (read (p ++ []) (length p)) refl k (omega (arith, length-append p []))
packed-read (v ∷ vs) (suc k) p l h =
    let small : v < 2097152 = h 0 (omega arith) in
    let s : List ℕ = p ++ (bytes v ++ encoded vs) in
    let r = reads_back v p (encoded vs) small in
    let inside : length p < length s = omega (
      arith,
      read-inside s (length p) v (length p + length (bytes v)) r,
      read-after s (length p) v (length p + length (bytes v)) r,
    ) in
    let next : decoded_from k ((p ++ bytes v) ++ encoded vs) (length (p ++ bytes v)) ≡ numbers vs =
    packed-read vs k (p ++ bytes v) (omega arith) (λ i j. h (suc i) (omega arith)) in
    decoded-number s (length p) (value v (length p + length (bytes v))) (sym r) k inside refl ∙
    ap (before v) (rw (append_assoc p (bytes v) (encoded vs), length-append p (bytes v)) at next)

encoded_longer : (vs : List ℕ) → Every (λ v. v < 2097152) vs → length vs ≤ length (encoded vs)
unfolding encoded
encoded_longer [] h = omega arith
encoded_longer (v ∷ vs) h =
    omega (arith, encoded_longer vs (λ i j. h (suc i) (omega arith)), length-append (bytes v) (encoded vs), spelled v (h 0 (omega arith)))

pub packed_reads_back : PackedReadsBack
unfolding decoded
packed_reads_back t vs h =
    let small = text-small t vs h in
    packed-read vs (suc (length (encoded vs))) [] (omega (arith, encoded_longer vs small)) small

pub cases-unpacked : CasesUnpacked
unfolding ascii decimal digits digit mark line_of groups read before decoded_from decoded
cases-unpacked = record { line = refl; padded = refl }
