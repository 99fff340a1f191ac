-- Packing is never longer than the text; some texts.
use Prim.Native.Nat.{ℕ, zero, suc, ◌+◌, ◌<◌, ◌≤◌}
use mathlib.Core.Path.{◌≡◌, refl, sym, ◌∙◌}
use mathlib.Core.Bool.{true}
use mathlib.Core.List.{List, [], ◌∷◌}
use native.Mathlib.Omega.{arith}
use lib.ListN.{length, get_or, length-append}
use lib.Dec.{ltb, leb}
use borrow.Author.Tests.{ltb-true, ltb-false, le-leb}
use Rattle.base.proofs.Bools.{by}
use Rattle.varint.specs.Varint.{bytes}
use Rattle.text.specs.Decimal.{ascii}
use Rattle.notation.specs.Tokens.{separator, ends, comment, newlines, beginning, token_length, token_at, bytes_of}
use Rattle.notation.specs.Words.{is_digit, all_digits, value_from, word_from, word_of}
use Rattle.notation.specs.Outcomes.{numbers, before}
use Rattle.notation.specs.Packing.{sound, reading_from, reading, encoded, refused, packed}
use Rattle.notation.specs.Items.{item_at}
use Rattle.notation.specs.Claims.{NeverLonger, RoomInText, ReadSmall, CasesRead}
use Rattle.notation.proofs.Readings.{item_lies, item_small, item_fewer, item_ended, item_faulty, item_number}
use Rattle.notation.proofs.Outcomes.{none_left, one_left, no_fault}

-- the numbers from a place on take no more bytes than stand there, and each is small
pub record Numbers (s : List ℕ) (at : ℕ) (vs : List ℕ) : Type 0 where
  pub fewer : at + length (encoded vs) ≤ length s
  pub small : (i : ℕ) → i < length vs → get_or vs i 0 < 2097152

none-numbers : (s : List ℕ) (at : ℕ) (vs : List ℕ) → at ≤ length s → vs ≡ [] → Numbers s at vs
unfolding encoded
none-numbers s at vs h e = rw e (record { fewer = omega arith; small = λ i l. absurd (omega arith) })

small-more : (v : ℕ) (vs : List ℕ) → v < 2097152 → ((i : ℕ) → i < length vs → get_or vs i 0 < 2097152)
    → (i : ℕ) → i < length (v ∷ vs) → get_or (v ∷ vs) i 0 < 2097152
small-more v vs h f zero l = h
small-more v vs h f (suc i) l = f i (omega arith)

all-numbers : (k : ℕ) (s : List ℕ) (lines at : ℕ) (vs : List ℕ) → lines ≤ at → at ≤ length s → reading_from k s lines at ≡ numbers vs
    → Numbers s at vs
unfolding reading_from encoded
all-numbers zero s lines at vs h l e = none-numbers s at vs l (none_left vs e)
all-numbers (suc k) s lines at vs h l e =
    let i = item_at s lines at in
    let g = item_lies s lines at i refl h l in
    by (ltb i.token.from i.token.to)
    (λ t.
    let more = ltb-true i.token.from i.token.to t in
    by (sound i.word.fault)
    (λ f.
    let o = one_left i.word.value (reading_from k s i.token.lines i.token.to) vs (sym (item_number s lines at i refl k more f) ∙ e) in
    let r = all-numbers k s i.token.lines i.token.to o.0 (omega (arith, g.counted, g.order)) g.inside o.2 in
    rw o.1 (record {
      fewer = omega (arith, r.fewer, g.after, item_fewer s lines at i refl h l more, length-append (bytes i.word.value) (encoded o.0));
      small = small-more i.word.value o.0 (item_small s lines at i refl) r.small;
    }))
    (λ f. absurd (no_fault (i.word.fault, i.token) vs (sym (item_faulty s lines at i refl k more f) ∙ e))))
    (λ t. none-numbers s at vs l (none_left vs (sym (item_ended s lines at i refl k (ltb-false i.token.from i.token.to t)) ∙ e)))

text_numbers : (s vs : List ℕ) → reading s ≡ numbers vs → Numbers s 0 vs
unfolding reading
text_numbers s vs h = all-numbers (suc (length s)) s 0 0 vs (omega arith) (omega arith) h

pub never_longer : NeverLonger
never_longer s vs h = omega (arith, (text_numbers s vs h).fewer)

pub read_small : ReadSmall
read_small s vs h = (text_numbers s vs h).small

pub room_in_text : RoomInText
unfolding packed
room_in_text s vs out h l =
    let t : leb (length (encoded vs)) (length out) ≡ true = le-leb (length (encoded vs)) (length out) (omega (arith, never_longer s vs h)) in
    rw (h, t)

pub cases-read : CasesRead
unfolding ascii separator ends comment newlines beginning token_length token_at bytes_of is_digit all_digits value_from word_from word_of sound before reading_from reading packed refused
cases-read =
    record {
      automaton = refl;
      comments = refl;
      first-stands = refl;
    }
