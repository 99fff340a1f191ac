-- Laws of the pass that checks and of the one that writes.
use Prim.Native.Nat.{ℕ, zero, suc, ◌+◌, ◌<◌, ◌≤◌}
use mathlib.Core.Path.{◌≡◌, refl, sym, ◌∙◌, ap}
use mathlib.Core.Bool.{true, false}
use mathlib.Core.List.{List, [], ◌∷◌, ◌++◌, append_assoc, append-nil}
use native.Mathlib.Nat.{zero-add}
use native.Mathlib.Omega.{arith}
use lib.ListN.{length, length-append}
use lib.Dec.{leb, ltb}
use borrow.Author.Tests.{le-leb, lt-leb, ltb-true, ltb-false}
use Rattle.base.proofs.Bools.{by, clash}
use Rattle.varint.specs.Varint.{bytes}
use Rattle.text.specs.Decimal.{Appended}
use Rattle.text.proofs.Appending.{behind, said, kept}
use Rattle.notation.specs.Tokens.{Token}
use Rattle.notation.specs.Words.{Fault, None, number, wrong}
use Rattle.std.specs.Prelude.{Ok, Err}
use Rattle.notation.specs.declared.WordFault.{WordFault}
use Rattle.notation.specs.declared.WordFault.TheVariants.{NotNumber as NoNumber, TooLarge as Over}
use Rattle.notation.specs.declared.Found.{Found}
use Rattle.notation.specs.declared.FaultyToken.{FaultyToken}
use Rattle.notation.specs.Results.{fault_of, as_word, as_item, as_refused}
use Rattle.notation.specs.Outcomes.{numbers, faulty, before}
use Rattle.notation.specs.Packing.{Packed, Reading, sound, reading_from, reading, encoded, done, no_room, refused, packed, packed_buffer}
use Rattle.notation.specs.Items.{Item, item_at, checked, StoreGroupsRequires}
use Rattle.notation.proofs.Outcomes.{Stands, stands-first, stands-next, left, split, none_left, one_left, no_fault, fault-before, same-fault, placed-fits, placed-short}
use Rattle.notation.proofs.Finding.{Lies}
use Rattle.notation.proofs.Readings.{item_lies, item_small, item_fewer, item_ended, item_faulty, item_number}

-- a word that is a number is sound, and one that is not is not
sound-none : sound None ≡ true
unfolding sound
sound-none = refl

unsound : (f : WordFault) → sound (fault_of f) ≡ false
unfolding sound
unsound NoNumber = refl
unsound Over = refl

-- what was found, as an item: with a number, and with none
abbrev with-number : Found → ℕ → Item
with-number f v = record { token = f.token; word = number v }

abbrev with-fault : Found → WordFault → Item
with-fault f x = record { token = f.token; word = wrong (fault_of x) }

module _ (f : Found) {i : Item} (e : as_item f ≡ i) where
  found-number : (v : ℕ) → f.word ≡ Ok v → with-number f v ≡ i
  found-number v h = ap (λ w. record { token = f.token; word = as_word w }) (sym h) ∙ e

  found-fault : (x : WordFault) → f.word ≡ Err x → with-fault f x ≡ i
  found-fault x h = ap (λ w. record { token = f.token; word = as_word w }) (sym h) ∙ e

-- counting on
checked-none : (n : ℕ) → done n ≡ checked n (numbers [])
unfolding checked encoded
checked-none n = let e : n ≡ n + 0 = omega arith in ap done e

checked-before : (n v : ℕ) (r : Reading) → checked (n + length (bytes v)) r ≡ checked n (before v r)
unfolding checked before encoded
checked-before n v (faulty x) = refl
checked-before n v (numbers vs) =
    let e : n + length (bytes v) + length (encoded vs) ≡ n + length (bytes v ++ encoded vs) = rw (length-append (bytes v) (encoded vs)) (omega arith) in
    ap done e

-- where a pass over the tokens stands: as many steps are left as are enough
pub record Walks (s : List ℕ) (lines at : ℕ) : Type 0 where
  pub stands : Stands s at
  pub counted : lines ≤ at

unfoldable walks_first : (s : List ℕ) → Walks s 0 0
walks_first s = record { stands = stands-first s; counted = omega arith }

-- .. and after one more token
module _ {s : List ℕ} {lines at : ℕ} (g : Walks s lines at) (i : Item) (e : i ≡ item_at s lines at) where
  pub lies : Lies s at i.token
  lies = item_lies s lines at i e g.counted g.stands.inside

  module _ (more : i.token.from < i.token.to) where
    further : at < i.token.to
    further = omega (arith, lies.after)

    steps-more : (k : ℕ) × (g.stands.steps ≡ suc k)
    steps-more = left g.stands further lies.inside

    unfoldable walks_next : Walks s i.token.lines i.token.to
    walks_next = record { stands = stands-next g.stands further lies.inside; counted = omega (arith, lies.counted, lies.order) }

-- the pass that checks
pub record Checking (s : List ℕ) (lines at n : ℕ) : Type 0 where
  pub walks : Walks s lines at
  pub fewer : n ≤ at
  pub so_far : checked n (reading_from (suc walks.stands.steps) s lines at) ≡ checked 0 (reading s)

pub checking_begins : (s : List ℕ) → Checking s 0 0 0
unfolding reading walks_first stands-first
checking_begins s = record { walks = walks_first s; fewer = omega arith; so_far = refl }

module _ {s : List ℕ} {lines at n : ℕ} (g : Checking s lines at n) (i : Item) (e : i ≡ item_at s lines at) where
  pub checking_ended : i.token.to ≤ i.token.from → done n ≡ checked 0 (reading s)
  checking_ended h = checked-none n ∙ ap (checked n) (sym (item_ended s lines at i e g.walks.stands.steps h)) ∙ g.so_far

  module _ (more : i.token.from < i.token.to) where
    pub checking_refused : sound i.word.fault ≡ false → refused i.word.fault i.token ≡ checked 0 (reading s)
    unfolding checked
    checking_refused f = ap (checked n) (sym (item_faulty s lines at i e g.walks.stands.steps more f)) ∙ g.so_far

    module _ (m : ℕ) (c : m ≡ length (bytes i.word.value)) where
      pub checking_most : n + m ≤ i.token.to
      checking_most =
          omega (arith, g.fewer, c, (lies g.walks i e).after, item_fewer s lines at i e g.walks.counted g.walks.stands.inside more)

      pub checking_goes_on : sound i.word.fault ≡ true → Checking s i.token.lines i.token.to (n + m)
      unfolding walks_next steps-more stands-next
      checking_goes_on f =
          let k = steps-more g.walks i e more in
          let later = reading_from (suc k.0) s i.token.lines i.token.to in
          record {
            walks = walks_next g.walks i e more;
            fewer = checking_most;
            so_far =
                rw c (checked-before n i.word.value later) ∙
                ap (checked n) (sym (item_number s lines at i e (suc k.0) more f)) ∙
                rw k.1 at g.so_far;
          }

-- .. by what was found: nothing, a faulty token, or a number
module _ {s : List ℕ} {lines at n : ℕ} (g : Checking s lines at n) where
  pub checked_ended : (item_at s lines at).token.to ≤ (item_at s lines at).token.from → done n ≡ checked 0 (reading s)
  checked_ended h = checking_ended g (item_at s lines at) refl h

  module _ (f : Found) (more : f.token.from < f.token.to) (e : as_item f ≡ item_at s lines at) where
    pub checked_lies : Lies s at f.token
    checked_lies = lies g.walks (as_item f) e

    pub checked_refused : (x : WordFault) → f.word ≡ Err x → refused (fault_of x) f.token ≡ checked 0 (reading s)
    checked_refused x h = checking_refused g (with-fault f x) (found-fault f e x h) more (unsound x)

    module _ (v : ℕ) (h : f.word ≡ Ok v) where
      pub checked_small : v < 2097152
      checked_small = item_small s lines at (with-number f v) (found-number f e v h)

      module _ (m : ℕ) (c : m ≡ length (bytes v)) where
        pub checked_most : n + m ≤ length s
        checked_most = omega (arith, checking_most g (with-number f v) (found-number f e v h) more m c, checked_lies.inside)

        pub checked_goes_on : Checking s f.token.lines f.token.to (n + m)
        checked_goes_on = checking_goes_on g (with-number f v) (found-number f e v h) more m c sound-none

-- numbers one after the other
encoded-append : (p q : List ℕ) → encoded (p ++ q) ≡ encoded p ++ encoded q
unfolding encoded
encoded-append [] q = refl
encoded-append (v ∷ p) q = ap (λ l. bytes v ++ l) (encoded-append p q) ∙ sym (append_assoc (bytes v) (encoded p) (encoded q))

encoded-more : (p : List ℕ) (v : ℕ) → encoded (p ++ v ∷ []) ≡ encoded p ++ bytes v
unfolding encoded
encoded-more p v = encoded-append p (v ∷ []) ∙ ap (λ l. encoded p ++ l) (append-nil (bytes v))

-- the pass that writes
pub record Storing (s out₀ out : List ℕ) (lines at place : ℕ) : Type 0 where
  pub walks : Walks s lines at
  pub written : List ℕ
  pub later : List ℕ
  pub coming : reading_from (suc walks.stands.steps) s lines at ≡ numbers later
  pub whole : reading s ≡ numbers (written ++ later)
  pub room : length (encoded (written ++ later)) ≤ length out₀
  pub stored : Appended out₀ 0 (encoded written) out place

pub storing_begins : {s out : List ℕ} → StoreGroupsRequires s out → Storing s out out 0 0 0
unfolding reading encoded walks_first stands-first
storing_begins {s} {out} f =
    record {
      walks = walks_first s;
      written = [];
      later = f.values;
      coming = f.read;
      whole = f.read;
      room = f.room;
      stored = record { content = refl; place = refl; inside = omega arith };
    }

module _ {s out₀ out : List ℕ} {lines at place : ℕ} (g : Storing s out₀ out lines at place) where
  pub storing_length : length out ≡ length out₀
  storing_length = kept g.stored

  module _ (i : Item) (e : i ≡ item_at s lines at) where
    pub storing_ended : i.token.to ≤ i.token.from → out ≡ packed_buffer (reading s) out₀
    unfolding packed_buffer
    storing_ended h =
        let vs = g.written in
        let none : g.later ≡ [] = none_left g.later (sym (item_ended s lines at i e g.walks.stands.steps h) ∙ g.coming) in
        let all : reading s ≡ numbers vs = g.whole ∙ rw (none, append-nil vs) in
        let fits : length (encoded vs) ≤ length out₀ = rw (none, append-nil vs) at g.room in
        g.stored.content ∙ rw all (placed-fits (encoded vs) out₀ fits)

    module _ (more : i.token.from < i.token.to) where
      -- there is a number, and what comes after it
      next : (m : List ℕ) × (g.later ≡ i.word.value ∷ m) ×
          (reading_from g.walks.stands.steps s i.token.lines i.token.to ≡ numbers m)
      next =
          by (sound i.word.fault)
          (λ f. one_left i.word.value (reading_from g.walks.stands.steps s i.token.lines i.token.to) g.later
          (sym (item_number s lines at i e g.walks.stands.steps more f) ∙ g.coming))
          (λ f. absurd (no_fault (i.word.fault, i.token) g.later
          (sym (item_faulty s lines at i e g.walks.stands.steps more f) ∙ g.coming)))

      abbrev v : ℕ
      v = i.word.value

      pub storing_room : place + length (bytes v) ≤ length out
      unfolding encoded
      storing_room =
          let l : length (encoded (g.written ++ v ∷ next.0)) ≤ length out₀ = rw next.1 at g.room in
          omega (
            arith,
            l,
            ap length (encoded-append g.written (v ∷ next.0)),
            length-append (encoded g.written) (bytes v ++ encoded next.0),
            length-append (bytes v) (encoded next.0),
            g.stored.place,
            storing_length,
          )

      pub storing_goes_on : {out' : List ℕ} {n : ℕ} → Appended out place (bytes v) out' n
          → Storing s out₀ out' i.token.lines i.token.to n
      unfolding walks_next steps-more stands-next
      storing_goes_on x =
          let k = steps-more g.walks i e more in
          let joined : g.written ++ g.later ≡ (g.written ++ v ∷ []) ++ next.0 =
          ap (λ l. g.written ++ l) next.1 ∙ sym (append_assoc g.written (v ∷ []) next.0) in
          record {
            walks = walks_next g.walks i e more;
            written = g.written ++ v ∷ [];
            later = next.0;
            coming = ap (λ n. reading_from n s i.token.lines i.token.to) (sym k.1) ∙ next.2;
            whole = g.whole ∙ ap numbers joined;
            room = rw joined at g.room;
            stored = said (sym (encoded-more g.written v)) (behind g.stored x);
          }

-- .. by what was found
module _ {s out₀ out : List ℕ} {lines at place : ℕ} (g : Storing s out₀ out lines at place) where
  pub stored_ended : (item_at s lines at).token.to ≤ (item_at s lines at).token.from → out ≡ packed_buffer (reading s) out₀
  stored_ended h = storing_ended g (item_at s lines at) refl h

  module _ (f : Found) (more : f.token.from < f.token.to) (e : as_item f ≡ item_at s lines at) where
    pub stored_lies : Lies s at f.token
    stored_lies = lies g.walks (as_item f) e

    pub stored_sound : (x : WordFault) → f.word ≡ Err x → ⊥
    stored_sound x h =
        no_fault (fault_of x, f.token) g.later
        (sym (item_faulty s lines at (with-fault f x) (found-fault f e x h) g.walks.stands.steps more (unsound x)) ∙ g.coming)

    module _ (v : ℕ) (h : f.word ≡ Ok v) where
      pub stored_fits : (v < 2097152) × (place + length (bytes v) ≤ length out)
      stored_fits = (
        item_small s lines at (with-number f v) (found-number f e v h),
        storing_room g (with-number f v) (found-number f e v h) more,
      )

      pub stored_goes_on : {out' : List ℕ} {n : ℕ} → Appended out place (bytes v) out' n
          → Storing s out₀ out' f.token.lines f.token.to n
      stored_goes_on x = storing_goes_on g (with-number f v) (found-number f e v h) more x

-- a fault of a text is one, at a token in the text
pub record Proper (s : List ℕ) (f : Fault) (t : Token) : Type 0 where
  pub unsound : sound f ≡ false
  pub order : t.from ≤ t.to
  pub inside : t.to ≤ length s

proper : (k : ℕ) (s : List ℕ) (lines at : ℕ) (f : Fault) (t : Token) → lines ≤ at → at ≤ length s → reading_from k s lines at ≡ faulty (f, t)
    → Proper s f t
unfolding reading_from
proper zero s lines at f t l m h = absurd (no_fault (f, t) [] (sym h))
proper (suc k) s lines at f t l m h =
    let i = item_at s lines at in
    let x = item_lies s lines at i refl l m in
    by (ltb i.token.from i.token.to)
    (λ e.
    let more = ltb-true i.token.from i.token.to e in
    by (sound i.word.fault)
    (λ g. proper k s i.token.lines i.token.to f t (omega (arith, x.counted, x.order)) x.inside
    (fault-before i.word.value (reading_from k s i.token.lines i.token.to) (f, t) (sym (item_number s lines at i refl k more g) ∙ h)))
    (λ g.
    let same : (i.word.fault, i.token) ≡ (f, t) = same-fault (sym (item_faulty s lines at i refl k more g) ∙ h) in
    let u : i.token ≡ t = ap (λ x. x.1) same in
    record {
      unsound = ap (λ x. sound x.0) (sym same) ∙ g;
      order = rw u at x.order;
      inside = rw u at x.inside;
    }))
    (λ e. absurd (no_fault (f, t) [] (sym (sym (item_ended s lines at i refl k (ltb-false i.token.from i.token.to e)) ∙ h))))

pub reading_proper : (s : List ℕ) (f : Fault) (t : Token) → reading s ≡ faulty (f, t) → Proper s f t
unfolding reading
reading_proper s f t h = proper (suc (length s)) s 0 0 f t (omega arith) (omega arith) h

-- what packing answers, after the pass that checks
module _ (s out : List ℕ) where
  abbrev Same : Packed → Type 0
  Same p = record {
    value : p ≡ packed (reading s) out;
    out_after : out ≡ packed_buffer (reading s) out;
  }

  pub pack_refused : (x : FaultyToken) → as_refused x ≡ checked 0 (reading s) → Same (as_refused x)
  unfolding checked packed packed_buffer done
  pack_refused x e =
      split (reading s)
      (λ vs q. absurd (clash (ap (λ p. sound p.fault) (e ∙ ap (checked 0) q) ∙ sound-none) (unsound x.fault)))
      (λ y q. record { value = e ∙ ap (checked 0) q ∙ ap (λ r. packed r out) (sym q); out_after = ap (λ r. packed_buffer r out) (sym q) })

  module _ (n : ℕ) (e : done n ≡ checked 0 (reading s)) where
    -- the numbers, and how many bytes they take
    accepted : (vs : List ℕ) × (reading s ≡ numbers vs) × (n ≡ length (encoded vs))
    unfolding checked refused done
    accepted =
        split (reading s)
        (λ vs q. (vs, q, ap (λ p. p.length) (e ∙ ap (checked 0) q) ∙ zero-add (length (encoded vs))))
        (λ x q. absurd (clash (ap (λ p. sound p.fault) (sym (ap (checked 0) q) ∙ sym e) ∙ sound-none) (reading_proper s x.0 x.1 q).unsound))

    pub pack_short : length out < n → Same no_room
    unfolding packed packed_buffer
    pack_short l =
        let vs = accepted.0 in
        let short : length out < length (encoded vs) = omega (arith, accepted.2, l) in
        rw accepted.1 (record { value = rw (lt-leb (length (encoded vs)) (length out) short); out_after = placed-short (encoded vs) out short })

    module _ (l : n ≤ length out) where
      pub pack_fits : StoreGroupsRequires s out
      pack_fits = record { values = accepted.0; read = accepted.1; room = omega (arith, accepted.2, l) }

      pub pack_done : done n ≡ packed (reading s) out
      unfolding packed
      pack_done =
          let vs = accepted.0 in
          let x : leb (length (encoded vs)) (length out) ≡ true = le-leb (length (encoded vs)) (length out) (omega (arith, accepted.2, l)) in
          ap done accepted.2 ∙ sym (ap (λ r. packed r out) accepted.1 ∙ rw x)
