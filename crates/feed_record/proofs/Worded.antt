-- A record's rows in document 02's words.
use Rattle.std.proofs.Common.{◌≡◌, ℕ, ◌+◌, ◌<◌, ◌≤◌, ltb, leb, ◌⊎◌, List, [], ◌∷◌, ◌++◌, length, sym, refl, ap, ◌∙◌, subst, inl, inr, append_assoc, append-nil, arith, length-append, ltb-false, ltb-true, leb-false, leb-true}
use Rattle.base.proofs.Bools.{by, either}
use Rattle.varint.specs.Varint.{value, read, bytes, encoded}
use Rattle.varint.proofs.Trips.{reads_back}
use Rattle.feed_record.specs.declared.Expected.{Expected}
use Rattle.feed_record.specs.Serials.{ahead}
use Rattle.feed_record.specs.Records.{Admitted, record_in, turned_away, let_in, admission}
use Rattle.feed_record.specs.Claims.{NumberRow, Whole, NumberFaulty, BytesLeft, RecordIs, LargeSerial, LateSerial, Timely}
use Rattle.feed_record.specs.Claims.{RecordsAsWorded, ReadingAsWorded, RecordsReadBack}
use Rattle.feed_record.proofs.Laws.{record_cases, whole-inside, record_faulty, record_left, record_whole, admit_unread, admit_large, admit_late, admit_in}

module _ (s : List ℕ) (expected : Expected) where
  abbrev m : Admitted
  m = admission s expected

  -- the answer in each case
  is-faulty : (row place : ℕ) → (row ≡ 0 → ⊥) → NumberFaulty s row place → m ≡ turned_away expected row place
  is-faulty row place z f = sym (admit_unread s expected _ (record_faulty s row place z f) z)

  is-left : (serial client symbol end : ℕ) → Whole s serial client symbol end → end < length s → m ≡ turned_away expected 10 end
  is-left serial client symbol end w l = sym (admit_unread s expected _ (record_left s serial client symbol end w l) (λ h. omega arith))

  module _ (serial client symbol : ℕ) (r : RecordIs s serial client symbol) where
    is-large : 65535 < serial → m ≡ turned_away expected 21 0
    is-large l = sym (admit_large s expected _ (record_whole s serial client symbol (length s) r (omega arith)) refl l)

    pub is-late : serial ≤ 65535 → 32768 ≤ ahead expected serial → m ≡ turned_away expected 22 0
    is-late l d = sym (admit_late s expected _ (record_whole s serial client symbol (length s) r (omega arith)) refl l d)

    pub is_in : serial ≤ 65535 → ahead expected serial < 32768 → m ≡ let_in expected serial client symbol
    is_in l d = sym (admit_in s expected _ (record_whole s serial client symbol (length s) r (omega arith)) refl l d)

  -- there is no other
  record Cases (R : Type 0) : Type 0 where
    faulty : (row place : ℕ) → NumberRow row → NumberFaulty s row place → m ≡ turned_away expected row place → R
    left : (place : ℕ) → BytesLeft s place → m ≡ turned_away expected 10 place → R
    large : LargeSerial s → m ≡ turned_away expected 21 0 → R
    late : LateSerial s expected → m ≡ turned_away expected 22 0 → R
    timely : Timely s expected → m.refusal ≡ 0 → R

  whole-cases : {R : Type 0} → Cases R → (serial client symbol : ℕ) → RecordIs s serial client symbol → R
  whole-cases c serial client symbol r =
      by (ltb 65535 serial)
      (λ h.
      let l = ltb-true 65535 serial h in
      c.large (record { serial = serial; client = client; symbol = symbol; is = r; large = l }) (is-large serial client symbol r l))
      (λ h.
      let l = ltb-false 65535 serial h in
      by (leb 32768 (ahead expected serial))
      (λ k.
      let d = leb-true 32768 (ahead expected serial) k in
      c.late (record { serial = serial; client = client; symbol = symbol; is = r; small = l; late = d }) (is-late serial client symbol r l d))
      (λ k.
      let d = leb-false 32768 (ahead expected serial) k in
      c.timely
      (record { serial = serial; client = client; symbol = symbol; in-time = record { is = r; small = l; early = d } })
      (ap (λ a. a.refusal) (is_in serial client symbol r l d))))

  cases : {R : Type 0} → Cases R → R
  cases c =
      record_cases s
      (λ row place l f. c.faulty row place l f (is-faulty row place (either l (λ h z. omega arith) (λ h z. omega arith)) f))
      (λ serial client symbol end w. by (ltb end (length s))
      (λ h.
      let l = ltb-true end (length s) h in
      c.left end (record { serial = serial; client = client; symbol = symbol; whole = w; more = l }) (is-left serial client symbol end w l))
      (λ h. whole-cases c serial client symbol
      (subst (Whole s serial client symbol) (let l = ltb-false end (length s) h in let i = whole-inside s serial client symbol end w in omega arith) w)))

  -- two answers whose rows differ
  other : {R : Type 0} (row place : ℕ) (n : ℕ) → m ≡ turned_away expected row place → m.refusal ≡ n → (row ≡ n → ⊥) → R
  other row place n e h z = absurd (z (sym (ap (λ a. a.refusal) e) ∙ h))

  low_not : (row n : ℕ) → NumberRow row → 3 ≤ n → row ≡ n → ⊥
  low_not row n l g h = either l (λ k. omega arith) (λ k. omega arith)

  of_number : (row place : ℕ) → NumberRow row → (m.refusal ≡ row) × (m.place ≡ place) → NumberFaulty s row place
  of_number row place l (h, p) =
      let not-high : (n : ℕ) → 3 ≤ n → n ≡ row → ⊥ = λ n g k. low_not row n l g (sym k) in
      cases (record {
        faulty = λ k q _ f e.
            subst (λ x. NumberFaulty s x place) (sym (ap (λ a. a.refusal) e) ∙ h)
            (subst (λ x. NumberFaulty s k x) (sym (ap (λ a. a.place) e) ∙ p) f);
        left = λ q b e. other 10 q row e h (not-high 10 (omega arith));
        large = λ g e. other 21 0 row e h (not-high 21 (omega arith));
        late = λ g e. other 22 0 row e h (not-high 22 (omega arith));
        timely = λ g e. absurd (either l (λ k. omega arith) (λ k. omega arith));
      })

  of_10 : (place : ℕ) → (m.refusal ≡ 10) × (m.place ≡ place) → BytesLeft s place
  of_10 place (h, p) =
      cases (record {
        faulty = λ k q l f e. other k q 10 e h (low_not k 10 l (omega arith));
        left = λ q b e. subst (BytesLeft s) (sym (ap (λ a. a.place) e) ∙ p) b;
        large = λ g e. other 21 0 10 e h (λ k. omega arith);
        late = λ g e. other 22 0 10 e h (λ k. omega arith);
        timely = λ g e. absurd (omega arith);
      })

  of_21 : m.refusal ≡ 21 → LargeSerial s
  of_21 h =
      cases (record {
        faulty = λ k q l f e. other k q 21 e h (low_not k 21 l (omega arith));
        left = λ q b e. other 10 q 21 e h (λ k. omega arith);
        large = λ g e. g;
        late = λ g e. other 22 0 21 e h (λ k. omega arith);
        timely = λ g e. absurd (omega arith);
      })

  of_22 : m.refusal ≡ 22 → LateSerial s expected
  of_22 h =
      cases (record {
        faulty = λ k q l f e. other k q 22 e h (low_not k 22 l (omega arith));
        left = λ q b e. other 10 q 22 e h (λ k. omega arith);
        large = λ g e. other 21 0 22 e h (λ k. omega arith);
        late = λ g e. g;
        timely = λ g e. absurd (omega arith);
      })

  of_0 : m.refusal ≡ 0 → Timely s expected
  of_0 h =
      cases (record {
        faulty = λ k q l f e. other k q 0 e h (λ z. either l (λ y. omega arith) (λ y. omega arith));
        left = λ q b e. other 10 q 0 e h (λ k. omega arith);
        large = λ g e. other 21 0 0 e h (λ k. omega arith);
        late = λ g e. other 22 0 0 e h (λ k. omega arith);
        timely = λ g e. g;
      })

  -- a refused one's whole answer
  refused : (m.refusal ≡ 0 → ⊥) → m ≡ turned_away expected m.refusal m.place
  refused z =
      let whole : (row place : ℕ) → m ≡ turned_away expected row place → m ≡ turned_away expected m.refusal m.place =
      λ row place e. e ∙ (λ i. turned_away expected (sym (ap (λ a. a.refusal) e) i) (sym (ap (λ a. a.place) e) i)) in
      cases (record {
        faulty = λ k q l f e. whole k q e;
        left = λ q b e. whole 10 q e;
        large = λ g e. whole 21 0 e;
        late = λ g e. whole 22 0 e;
        timely = λ g e. absurd (z e);
      })

  abbrev Known : Type 0
  Known = (m.refusal ≡ 0) ⊎ NumberRow m.refusal ⊎ (m.refusal ≡ 10) ⊎ (m.refusal ≡ 21) ⊎ (m.refusal ≡ 22)

  known : Known
  known =
      cases (record {
        faulty = λ k q l f e. inr (inl (subst NumberRow (sym (ap (λ a. a.refusal) e)) l));
        left = λ q b e. inr (inr (inl (ap (λ a. a.refusal) e)));
        large = λ g e. inr (inr (inr (inl (ap (λ a. a.refusal) e))));
        late = λ g e. inr (inr (inr (inr (ap (λ a. a.refusal) e))));
        timely = λ g e. inl e;
      })

pub records_as_worded : RecordsAsWorded
records_as_worded s expected =
    record {
      numbers = λ row place l. (
        of_number s expected row place l,
        λ f.
            let e = is-faulty s expected row place (either l (λ h z. omega arith) (λ h z. omega arith)) f in
            (ap (λ a. a.refusal) e, ap (λ a. a.place) e),
      );
      row_10 = λ place. (
        of_10 s expected place,
        λ b. let e = is-left s expected b.serial b.client b.symbol place b.whole b.more in (ap (λ a. a.refusal) e, ap (λ a. a.place) e),
      );
      row-21 = (of_21 s expected, λ g. ap (λ a. a.refusal) (is-large s expected g.serial g.client g.symbol g.is g.large));
      row-22 = (
        of_22 s expected,
        λ g. ap (λ a. a.refusal) (is-late s expected g.serial g.client g.symbol g.is g.small g.late),
      );
      serial-place = λ h. either h
          (λ k. let g = of_21 s expected k in ap (λ a. a.place) (is-large s expected g.serial g.client g.symbol g.is g.large))
          (λ k.
          let g = of_22 s expected k in
          ap (λ a. a.place) (is-late s expected g.serial g.client g.symbol g.is g.small g.late));
      known = known s expected;
      admitted = (
        of_0 s expected,
        λ g.
            let t = g.in-time in
            ap (λ a. a.refusal) (is_in s expected g.serial g.client g.symbol t.is t.small t.early),
      );
      answer = λ serial client symbol t. is_in s expected serial client symbol t.is t.small t.early;
      refused = refused s expected;
    }

-- no number between 10 and 21 is a record's, so none of its event's
pub not-between : (s : List ℕ) (expected : Expected) (n : ℕ) → 10 < n → n < 21 → (admission s expected).refusal ≡ n → ⊥
not-between s expected n l h e =
    either (records_as_worded s expected).known (λ k. omega arith)
    (λ f. either f (λ f1. either f1 (λ k. omega arith) (λ k. omega arith))
    (λ f2. either f2 (λ k. omega arith) (λ f3. either f3 (λ k. omega arith) (λ k. omega arith))))

-- what reading answers
module _ (s : List ℕ) where
  some-row : (row : ℕ) → NumberRow row → row ≡ 0 → ⊥
  some-row row l z = either l (λ h. omega arith) (λ h. omega arith)

  read_known : ((record_in s).refusal ≡ 0) ⊎ NumberRow (record_in s).refusal ⊎ ((record_in s).refusal ≡ 10)
  read_known =
      record_cases s
      (λ row place l f. inr (inl (subst NumberRow (ap (λ r. r.refusal) (record_faulty s row place (some-row row l) f)) l)))
      (λ serial client symbol end w. by (ltb end (length s))
      (λ h. inr (inr (sym (ap (λ r. r.refusal) (record_left s serial client symbol end w (ltb-true end (length s) h))))))
      (λ h. inl (sym (ap (λ r. r.refusal) (record_whole s serial client symbol end w (ltb-false end (length s) h))))))

pub reading_as_worded : ReadingAsWorded
reading_as_worded s =
    record {
      faulty = λ row place l f. sym (record_faulty s row place (some-row s row l) f);
      left = λ place b. sym (record_left s b.serial b.client b.symbol place b.whole b.more);
      whole = λ serial client symbol r. sym (record_whole s serial client symbol (length s) r (omega arith));
      known = read_known s;
    }

-- numbers that are written
module _ (serial client symbol : ℕ) (rest : List ℕ) (a : serial < 2097152) (b : client < 2097152) (c : symbol < 2097152) where
  abbrev front : List ℕ
  front = bytes serial ++ bytes client

  abbrev all : List ℕ
  all = bytes serial ++ (bytes client ++ (bytes symbol ++ rest))

  all-is : encoded (serial ∷ client ∷ symbol ∷ []) ++ rest ≡ all
  unfolding encoded
  all-is =
      rw (append-nil (bytes symbol), append_assoc (bytes serial) (bytes client ++ bytes symbol) rest, append_assoc (bytes client) (bytes symbol) rest)

  third : all ≡ front ++ (bytes symbol ++ rest)
  third = sym (append_assoc (bytes serial) (bytes client) (bytes symbol ++ rest))

  long : length (encoded (serial ∷ client ∷ symbol ∷ [])) ≡ length front + length (bytes symbol)
  unfolding encoded
  long = rw (append-nil (bytes symbol)) (simp length-append (omega arith))

  read_back : Whole (encoded (serial ∷ client ∷ symbol ∷ []) ++ rest) serial client symbol (length (encoded (serial ∷ client ∷ symbol ∷ [])))
  read_back =
      rw (all-is, long)
      (record {
        client-at = length (bytes serial);
        symbol-at = length front;
        serial-read = reads_back serial [] (bytes client ++ (bytes symbol ++ rest)) a ∙ ap (value serial) (omega arith);
        client-read = reads_back client (bytes serial) (bytes symbol ++ rest) b ∙ ap (value client) (sym (length-append (bytes serial) (bytes client)));
        symbol-read = ap (λ s. read s (length front)) third ∙ reads_back symbol front rest c;
      })

pub records_read_back : RecordsReadBack
records_read_back = read_back
