-- The cases of reading a record and of letting it in.
use Rattle.std.proofs.Common.{◌≡◌, ℕ, suc, ◌<◌, ◌≤◌, Bool, eqb, ltb, leb, ◌⊎◌, List, [], ◌∷◌, ◌++◌, length, sym, refl, ap, ◌∙◌, inl, inr, append_assoc, arith, ltb-false, ltb-true, le-ltb, lt-ltb, eq-eqb, ne_eqb, eqb-true, le-leb}
use borrow.Author.Tests.{lt-leb}
use Rattle.base.specs.Rows.{first}
use Rattle.base.proofs.Bools.{by, either}
use Rattle.base.proofs.Refusals.{first-before, first_clear}
use Rattle.refusal.specs.declared.Fault.{Fault}
use Rattle.refusal.specs.Numbers.{number}
use Rattle.refusal.proofs.Numbers.{number_never_0}
use Rattle.varint.specs.declared.Decoded.{Decoded}
use Rattle.varint.specs.Varint.{decoded, fault, read}
use Rattle.varint.proofs.Laws.{read-cases}
use Rattle.varint.proofs.Trips.{read-inside}
use Rattle.feed_record.specs.declared.Expected.{Expected}
use Rattle.feed_record.specs.Serials.{ahead}
use Rattle.feed_record.specs.Records.{Record, Numbers, numbers, in_record, serial_in, client_in, symbol_in, byte_rows, unread, record_in, serial_rows, record_rows}
use Rattle.feed_record.specs.Records.{turned_away, let_in, admission}
use Rattle.feed_record.specs.Claims.{Reads, Faulty, Whole, NumberFaulty}

-- a number that is refused is refused where it begins
pub fault-is : (s : List ℕ) (at row : ℕ) → Faulty s at row → read s at ≡ fault row at
fault-is s at row (h, z) =
    read-cases s at
    (λ m l e. e ∙ ap (λ k. fault k at) (sym (ap (λ n. n.refusal) e) ∙ h))
    (λ v next e. absurd (z (sym h ∙ ap (λ n. n.refusal) e)))

-- numbers one after the other
module _ (k : ℕ) (s : List ℕ) (at : ℕ) where
  numbers_on : (v next : ℕ) → Reads s at v next
      → numbers (suc k) s at
      ≡ record { refusal = (numbers k s next).refusal; place = (numbers k s next).place; values = v ∷ (numbers k s next).values }
  unfolding numbers
  numbers_on v next h = rw h

  numbers_end : (row : ℕ) → Faulty s at row → numbers (suc k) s at ≡ record { refusal = row; place = at; values = [] }
  unfolding numbers
  numbers_end row f = rw (fault-is s at row f, ne_eqb row 0 f.1)

module _ (s : List ℕ) where
  abbrev all_of : ℕ → ℕ → ℕ → ℕ → Numbers
  all_of serial client symbol end = record { refusal = 0; place = end; values = serial ∷ client ∷ symbol ∷ [] }

  whole_is : (serial client symbol end : ℕ) → Whole s serial client symbol end → in_record s ≡ all_of serial client symbol end
  unfolding numbers
  whole_is serial client symbol end w =
      rw (
        numbers_on 2 s 0 serial w.client-at w.serial-read,
        numbers_on 1 s w.client-at client w.symbol-at w.client-read,
        numbers_on 0 s w.symbol-at symbol end w.symbol-read,
      )

  faulty-is : (row place : ℕ) → NumberFaulty s row place → ((in_record s).refusal ≡ row) × ((in_record s).place ≡ place)
  faulty-is row place f =
      either f
      (λ (z, g). let e = numbers_end 2 s 0 row g in (ap (λ n. n.refusal) e, ap (λ n. n.place) e ∙ sym z))
      (λ g. either g
      (λ c.
      let e = numbers_on 2 s 0 c.serial place c.serial-read in
      let d = numbers_end 1 s place row c.refused in
      (ap (λ n. n.refusal) e ∙ ap (λ n. n.refusal) d, ap (λ n. n.place) e ∙ ap (λ n. n.place) d))
      (λ c.
      let e = numbers_on 2 s 0 c.serial c.client-at c.serial-read in
      let d = numbers_on 1 s c.client-at c.client place c.client-read in
      let b = numbers_end 0 s place row c.refused in (
        ap (λ n. n.refusal) e ∙ ap (λ n. n.refusal) d ∙ ap (λ n. n.refusal) b,
        ap (λ n. n.place) e ∙ ap (λ n. n.place) d ∙ ap (λ n. n.place) b,
      )))

  -- one of its numbers is refused, or all are read
  abbrev Low : ℕ → Type 0
  Low row = (row ≡ 1) ⊎ (row ≡ 2)

  low_some : (row : ℕ) → Low row → row ≡ 0 → ⊥
  low_some row l z = either l (λ h. omega arith) (λ h. omega arith)

  faulty-at : (at row : ℕ) → Low row → read s at ≡ fault row at → Faulty s at row
  faulty-at at row l e = (ap (λ n. n.refusal) e, low_some row l)

  pub record_cases : {R : Type 0}
      → ((row place : ℕ) → Low row → NumberFaulty s row place → R)
      → ((serial client symbol end : ℕ) → Whole s serial client symbol end → R)
      → R
  record_cases refused all =
      read-cases s 0
      (λ row l e. refused row 0 l (inl (refl, faulty-at 0 row l e)))
      (λ serial p er. read-cases s p
      (λ row l e. refused row p l (inr (inl (record { serial = serial; serial-read = er; refused = faulty-at p row l e }))))
      (λ client q ec. read-cases s q
      (λ row l e. refused row q l (inr (inr (record {
        serial = serial;
        client-at = p;
        client = client;
        serial-read = er;
        client-read = ec;
        refused = faulty-at q row l e;
      }))))
      (λ symbol end es. all serial client symbol end
      (record { client-at = p; symbol-at = q; serial-read = er; client-read = ec; symbol-read = es }))))

  -- what is read ends within the bytes
  pub whole-inside : (serial client symbol end : ℕ) → Whole s serial client symbol end → end ≤ length s
  whole-inside serial client symbol end w = read-inside s w.symbol-at symbol end w.symbol-read

  -- the rows of the bytes
  faulty-row : (row place : ℕ) → (row ≡ 0 → ⊥) → NumberFaulty s row place → first (byte_rows s) ≡ row
  unfolding byte_rows first
  faulty-row row place z f = rw ((faulty-is row place f).0, ne_eqb row 0 z)

  left-row : (serial client symbol end : ℕ) → Whole s serial client symbol end → end < length s → first (byte_rows s) ≡ 10
  unfolding byte_rows first
  left-row serial client symbol end w l = rw (whole_is serial client symbol end w, lt-ltb end (length s) l)

  all_row : (serial client symbol end : ℕ) → Whole s serial client symbol end → length s ≤ end → first (byte_rows s) ≡ 0
  unfolding byte_rows first
  all_row serial client symbol end w l = rw (whole_is serial client symbol end w, le-ltb end (length s) l)

  -- the record
  pub record_faulty : (row place : ℕ) → (row ≡ 0 → ⊥) → NumberFaulty s row place → unread row place ≡ record_in s
  unfolding record_in
  record_faulty row place z f = rw (faulty-row row place z f, ne_eqb row 0 z, (faulty-is row place f).1)

  pub record_left : (serial client symbol end : ℕ) → Whole s serial client symbol end → end < length s → unread 10 end ≡ record_in s
  unfolding record_in
  record_left serial client symbol end w l = rw (left-row serial client symbol end w l, whole_is serial client symbol end w)

  pub record_whole : (serial client symbol end : ℕ) → Whole s serial client symbol end → length s ≤ end
      → record { refusal = 0; place = 0; serial = serial; client = client; symbol = symbol } ≡ record_in s
  unfolding record_in
  record_whole serial client symbol end w l = rw (all_row serial client symbol end w l, whole_is serial client symbol end w)

  -- its own number is the bytes'
  row_is : (record_in s).refusal ≡ first (byte_rows s)
  unfolding record_in
  row_is = let n = first (byte_rows s) in by (eqb n 0) (λ h. rw h (sym (eqb-true n 0 h))) (λ h. rw h)

  -- its parts, where it is read
  parts_are : (record_in s).refusal ≡ 0
      → ((record_in s).place ≡ 0) × ((record_in s).serial ≡ serial_in s) × ((record_in s).client ≡ client_in s) × ((record_in s).symbol ≡ symbol_in s)
  unfolding record_in
  parts_are z =
      let h = eq-eqb (first (byte_rows s)) 0 (sym row_is ∙ z) in
      (rw h, rw h, rw h, rw h)

  -- rows behind those of the bytes
  passed-whole : (rows : List (ℕ × Bool)) (serial client symbol end : ℕ) → Whole s serial client symbol end → length s ≤ end
      → first (byte_rows s ++ rows) ≡ first rows
  unfolding byte_rows first
  passed-whole rows serial client symbol end w l = rw (whole_is serial client symbol end w, le-ltb end (length s) l)

  pub passed : (rows : List (ℕ × Bool)) → (record_in s).refusal ≡ 0 → first (byte_rows s ++ rows) ≡ first rows
  passed rows z =
      let clear = sym row_is ∙ z in
      record_cases
      (λ row place l f. absurd (low_some row l (sym (faulty-row row place (low_some row l) f) ∙ clear)))
      (λ serial client symbol end w. by (ltb end (length s))
      (λ h. let k = left-row serial client symbol end w (ltb-true end (length s) h) in absurd (omega arith))
      (λ h. passed-whole rows serial client symbol end w (ltb-false end (length s) h)))

-- The numbers as the code reads them, each where the one before it ended.
module _ (s : List ℕ) where
  faulty : (at : ℕ) (e : Fault) → fault (number e.refusal) e.place ≡ read s at → Faulty s at (number e.refusal) × (e.place ≡ at)
  faulty at e h =
      let f : Faulty s at (number e.refusal) = (sym (ap (λ m. m.refusal) h), number_never_0 e.refusal) in
      (f, ap (λ m. m.place) (h ∙ fault-is s at (number e.refusal) f))

  pub first-faulty : (e : Fault) → fault (number e.refusal) e.place ≡ read s 0 → unread (number e.refusal) e.place ≡ record_in s
  first-faulty e h =
      let f = faulty 0 e h in record_faulty s (number e.refusal) e.place (number_never_0 e.refusal) (inl (f.1, f.0))

  module _ (x : Decoded) (ex : decoded x ≡ read s 0) where
    pub second-faulty : (e : Fault) → fault (number e.refusal) e.place ≡ read s x.place → unread (number e.refusal) e.place ≡ record_in s
    second-faulty e h =
        let f = faulty x.place e h in
        rw f.1
        (record_faulty s (number e.refusal) x.place (number_never_0 e.refusal)
        (inr (inl (record { serial = x.value; serial-read = sym ex; refused = f.0 }))))

    module _ (y : Decoded) (ey : decoded y ≡ read s x.place) where
      pub third-faulty : (e : Fault) → fault (number e.refusal) e.place ≡ read s y.place
          → unread (number e.refusal) e.place ≡ record_in s
      third-faulty e h =
          let f = faulty y.place e h in
          rw f.1
          (record_faulty s (number e.refusal) y.place (number_never_0 e.refusal) (inr (inr (record {
            serial = x.value;
            client-at = x.place;
            client = y.value;
            serial-read = sym ex;
            client-read = sym ey;
            refused = f.0;
          }))))

      module _ (n : Decoded) (en : decoded n ≡ read s y.place) where
        all_read : Whole s x.value y.value n.value n.place
        all_read =
            record {
              client-at = x.place;
              symbol-at = y.place;
              serial-read = sym ex;
              client-read = sym ey;
              symbol-read = sym en;
            }

        pub more_left : n.place < length s → unread 10 n.place ≡ record_in s
        more_left l = record_left s x.value y.value n.value n.place all_read l

        pub none_left : length s ≤ n.place
            → record { refusal = 0; place = 0; serial = x.value; client = y.value; symbol = n.value } ≡ record_in s
        none_left l = record_whole s x.value y.value n.value n.place all_read l

-- Letting it in, by the record that was read.
module _ (s : List ℕ) (expected : Expected) (r : Record) (e : r ≡ record_in s) where
  pub admit_unread : (r.refusal ≡ 0 → ⊥) → turned_away expected r.refusal r.place ≡ admission s expected
  unfolding admission record_rows
  admit_unread z =
      let n = first (byte_rows s) in
      let same : r.refusal ≡ n = ap (λ q. q.refusal) e ∙ row_is s in
      let some : n ≡ 0 → ⊥ = λ h. z (same ∙ h) in
      rw (first-before (byte_rows s) (serial_rows expected (serial_in s)) some, ne_eqb n 0 some, same, ap (λ q. q.place) e)

  module _ (z : r.refusal ≡ 0) where
    -- its parts as the definition has them
    parts : ((record_in s).place ≡ 0) × (serial_in s ≡ r.serial) × (client_in s ≡ r.client) × (symbol_in s ≡ r.symbol)
    parts =
        let (p, a, b, c) = parts_are s (sym (ap (λ q. q.refusal) e) ∙ z) in
        (p, sym (ap (λ q. q.serial) e ∙ a), sym (ap (λ q. q.client) e ∙ b), sym (ap (λ q. q.symbol) e ∙ c))

    -- the rows of its serial
    row_of-serial : first (record_rows s expected) ≡ first (serial_rows expected r.serial)
    unfolding record_rows
    row_of-serial =
        passed s (serial_rows expected (serial_in s)) (sym (ap (λ q. q.refusal) e) ∙ z) ∙ ap (λ k. first (serial_rows expected k)) parts.1

    pub admit_large : 65535 < r.serial → turned_away expected 21 0 ≡ admission s expected
    unfolding admission serial_rows first
    admit_large l = rw (row_of-serial, lt-ltb 65535 r.serial l, parts.0)

    pub admit_late : r.serial ≤ 65535 → 32768 ≤ ahead expected r.serial → turned_away expected 22 0 ≡ admission s expected
    unfolding admission serial_rows first
    admit_late l d = rw (row_of-serial, le-ltb 65535 r.serial l, le-leb 32768 (ahead expected r.serial) d, parts.0)

    pub admit_in : r.serial ≤ 65535 → ahead expected r.serial < 32768
        → let_in expected r.serial r.client r.symbol ≡ admission s expected
    unfolding admission serial_rows first
    admit_in l d =
        rw (row_of-serial, le-ltb 65535 r.serial l, lt-leb 32768 (ahead expected r.serial) d, parts.1, parts.2, parts.3)

-- The rows of a record before others.
module _ (s : List ℕ) (expected : Expected) where
  pub admission-row : (admission s expected).refusal ≡ first (record_rows s expected)
  unfolding admission
  admission-row = let n = first (record_rows s expected) in by (eqb n 0) (λ h. rw h (sym (eqb-true n 0 h))) (λ h. rw h)

  pub rows_stand : (rows : List (ℕ × Bool)) → ((admission s expected).refusal ≡ 0 → ⊥)
      → first (record_rows s expected ++ rows) ≡ (admission s expected).refusal
  rows_stand rows z = first-before (record_rows s expected) rows (λ h. z (admission-row ∙ h)) ∙ sym admission-row

  -- where none of the bytes' stands, those of the serial
  bytes_clear : (admission s expected).refusal ≡ 0 → (record_in s).refusal ≡ 0
  unfolding record_rows
  bytes_clear z = row_is s ∙ first_clear (byte_rows s) (serial_rows expected (serial_in s)) (sym admission-row ∙ z)

  serial_clear : first (serial_rows expected (serial_in s)) ≡ 0 → (rows : List (ℕ × Bool))
      → first (serial_rows expected (serial_in s) ++ rows) ≡ first rows
  unfolding serial_rows first
  serial_clear z rows =
      by (ltb 65535 (serial_in s))
      (λ h. let k : ◌≡◌ {A = ℕ} 21 0 = rw h at z in absurd (omega arith))
      (λ h. by (leb 32768 (ahead expected (serial_in s))) (λ g. let k : ◌≡◌ {A = ℕ} 22 0 = rw (h, g) at z in absurd (omega arith)) (λ g. rw (h, g)))

  pub rows_pass : (rows : List (ℕ × Bool)) → (admission s expected).refusal ≡ 0 → first (record_rows s expected ++ rows) ≡ first rows
  unfolding record_rows
  rows_pass rows z =
      let more = serial_rows expected (serial_in s) in
      let clear = bytes_clear z in
      ap first (append_assoc (byte_rows s) more rows) ∙
      passed s (more ++ rows) clear ∙
      serial_clear (sym (passed s more clear) ∙ sym admission-row ∙ z) rows
