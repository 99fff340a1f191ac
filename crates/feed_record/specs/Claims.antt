-- What is proved of one record: its rows in document 02's words, and what a serial can and cannot
-- tell.
use Rattle.std.specs.Prelude.{◌≡◌, ℕ, ◌+◌, ◌-◌, ◌%◌, ◌<◌, ◌≤◌, ◌⊎◌, ◌↔◌, List, [], ◌∷◌, ◌++◌, length, ◌≢◌}
use Rattle.varint.specs.Varint.{value, read, encoded}
use Rattle.feed_record.specs.declared.Expected.{Expected}
use Rattle.feed_record.specs.declared.Expected.TheVariants.{Any, Serial}
use Rattle.feed_record.specs.Serials.{serials, distance, following, ahead}
use Rattle.feed_record.specs.Records.{Admitted, record_in, admission}

-- The ring of serials in words: the distance forward from x is the one number of steps, fewer than
-- all, that leads from x to s, and after 65,535 comes 0.
pub record Ring (x s : ℕ) : Type 0 where
  pub reaches : (x + distance x s) % serials ≡ s
  pub short : distance x s < serials
  pub only : (d : ℕ) → d < serials → (x + d) % serials ≡ s → d ≡ distance x s
  pub next : s < 65535 → following s ≡ s + 1
  pub turn : s ≡ 65535 → following s ≡ 0
  pub first : ahead Any s ≡ 0
  pub later : ahead (Serial x) s ≡ distance x s

abbrev pub RingAsWorded : Type 0
RingAsWorded = (x s : ℕ) → x < serials → s < serials → Ring x s

-- at a place a number is read, with its value and the place after it; or it is refused by a row
abbrev pub Reads : List ℕ → ℕ → ℕ → ℕ → Type 0
Reads s at v next = read s at ≡ value v next

abbrev pub Faulty : List ℕ → ℕ → ℕ → Type 0
Faulty s at row = ((read s at).refusal ≡ row) × (row ≢ 0)

-- the rows of the number reader
abbrev pub NumberRow : ℕ → Type 0
NumberRow row = (row ≡ 1) ⊎ (row ≡ 2)

-- the three numbers of a record, left to right, the last of which ends at `end`
pub record Whole (s : List ℕ) (serial client symbol end : ℕ) : Type 0 where
  pub client-at : ℕ
  pub symbol-at : ℕ
  pub serial-read : Reads s 0 serial client-at
  pub client-read : Reads s client-at client symbol-at
  pub symbol-read : Reads s symbol-at symbol end

-- the first of them that is refused, by a row and at its place
pub record ClientFaulty (s : List ℕ) (row place : ℕ) : Type 0 where
  pub serial : ℕ
  pub serial-read : Reads s 0 serial place
  pub refused : Faulty s place row

pub record SymbolFaulty (s : List ℕ) (row place : ℕ) : Type 0 where
  pub serial : ℕ
  pub client-at : ℕ
  pub client : ℕ
  pub serial-read : Reads s 0 serial client-at
  pub client-read : Reads s client-at client place
  pub refused : Faulty s place row

abbrev pub NumberFaulty : List ℕ → ℕ → ℕ → Type 0
NumberFaulty s row place = ((place ≡ 0) × Faulty s 0 row) ⊎ ClientFaulty s row place ⊎ SymbolFaulty s row place

-- row 10: all three are read, and the first byte left is at `place`
pub record BytesLeft (s : List ℕ) (place : ℕ) : Type 0 where
  pub serial : ℕ
  pub client : ℕ
  pub symbol : ℕ
  pub whole : Whole s serial client symbol place
  pub more : place < length s

-- all three, and nothing behind them
abbrev pub RecordIs : List ℕ → ℕ → ℕ → ℕ → Type 0
RecordIs s serial client symbol = Whole s serial client symbol (length s)

-- row 21
pub record LargeSerial (s : List ℕ) : Type 0 where
  pub serial : ℕ
  pub client : ℕ
  pub symbol : ℕ
  pub is : RecordIs s serial client symbol
  pub large : 65535 < serial

-- row 22: late, or a repeat
pub record LateSerial (s : List ℕ) (expected : Expected) : Type 0 where
  pub serial : ℕ
  pub client : ℕ
  pub symbol : ℕ
  pub is : RecordIs s serial client symbol
  pub small : serial ≤ 65535
  pub late : 32768 ≤ ahead expected serial

-- let in
pub record InTime (s : List ℕ) (expected : Expected) (serial client symbol : ℕ) : Type 0 where
  pub is : RecordIs s serial client symbol
  pub small : serial ≤ 65535
  pub early : ahead expected serial < 32768

pub record Timely (s : List ℕ) (expected : Expected) : Type 0 where
  pub serial : ℕ
  pub client : ℕ
  pub symbol : ℕ
  pub in-time : InTime s expected serial client symbol

-- A record's answer, each row exactly when document 02 says so; its place; and the whole answer.
pub record RecordRows (s : List ℕ) (expected : Expected) (m : Admitted) : Type 0 where
  -- 1 and 2, of the first number that is refused
  pub numbers : (row place : ℕ) → NumberRow row → ((m.refusal ≡ row) × (m.place ≡ place)) ↔ NumberFaulty s row place
  pub row_10 : (place : ℕ) → ((m.refusal ≡ 10) × (m.place ≡ place)) ↔ BytesLeft s place
  pub row-21 : (m.refusal ≡ 21) ↔ LargeSerial s
  pub row-22 : (m.refusal ≡ 22) ↔ LateSerial s expected
  pub serial-place : (m.refusal ≡ 21) ⊎ (m.refusal ≡ 22) → m.place ≡ 0
  -- no other row
  pub known : (m.refusal ≡ 0) ⊎ NumberRow m.refusal ⊎ (m.refusal ≡ 10) ⊎ (m.refusal ≡ 21) ⊎ (m.refusal ≡ 22)
  -- let in: the event, the loss and the next expected serial
  pub admitted : (m.refusal ≡ 0) ↔ Timely s expected
  pub answer : (serial client symbol : ℕ) → InTime s expected serial client symbol
      → m
      ≡ record {
        refusal = 0;
        place = 0;
        expected = Serial (following serial);
        loss = ahead expected serial;
        client = client;
        symbol = symbol;
      }
  -- refused, the expected serial is kept as given, and nothing is lost
  pub refused : (m.refusal ≢ 0)
      → m ≡ record { refusal = m.refusal; place = m.place; expected = expected; loss = 0; client = 0; symbol = 0 }

abbrev pub RecordsAsWorded : Type 0
RecordsAsWorded = (s : List ℕ) (expected : Expected) → RecordRows s expected (admission s expected)

-- What reading a record answers, in every case: the first number that is refused, bytes left, or
-- the three numbers.
pub record RecordRead (s : List ℕ) : Type 0 where
  pub faulty : (row place : ℕ) → NumberRow row → NumberFaulty s row place
      → record_in s ≡ record { refusal = row; place = place; serial = 0; client = 0; symbol = 0 }
  pub left : (place : ℕ) → BytesLeft s place
      → record_in s ≡ record { refusal = 10; place = place; serial = 0; client = 0; symbol = 0 }
  pub whole : (serial client symbol : ℕ) → RecordIs s serial client symbol
      → record_in s ≡ record { refusal = 0; place = 0; serial = serial; client = client; symbol = symbol }
  pub known : ((record_in s).refusal ≡ 0) ⊎ NumberRow (record_in s).refusal ⊎ ((record_in s).refusal ≡ 10)

abbrev pub ReadingAsWorded : Type 0
ReadingAsWorded = (s : List ℕ) → RecordRead s

-- three numbers that are written read as they are, whatever stands behind them
abbrev pub RecordsReadBack : Type 0
RecordsReadBack =
    (serial client symbol : ℕ) (rest : List ℕ) → serial < 2097152 → client < 2097152 → symbol < 2097152
    → let s = encoded (serial ∷ client ∷ symbol ∷ []) in
    Whole (s ++ rest) serial client symbol (length s)

-- What a serial can and cannot tell. The record at a place of an endless feed, from 0, has the
-- place modulo 65,536 as its serial.
abbrev pub serial_at : ℕ → ℕ
serial_at place = place % serials

-- the record at the true place S is let in where the one at X is expected: so many are reported
-- lost, and the one after it is expected next; or it is refused as late
abbrev pub TakenAs : ℕ → Admitted → ℕ → Type 0
TakenAs S m loss = (m.refusal ≡ 0) × (m.loss ≡ loss) × (m.expected ≡ Serial (serial_at (S + 1)))

abbrev pub TakenAsLate : ℕ → Admitted → Type 0
TakenAsLate X m =
    m ≡ record { refusal = 22; place = 0; expected = Serial (serial_at X); loss = 0; client = 0; symbol = 0 }

-- m is the answer to it
pub record Told (X S : ℕ) (m : Admitted) : Type 0 where
  -- It is the one expected or a later one, so that S - X records were lost, d of them but for
  -- whole turns: up to 32,767 that many are reported, more look late.
  pub new : (d : ℕ) → X ≤ S → d ≡ (S - X) % serials → d ≤ 32767 → TakenAs S m d
  pub new-looks-late : (d : ℕ) → X ≤ S → d ≡ (S - X) % serials → 32768 ≤ d → TakenAsLate X m
  -- It is an earlier one, so that it is X - S late, d of them but for whole turns: whole turns
  -- look in turn, up to 32,768 more are late, and yet more look new.
  pub late-in-turn : S < X → (X - S) % serials ≡ 0 → TakenAs S m 0
  pub late : (d : ℕ) → S < X → d ≡ (X - S) % serials → 1 ≤ d → d ≤ 32768 → TakenAsLate X m
  pub late-looks-new : (d : ℕ) → S < X → d ≡ (X - S) % serials → 32769 ≤ d → TakenAs S m (serials - d)
  -- So a loss is told right exactly where it is at most 32,767, and a late record is always
  -- refused where it is late by no more than 32,768.
  pub right : X ≤ S → TakenAs S m (S - X) ↔ (S - X ≤ 32767)
  pub refused : S < X → X - S ≤ 32768 → TakenAsLate X m

abbrev pub SerialsTell : Type 0
SerialsTell =
    (X S client symbol : ℕ) (s : List ℕ) → RecordIs s (serial_at S) client symbol
    → Told X S (admission s (Serial (serial_at X)))

-- and of the first record nothing: it is let in, whatever its serial
abbrev pub FirstLetIn : Type 0
FirstLetIn =
    (S client symbol : ℕ) (s : List ℕ) → RecordIs s (serial_at S) client symbol
    → TakenAs S (admission s Any) 0
