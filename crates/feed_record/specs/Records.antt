-- One record of the feed: serial, client, symbol, in seven-bit groups; and whether the expected
-- serial lets it in.
use Rattle.std.specs.Prelude.{ℕ, zero, suc, Bool, cond, not, List, [], ◌∷◌, ◌++◌, length, ◌==◌, nat_le, nat_lt, slice_index}
use Rattle.base.specs.Rows.{first}
use Rattle.varint.specs.Varint.{read}
use Rattle.feed_record.specs.declared.Expected.{Expected}
use Rattle.feed_record.specs.declared.Expected.TheVariants.{Serial}
use Rattle.feed_record.specs.Serials.{following, ahead, late_from}
use Rattle.feed_record.specs.declared.Record.{Record as ReadRecord}
use Rattle.feed_record.specs.declared.Admitted.{Admitted as LetIn}

-- A record's three numbers; or the row (1, 2, 10) and the place of what is wrong with its bytes,
-- and zeros.
pub record Record : Type 0 where
  pub refusal : ℕ
  pub place : ℕ
  pub serial : ℕ
  pub client : ℕ
  pub symbol : ℕ

-- A record that is let in: its event, how many records were lost before it, and the serial that is
-- expected next. Refused (rows 1, 2, 10, 21, 22): the row and its place, the expected serial as it
-- was given, and zeros.
pub record Admitted : Type 0 where
  pub refusal : ℕ
  pub place : ℕ
  pub expected : Expected
  pub loss : ℕ
  pub client : ℕ
  pub symbol : ℕ

-- .. as they are answered
abbrev pub read_of : ReadRecord → Record
read_of r = record { refusal = 0; place = 0; serial = r.serial; client = r.client; symbol = r.symbol }

abbrev pub admitted_of : LetIn → Admitted
admitted_of m =
    record {
      refusal = 0;
      place = 0;
      expected = m.expected;
      loss = m.loss;
      client = m.client;
      symbol = m.symbol;
    }

-- Numbers one after the other from a place on: their values, and the place after them; or the row
-- and the place of the first that is refused.
pub record Numbers : Type 0 where
  pub refusal : ℕ
  pub place : ℕ
  pub values : List ℕ

unfoldable pub numbers : ℕ → List ℕ → ℕ → Numbers
numbers zero s at = record { refusal = 0; place = at; values = [] }
numbers (suc k) s at =
    let x = read s at in
    let more = numbers k s x.place in
    cond (x.refusal == 0)
    (record { refusal = more.refusal; place = more.place; values = x.value ∷ more.values })
    (record { refusal = x.refusal; place = x.place; values = [] })

-- the three of a record
abbrev pub in_record : List ℕ → Numbers
in_record s = numbers 3 s 0

abbrev pub serial_in : List ℕ → ℕ
serial_in s = slice_index (in_record s).values 0

abbrev pub client_in : List ℕ → ℕ
client_in s = slice_index (in_record s).values 1

abbrev pub symbol_in : List ℕ → ℕ
symbol_in s = slice_index (in_record s).values 2

-- The rows of its bytes: those of its numbers, left to right (1 and 2), then 10, bytes after them.
unfoldable pub byte_rows : List ℕ → List (ℕ × Bool)
byte_rows s = ((in_record s).refusal, not ((in_record s).refusal == 0)) ∷ (10, nat_lt (in_record s).place (length s)) ∷ []

-- bytes that cannot be read as a record
abbrev pub unread : ℕ → ℕ → Record
unread row place = record { refusal = row; place = place; serial = 0; client = 0; symbol = 0 }

unfoldable pub record_in : List ℕ → Record
record_in s =
    cond (first (byte_rows s) == 0)
    (record { refusal = 0; place = 0; serial = serial_in s; client = client_in s; symbol = symbol_in s })
    (unread (first (byte_rows s)) (in_record s).place)

-- All rows of a record, in their order: those of its bytes; 21, a serial above 65,535; 22, a late
-- one.
unfoldable pub serial_rows : Expected → ℕ → List (ℕ × Bool)
serial_rows expected serial = (21, nat_lt 65535 serial) ∷ (22, nat_le late_from (ahead expected serial)) ∷ []

unfoldable pub record_rows : List ℕ → Expected → List (ℕ × Bool)
record_rows s expected = byte_rows s ++ serial_rows expected (serial_in s)

-- refused, the expected serial is kept
abbrev pub turned_away : Expected → ℕ → ℕ → Admitted
turned_away expected row place =
    record { refusal = row; place = place; expected = expected; loss = 0; client = 0; symbol = 0 }

-- let in, the next expected serial follows the one received
abbrev pub let_in : Expected → ℕ → ℕ → ℕ → Admitted
let_in expected serial client symbol =
    record {
      refusal = 0;
      place = 0;
      expected = Serial (following serial);
      loss = ahead expected serial;
      client = client;
      symbol = symbol;
    }

-- (21 and 22 are of the serial, which begins at 0.)
unfoldable pub admission : List ℕ → Expected → Admitted
admission s expected =
    let row = first (record_rows s expected) in
    cond (row == 0) (let_in expected (serial_in s) (client_in s) (symbol_in s)) (turned_away expected row (record_in s).place)
