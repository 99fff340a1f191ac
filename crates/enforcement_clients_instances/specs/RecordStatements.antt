-- The claims on one record of the feed by itself, at bytes that a feed may send.
use Rattle.std.specs.Prelude.{ℕ, ◌+◌, ◌-◌, ◌%◌, ◌<◌, ◌≤◌, ◌≡◌, List, [], ◌∷◌}
use Rattle.varint.specs.Varint.{encoded}
use Rattle.feed_record.specs.declared.Expected.{Expected}
use Rattle.feed_record.specs.declared.Expected.TheVariants.{Any, Serial}
use Rattle.feed_record.specs.Records.{Admitted}
use Rattle.feed_record.specs.Serials.{serials, distance, following, ahead}
use Rattle.feed_record.specs.Records.{record_in, admission}
use Rattle.feed_record.specs.Claims.{NumberFaulty, Whole, BytesLeft, LargeSerial, LateSerial, Timely}
use Rattle.feed_record.specs.Claims.{serial_at, TakenAs, TakenAsLate}

-- Sign of client 1 with the last serial, and of client 0 with the one after it; of client 1, with
-- serial 6, a kind that there is not; Sign of client 2 with that serial again; Receipt of client 1
-- with a byte too many, and with a serial that there is not; Sign of a client 5
abbrev pub last_serial : List ℕ
last_serial = 255 ∷ 255 ∷ 3 ∷ 1 ∷ 0 ∷ []

abbrev pub serial_zero : List ℕ
serial_zero = 0 ∷ 0 ∷ 0 ∷ []

abbrev pub after_gap : List ℕ
after_gap = 6 ∷ 1 ∷ 7 ∷ []

abbrev pub repeated : List ℕ
repeated = 6 ∷ 2 ∷ 0 ∷ []

abbrev pub one_more : List ℕ
one_more = 7 ∷ 1 ∷ 3 ∷ 9 ∷ []

abbrev pub too_large : List ℕ
too_large = 128 ∷ 128 ∷ 4 ∷ 1 ∷ 3 ∷ []

abbrev pub no_client : List ℕ
no_client = 7 ∷ 5 ∷ 0 ∷ []

-- the event e of client g, both small, with serial 7
abbrev pub in_turn : ℕ → ℕ → List ℕ
in_turn g e = 7 ∷ g ∷ e ∷ []

-- from 65,533 it is five to 2
pub record Rings : Type 0 where
  pub reaches : (65533 + distance 65533 2) % serials ≡ 2
  pub short : distance 65533 2 < serials
  pub only : (d : ℕ) → d < serials → (65533 + d) % serials ≡ 2 → d ≡ 5
  pub next : following 6 ≡ 7
  pub turn : following 65535 ≡ 0
  pub first : ahead Any 2 ≡ 0
  pub later : ahead (Serial 65533) 2 ≡ 5

-- what is answered to a record, where x is expected
abbrev pub row_of : List ℕ → Expected → ℕ
row_of s x = (admission s x).refusal

abbrev pub place_of : List ℕ → Expected → ℕ
place_of s x = (admission s x).place

pub record RecordFields : Type 0 where
  -- the bytes end in the serial, or in the client; a symbol of four bytes
  pub in-serial : (row_of (255 ∷ 255 ∷ []) (Serial 7) ≡ 1) × (place_of (255 ∷ 255 ∷ []) (Serial 7) ≡ 0)
  pub in-client : (row_of (7 ∷ 129 ∷ []) (Serial 7) ≡ 1) × (place_of (7 ∷ 129 ∷ []) (Serial 7) ≡ 1)
  pub in-symbol : (row_of (7 ∷ 1 ∷ 128 ∷ 128 ∷ 128 ∷ 0 ∷ []) (Serial 7) ≡ 2)
      × (place_of (7 ∷ 1 ∷ 128 ∷ 128 ∷ 128 ∷ 0 ∷ []) (Serial 7) ≡ 2)
  pub row_10 : (row_of one_more (Serial 7) ≡ 10) × (place_of one_more (Serial 7) ≡ 3)
  pub row-21 : row_of too_large (Serial 7) ≡ 21
  pub row-22 : row_of repeated (Serial 7) ≡ 22
  pub large-place : place_of too_large (Serial 7) ≡ 0
  pub late-place : place_of repeated (Serial 7) ≡ 0
  -- .. and let in where it is the next, or where none is expected
  pub in-turn : row_of repeated (Serial 6) ≡ 0
  pub at_first : row_of repeated Any ≡ 0
  -- the whole answers
  pub answer : admission after_gap (Serial 1)
      ≡ record { refusal = 0; place = 0; expected = Serial 7; loss = 5; client = 1; symbol = 7 }
  pub refused : admission repeated (Serial 7)
      ≡ record { refusal = 22; place = 0; expected = Serial 7; loss = 0; client = 0; symbol = 0 }
  -- and the other way
  pub only-1 : (s : List ℕ) (x : Expected) → row_of s x ≡ 1 → NumberFaulty s 1 (place_of s x)
  pub only-2 : (s : List ℕ) (x : Expected) → row_of s x ≡ 2 → NumberFaulty s 2 (place_of s x)
  pub only-10 : (s : List ℕ) (x : Expected) → row_of s x ≡ 10 → BytesLeft s (place_of s x)
  pub only-21 : (s : List ℕ) (x : Expected) → row_of s x ≡ 21 → LargeSerial s
  pub only-22 : (s : List ℕ) (x : Expected) → row_of s x ≡ 22 → LateSerial s x
  pub only-0 : (s : List ℕ) (x : Expected) → row_of s x ≡ 0 → Timely s x
  -- a record is never refused by a row of the list or of its event
  pub never-19 : (s : List ℕ) (x : Expected) → row_of s x ≡ 19 → ⊥
  pub never-20 : (s : List ℕ) (x : Expected) → row_of s x ≡ 20 → ⊥
  -- the last serial, client 1 and Sign, with a byte behind them
  pub read_back : Whole (255 ∷ 255 ∷ 3 ∷ 1 ∷ 0 ∷ 9 ∷ []) 65535 1 0 5

-- what is read: a symbol of four bytes, a byte too many, three numbers
pub record ReadingFields : Type 0 where
  pub faulty : record_in (7 ∷ 1 ∷ 128 ∷ 128 ∷ 128 ∷ 0 ∷ []) ≡ record { refusal = 2; place = 2; serial = 0; client = 0; symbol = 0 }
  pub left : record_in one_more ≡ record { refusal = 10; place = 3; serial = 0; client = 0; symbol = 0 }
  pub whole : record_in after_gap ≡ record { refusal = 0; place = 0; serial = 6; client = 1; symbol = 7 }
  -- a serial's rows are none of reading's
  pub never-21 : (s : List ℕ) → (record_in s).refusal ≡ 21 → ⊥

-- Sign of client 1 at a place of an endless feed
abbrev pub sign_at : ℕ → List ℕ
sign_at S = encoded (serial_at S ∷ 1 ∷ 0 ∷ [])

-- it comes where the record at place 70,000 is expected, whose serial is 4,464
abbrev pub told : ℕ → Admitted
told S = admission (sign_at S) (Serial 4464)

pub record Telling : Type 0 where
  -- five were lost; 32,767; one more looks late; of a turn and one, one is told
  pub lost-5 : TakenAs 70005 (told 70005) 5
  pub lost-32767 : TakenAs (70000 + 32767) (told (70000 + 32767)) 32767
  pub lost-32768 : TakenAsLate 70000 (told (70000 + 32768))
  pub lost-65537 : TakenAs (70000 + 65537) (told (70000 + 65537)) 1
  -- it is 32,768 late; one more looks new, with 32,767 lost; a turn late looks in turn
  pub late-32768 : TakenAsLate 70000 (told (70000 - 32768))
  pub late-32769 : TakenAs (70000 - 32769) (told (70000 - 32769)) 32767
  pub late-65536 : TakenAs (70000 - 65536) (told (70000 - 65536)) 0
  -- a loss of five is told right; which losses are; and a repeat is refused, as is what is 32,768
  -- late
  pub right : TakenAs 70005 (told 70005) (70005 - 70000)
  pub only-right : (S : ℕ) → 70000 ≤ S → TakenAs S (told S) (S - 70000) → S - 70000 ≤ 32767
  pub repeat-refused : TakenAsLate 70000 (told 69999)
  pub late-refused : TakenAsLate 70000 (told (70000 - 32768))
  -- where none is expected
  pub first : TakenAs 70005 (admission (sign_at 70005) Any) 0
  -- the first of them, by its bytes
  pub bytes : sign_at 70005 ≡ 245 ∷ 34 ∷ 1 ∷ 0 ∷ []
