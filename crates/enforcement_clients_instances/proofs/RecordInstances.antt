-- The instances of the claims on one record of the feed.
use Prim.Native.Nat.{ℕ, ◌+◌, ◌-◌, ◌<◌}
use mathlib.Core.Path.{◌≡◌, refl, ◌∙◌}
use mathlib.Core.Logic.{inl, inr}
use mathlib.Core.List.{List, [], ◌∷◌, append-nil}
use native.Mathlib.Omega.{arith}
use borrow.Author.Tests.{lt-ltb}
use Rattle.varint.specs.Varint.{groups, read, encode, bytes, encoded}
use Rattle.base.proofs.Bools.{either}
use Rattle.feed_record.specs.declared.Expected.{Expected}
use Rattle.feed_record.specs.declared.Expected.TheVariants.{Any, Serial}
use Rattle.feed_record.specs.Serials.{distance, following, ahead}
use Rattle.feed_record.specs.Records.{turned_away, admission}
use Rattle.feed_record.specs.Claims.{Ring, RecordRows, NumberFaulty, Whole, RecordIs, LateSerial, InTime, serial_at, Told}
use Rattle.feed_record.proofs.Ring.{ring_as_worded}
use Rattle.feed_record.proofs.Worded.{records_as_worded, reading_as_worded, not-between, records_read_back}
use Rattle.feed_record.proofs.Telling.{serials_tell, first-let_in}
use Rattle.enforcement_clients_instances.specs.RecordStatements.{after_gap, repeated, one_more, too_large, in_turn, Rings, RecordFields, ReadingFields}
use Rattle.enforcement_clients_instances.specs.RecordStatements.{sign_at, Telling}

-- from 65,533 to 2
ring : Ring 65533 2
ring = ring_as_worded 65533 2 (omega arith) (omega arith)

five : distance 65533 2 ≡ 5
unfolding distance
five = refl

pub rings : Rings
rings =
    record {
      reaches = ring.reaches;
      short = ring.short;
      only = λ d l h. ring.only d l h ∙ five;
      next = (ring_as_worded 0 6 (omega arith) (omega arith)).next (omega arith);
      turn = (ring_as_worded 0 65535 (omega arith) (omega arith)).turn refl;
      first = ring.first;
      later = ring.later ∙ five;
    }

-- a record's rows
rows : (s : List ℕ) (x : Expected) → RecordRows s x (admission s x)
rows = records_as_worded

-- three numbers as they are read back, with a byte behind them and without
last-read : Whole (255 ∷ 255 ∷ 3 ∷ 1 ∷ 0 ∷ 9 ∷ []) 65535 1 0 5
unfolding encode bytes encoded
last-read = records_read_back 65535 1 0 (9 ∷ []) (omega arith) (omega arith) (omega arith)

one-more-read : Whole one_more 7 1 3 3
unfolding encode bytes encoded
one-more-read = records_read_back 7 1 3 (9 ∷ []) (omega arith) (omega arith) (omega arith)

pub gap_read : RecordIs after_gap 6 1 7
unfolding encode bytes encoded
gap_read = records_read_back 6 1 7 [] (omega arith) (omega arith) (omega arith)

pub repeat_read : RecordIs repeated 6 2 0
unfolding encode bytes encoded
repeat_read = records_read_back 6 2 0 [] (omega arith) (omega arith) (omega arith)

large-read : RecordIs too_large 65536 1 3
unfolding encode bytes encoded
large-read = records_read_back 65536 1 3 [] (omega arith) (omega arith) (omega arith)

turn-bytes : (g e : ℕ) → g < 128 → e < 128 → encoded (7 ∷ g ∷ e ∷ []) ≡ in_turn g e
unfolding encode bytes encoded
turn-bytes g e l k = rw (lt-ltb g 128 l, lt-ltb e 128 k)

turn-read : (g e : ℕ) → g < 128 → e < 128 → RecordIs (in_turn g e) 7 g e
turn-read g e l k =
    let is = turn-bytes g e l k in
    rw (append-nil (encoded (7 ∷ g ∷ e ∷ [])), is) at (records_read_back 7 g e [] (omega arith) (omega arith) (omega arith))

-- let in, with five lost before it
pub turn_in : (g e : ℕ) → g < 128 → e < 128 → InTime (in_turn g e) (Serial 2) 7 g e
unfolding ahead distance
turn_in g e l k = record { is = turn-read g e l k; small = omega arith; early = omega arith }

-- the numbers that cannot be read
in-serial : NumberFaulty (255 ∷ 255 ∷ []) 1 0
unfolding read groups
in-serial = inl (refl, (refl, λ z. omega arith))

in-client : NumberFaulty (7 ∷ 129 ∷ []) 1 1
unfolding read groups
in-client = inr (inl (record { serial = 7; serial-read = refl; refused = (refl, λ z. omega arith) }))

in-symbol : NumberFaulty (7 ∷ 1 ∷ 128 ∷ 128 ∷ 128 ∷ 0 ∷ []) 2 2
unfolding read groups
in-symbol =
    inr (inr (record {
      serial = 7;
      client-at = 1;
      client = 1;
      serial-read = refl;
      client-read = refl;
      refused = (refl, λ z. omega arith);
    }))

-- the repeat is late, or in turn; the other comes five after the one expected
pub late : LateSerial repeated (Serial 7)
unfolding ahead distance
late = record { serial = 6; client = 2; symbol = 0; is = repeat_read; small = omega arith; late = omega arith }

repeat_in : (x : Expected) → ahead x 6 < 32768 → InTime repeated x 6 2 0
repeat_in x l = record { is = repeat_read; small = omega arith; early = l }

pub gap_in : InTime after_gap (Serial 1) 6 1 7
unfolding ahead distance
gap_in = record { is = gap_read; small = omega arith; early = omega arith }

pub record_fields : RecordFields
unfolding ahead distance following
record_fields =
    let is-late = (rows repeated (Serial 7)).row-22.1 late in
    let at-serial = (rows repeated (Serial 7)).serial-place (inr is-late) in
    let is-large = (rows too_large (Serial 7)).row-21.1 (record { serial = 65536; client = 1; symbol = 3; is = large-read; large = omega arith }) in
    record {
      in-serial = ((rows (255 ∷ 255 ∷ []) (Serial 7)).numbers 1 0 (inl refl)).1 in-serial;
      in-client = ((rows (7 ∷ 129 ∷ []) (Serial 7)).numbers 1 1 (inl refl)).1 in-client;
      in-symbol = ((rows (7 ∷ 1 ∷ 128 ∷ 128 ∷ 128 ∷ 0 ∷ []) (Serial 7)).numbers 2 2 (inr refl)).1 in-symbol;
      row_10 = ((rows one_more (Serial 7)).row_10 3).1 (record { serial = 7; client = 1; symbol = 3; whole = one-more-read; more = omega arith });
      row-21 = is-large;
      row-22 = is-late;
      large-place = (rows too_large (Serial 7)).serial-place (inl is-large);
      late-place = at-serial;
      in-turn =
          (rows repeated (Serial 6)).admitted.1
          (record { serial = 6; client = 2; symbol = 0; in-time = repeat_in (Serial 6) (omega arith) });
      at_first =
          (rows repeated Any).admitted.1 (record { serial = 6; client = 2; symbol = 0; in-time = repeat_in Any (omega arith) });
      answer = (rows after_gap (Serial 1)).answer 6 1 7 gap_in;
      refused =
          (rows repeated (Serial 7)).refused (λ z. omega (arith, is-late)) ∙ (λ j. turned_away (Serial 7) (is-late j) (at-serial j));
      only-1 = λ s x h. ((rows s x).numbers 1 (admission s x).place (inl refl)).0 (h, refl);
      only-2 = λ s x h. ((rows s x).numbers 2 (admission s x).place (inr refl)).0 (h, refl);
      only-10 = λ s x h. ((rows s x).row_10 (admission s x).place).0 (h, refl);
      only-21 = λ s x h. (rows s x).row-21.0 h;
      only-22 = λ s x h. (rows s x).row-22.0 h;
      only-0 = λ s x h. (rows s x).admitted.0 h;
      never-19 = λ s x. not-between s x 19 (omega arith) (omega arith);
      never-20 = λ s x. not-between s x 20 (omega arith) (omega arith);
      read_back = last-read;
    }

pub reading_fields : ReadingFields
reading_fields =
    record {
      faulty = (reading_as_worded (7 ∷ 1 ∷ 128 ∷ 128 ∷ 128 ∷ 0 ∷ [])).faulty 2 2 (inr refl) in-symbol;
      left = (reading_as_worded one_more).left 3 (record { serial = 7; client = 1; symbol = 3; whole = one-more-read; more = omega arith });
      whole = (reading_as_worded after_gap).whole 6 1 7 gap_read;
      never-21 = λ s h.
          either (reading_as_worded s).known (λ k. omega arith)
          (λ f. either f (λ g. either g (λ k. omega arith) (λ k. omega arith)) (λ k. omega arith));
    }

-- Sign of client 1 at a place of an endless feed
sign_read : (S : ℕ) → RecordIs (sign_at S) (serial_at S) 1 0
sign_read S =
    rw (append-nil (sign_at S)) at (records_read_back (serial_at S) 1 0 [] (omega arith) (omega arith) (omega arith))

tells : (S : ℕ) → Told 70000 S (admission (sign_at S) (Serial 4464))
tells S = serials_tell 70000 S 1 0 (sign_at S) (sign_read S)

bytes_5 : sign_at 70005 ≡ 245 ∷ 34 ∷ 1 ∷ 0 ∷ []
unfolding encode bytes encoded
bytes_5 = refl

pub telling : Telling
telling =
    record {
      lost-5 = (tells 70005).new 5 (omega arith) refl (omega arith);
      lost-32767 = (tells (70000 + 32767)).new 32767 (omega arith) refl (omega arith);
      lost-32768 = (tells (70000 + 32768)).new-looks-late 32768 (omega arith) refl (omega arith);
      lost-65537 = (tells (70000 + 65537)).new 1 (omega arith) refl (omega arith);
      late-32768 = (tells (70000 - 32768)).late 32768 (omega arith) refl (omega arith) (omega arith);
      late-32769 = (tells (70000 - 32769)).late-looks-new 32769 (omega arith) refl (omega arith);
      late-65536 = (tells (70000 - 65536)).late-in-turn (omega arith) refl;
      right = ((tells 70005).right (omega arith)).1 (omega arith);
      only-right = λ S l h. ((tells S).right l).0 h;
      repeat-refused = (tells 69999).refused (omega arith) (omega arith);
      late-refused = (tells (70000 - 32768)).refused (omega arith) (omega arith);
      first = first-let_in 70005 1 0 (sign_at 70005) (sign_read 70005);
      bytes = bytes_5;
    }
