-- What a serial tells of true places in an endless feed.
use Rattle.std.proofs.Common.{◌≡◌, ℕ, ◌+◌, ◌-◌, ◌%◌, ◌<◌, ◌≤◌, leb, List, sym, ap, ◌∙◌, arith, leb-false, leb-true}
use Rattle.base.proofs.Bools.{by}
use Rattle.feed_record.specs.declared.Expected.TheVariants.{Any, Serial}
use Rattle.feed_record.specs.Serials.{serials, distance, following, ahead}
use Rattle.feed_record.specs.Records.{Admitted, admission}
use Rattle.feed_record.specs.Claims.{RecordIs, serial_at, TakenAs, TakenAsLate, SerialsTell, FirstLetIn}
use Rattle.feed_record.proofs.Worded.{is-late, is_in}

-- the distance between true places
module _ (X S : ℕ) where
  abbrev apart : ℕ
  apart = distance (serial_at X) (serial_at S)

  apart_new : X ≤ S → apart ≡ (S - X) % serials
  unfolding distance
  apart_new l = omega arith

  apart_late : S < X → (X - S) % serials ≡ (serials - apart) % serials
  unfolding distance
  apart_late l = omega arith

  apart_short : apart < serials
  unfolding distance
  apart_short = omega arith

next-is : (S : ℕ) → following (serial_at S) ≡ serial_at (S + 1)
unfolding following
next-is S = omega arith

small : (S : ℕ) → serial_at S ≤ 65535
small S = omega arith

module _ (X S client symbol : ℕ) (s : List ℕ) (r : RecordIs s (serial_at S) client symbol) where
  abbrev m : Admitted
  m = admission s (Serial (serial_at X))

  taken : apart X S < 32768 → TakenAs S m (apart X S)
  unfolding ahead
  taken d =
      let e = is_in s (Serial (serial_at X)) (serial_at S) client symbol r (small S) d in (
        ap (λ a. a.refusal) e,
        ap (λ a. a.loss) e,
        ap (λ a. a.expected) e ∙ ap Serial (next-is S),
      )

  late : 32768 ≤ apart X S → TakenAsLate X m
  unfolding ahead
  late d = is-late s (Serial (serial_at X)) (serial_at S) client symbol r (small S) d

  taken_as : (d : ℕ) → apart X S ≡ d → d < 32768 → TakenAs S m d
  taken_as d h l = rw h at (taken (omega arith))

  -- one is not the other
  not-both : (d : ℕ) → TakenAs S m d → TakenAsLate X m → ⊥
  not-both d t l = let z : ◌≡◌ {A = ℕ} 0 22 = sym t.0 ∙ ap (λ a. a.refusal) l in omega arith

pub serials_tell : SerialsTell
serials_tell X S client symbol s r =
    record {
      new = λ d l e g. taken_as X S client symbol s r d (apart_new X S l ∙ sym e) (omega arith);
      new-looks-late = λ d l e g. late X S client symbol s r (omega (arith, apart_new X S l));
      late-in-turn = λ l e. taken_as X S client symbol s r 0 (omega (arith, apart_late X S l, apart_short X S)) (omega arith);
      late = λ d l e g h. late X S client symbol s r (omega (arith, apart_late X S l, apart_short X S));
      late-looks-new = λ d l e g. taken_as X S client symbol s r (serials - d) (omega (arith, apart_late X S l, apart_short X S)) (omega arith);
      right = λ l. (
        λ t. by (leb 32768 (apart X S))
            (λ k. absurd (not-both X S client symbol s r (S - X) t (late X S client symbol s r (leb-true 32768 (apart X S) k))))
            (λ k.
            let d = leb-false 32768 (apart X S) k in
            let e : S - X ≡ apart X S = sym t.1 ∙ (taken X S client symbol s r d).1 in
            omega arith),
        λ g. taken_as X S client symbol s r (S - X) (omega (arith, apart_new X S l)) (omega arith),
      );
      refused = λ l g. late X S client symbol s r (omega (arith, apart_late X S l, apart_short X S));
    }

pub first-let_in : FirstLetIn
unfolding ahead
first-let_in S client symbol s r =
    let e = is_in s Any (serial_at S) client symbol r (small S) (omega arith) in (
      ap (λ a. a.refusal) e,
      ap (λ a. a.loss) e,
      ap (λ a. a.expected) e ∙ ap Serial (next-is S),
    )
