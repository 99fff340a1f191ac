-- The ring of serials.
use Rattle.std.proofs.Common.{◌≡◌, ℕ, ◌+◌, ◌%◌, ◌<◌, refl, arith}
use Rattle.feed_record.specs.Serials.{serials, distance, following, ahead}
use Rattle.feed_record.specs.Claims.{RingAsWorded}

module _ (x s : ℕ) (fx : x < serials) (fs : s < serials) where
  pub distance-only : (d : ℕ) → d < serials → (d + x) % serials ≡ s → d ≡ distance x s
  unfolding distance
  distance-only d l h = omega arith

  distance-reaches : (x + distance x s) % serials ≡ s
  unfolding distance
  distance-reaches = omega arith

  distance-short : distance x s < serials
  unfolding distance
  distance-short = omega arith

pub ring_as_worded : RingAsWorded
unfolding following ahead
ring_as_worded x s fx fs =
    record {
      reaches = distance-reaches x s fx fs;
      short = distance-short x s fx fs;
      only = λ d l h. distance-only x s fx fs d l (omega arith);
      next = λ l. omega arith;
      turn = λ h. omega arith;
      first = refl;
      later = refl;
    }
