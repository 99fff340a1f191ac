-- Numbers as bytes: they are read back one after the other, and no bytes that read so are fewer.
use Prim.Native.Nat.{ℕ, suc, ◌+◌, ◌<◌, ◌≤◌}
use mathlib.Core.Path.{◌≡◌, refl}
use mathlib.Core.List.{List, [], ◌∷◌, ◌++◌, append_assoc, append-nil}
use lib.ListN.{length, length-append}
use native.Mathlib.Omega.{arith}
use Rattle.base.proofs.Every.{Every}
use Rattle.varint.specs.Varint.{read, bytes}
use Rattle.varint.proofs.Laws.{bytes_one}
use Rattle.varint.proofs.Trips.{reads_back, read-after, read-inside}
use Rattle.automaton_format.specs.Writing.{encoded}
use Rattle.automaton_format.proofs.Follows.{Follows}

pub encoded_follows : (vs p : List ℕ) → Every (λ v. v < 2097152) vs → Follows (read (p ++ encoded vs)) vs (length p) (length (p ++ encoded vs))
unfolding encoded
encoded_follows [] p h = rw (append-nil p)
encoded_follows (v ∷ vs) p h = (
  length p + length (bytes v),
  reads_back v p (encoded vs) (h 0 (omega arith)),
  rw (append_assoc p (bytes v) (encoded vs), length-append p (bytes v)) at (encoded_follows vs (p ++ bytes v) (λ i l. h (suc i) (omega arith))),
)

module _ (s : List ℕ) where
  pub follows_fewest : (vs : List ℕ) (at stop : ℕ) → Follows (read s) vs at stop → Every (λ v. v < 128) vs → at + length (encoded vs) ≤ stop
  unfolding encoded
  follows_fewest [] at stop f h = omega (arith, f)
  follows_fewest (v ∷ vs) at stop f h =
      rw (bytes_one v (h 0 (omega arith)))
      (omega (arith, read-after s at v f.0 f.1, follows_fewest vs f.0 stop f.2 (λ i l. h (suc i) (omega arith))))

  pub follows_inside : (vs : List ℕ) (at stop : ℕ) → at ≤ length s → Follows (read s) vs at stop → stop ≤ length s
  follows_inside [] at stop h f = omega (arith, f)
  follows_inside (v ∷ vs) at stop h f = follows_inside vs f.0 stop (read-inside s at v f.0 f.1) f.2

-- numbers below 128 are their own bytes
pub encoded-small : (vs : List ℕ) → Every (λ v. v < 128) vs → encoded vs ≡ vs
unfolding encoded
encoded-small [] h = refl
encoded-small (v ∷ vs) h = rw (bytes_one v (h 0 (omega arith)), encoded-small vs (λ i l. h (suc i) (omega arith)))
