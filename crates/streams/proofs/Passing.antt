-- The bytes that a transfer moved, where those of the reader or of the writer are known.
use Prim.Native.Nat.{ℕ, ◌+◌, ◌-◌, ◌≤◌, ◌<◌}
use mathlib.Core.Path.{◌≡◌, refl, sym, ◌∙◌, ap, subst}
use mathlib.Core.Bool.{true, false}
use mathlib.Core.List.{List, [], ◌++◌, append_assoc, append-nil}
use native.Mathlib.Omega.{arith}
use lib.ListN.{length, take, drop}
use lib.Seq.{take-add, take-append-le, take_at, drop_at, length-take-le}
use lib.Dec.{eqb}
use borrow.Author.Tests.{eqb-true, ltb-false}
use borrow.Rule.Slice.PartMut.{put_mid, post_of}
use Rattle.std.specs.declared.option.Option.{Option}
use Rattle.std.specs.declared.option.Option.TheVariants.{None, Some}
use Rattle.std.specs.declared.result.Result.TheVariants.{Ok, Err}
use Rattle.std.specs.declared.io.Error.{Error}
use Rattle.std.specs.IoError.{error_kind}
use Rattle.std.specs.Io.{ReadsAtMost}
use Rattle.std.specs.Io.KnownBytes.{Keeps, Consumes, Appends, IsAtEnd, ReadConsumes, WriteAppends}
use Rattle.std.proofs.lemmas.List.{take_rest}
use Rattle.base.proofs.Bools.{by, clash}
use Rattle.streams.specs.Transfers.{Transfer, Answer, begun, moved, interrupted, by_signal, failed, after}
use Rattle.streams.proofs.Transfers.{Standing}

-- known bytes, call by call
pub consumed_none : (a : Option (List ℕ)) → Consumes a a []
consumed_none None = tt
consumed_none (Some x) = refl

pub appended_none : (a : Option (List ℕ)) → Appends a a []
appended_none None = tt
appended_none (Some x) = sym (append-nil x)

consumed-more : (a b c : Option (List ℕ)) (bs cs : List ℕ) → Consumes a b bs → Consumes b c cs → Consumes a c (bs ++ cs)
consumed-more None b c bs cs p q = tt
consumed-more (Some x) None c bs cs p q = absurd p
consumed-more (Some x) (Some y) None bs cs p q = absurd q
consumed-more (Some x) (Some y) (Some z) bs cs p q = p ∙ ap (λ l. bs ++ l) q ∙ sym (append_assoc bs cs z)

consumed-kept : (a b c : Option (List ℕ)) (bs : List ℕ) → Consumes a b bs → Keeps b c → Consumes a c bs
consumed-kept None b c bs p q = tt
consumed-kept (Some x) None c bs p q = absurd p
consumed-kept (Some x) (Some y) None bs p q = absurd q
consumed-kept (Some x) (Some y) (Some z) bs p q = p ∙ ap (λ l. bs ++ l) (sym q)

pub appended-more : (a b c : Option (List ℕ)) (bs cs : List ℕ) → Appends a b bs → Appends b c cs → Appends a c (bs ++ cs)
appended-more None b c bs cs p q = tt
appended-more (Some x) None c bs cs p q = absurd p
appended-more (Some x) (Some y) None bs cs p q = absurd q
appended-more (Some x) (Some y) (Some z) bs cs p q = q ∙ ap (λ l. l ++ cs) p ∙ append_assoc x bs cs

appended-kept : (a b c : Option (List ℕ)) (bs : List ℕ) → Appends a b bs → Keeps b c → Appends a c bs
appended-kept None b c bs p q = tt
appended-kept (Some x) None c bs p q = absurd p
appended-kept (Some x) (Some y) None bs p q = absurd q
appended-kept (Some x) (Some y) (Some z) bs p q = q ∙ p

-- what a call adds to the count
count-moved : (t : Transfer) (bytes : ℕ) → (moved t bytes).count ≡ t.count + bytes
unfolding moved
count-moved t bytes = by (eqb bytes 0) (λ e. let z = eqb-true bytes 0 e in rw e (omega arith)) (λ e. rw e refl)

count-failed : (t : Transfer) (error : Error) → (failed t error).count ≡ t.count
unfolding failed interrupted
count-failed t error =
    by (by_signal (error_kind error)) (λ e. rw e (by (eqb t.interruptions 0) (λ z. rw z refl) (λ z. rw z refl))) (λ e. rw e refl)

-- so many bytes more, in front
joined : (a n : ℕ) (xs ys zs : List ℕ) → length xs ≡ a → n ≤ length ys → take (a + n) (xs ++ (ys ++ zs)) ≡ xs ++ take n ys
joined a n xs ys zs e m =
    rw (take-add a n (xs ++ (ys ++ zs)), take_at xs (ys ++ zs) a e, drop_at xs (ys ++ zs) a e, take-append-le n ys zs m) refl

front_kept : (a : ℕ) (xs ws : List ℕ) → length xs ≡ a → take a (xs ++ ws) ≡ xs
front_kept a xs ws e = take_at xs ws a e

-- reading: the buffer begins with the bytes that the reader lost
module _ {n : ℕ} {t : Transfer} (g : Standing n t) (first before now : Option (List ℕ)) (k : ℕ) (buf part : List ℕ) (e : length buf ≡ n) where
  front : length (take t.count buf) ≡ t.count
  front = length-take-le t.count buf (omega (arith, e, g.within))

  pub read-consumed : Consumes first before (take t.count buf) → (answer : Answer) → ReadsAtMost answer part → ReadConsumes before now answer part
      → Consumes first now (take (after t answer).count (put_mid t.count k buf part))
  unfolding after
  read-consumed x (Ok bytes) m y =
      subst (Consumes first now)
      (sym (rw (count-moved t bytes) (joined t.count bytes (take t.count buf) part (post_of t.count k buf) front m.0)))
      (consumed-more first before now _ _ x y.0)
  read-consumed x (Err error) m y =
      subst (Consumes first now)
      (sym (rw (count-failed t error) (front_kept t.count (take t.count buf) _ front)))
      (consumed-kept first before now _ x y)

-- .. and where it ended before the buffer was full, with no failure, the reader has none left
abbrev pub Ended : Transfer → Option (List ℕ) → Type 0
Ended t left = t.going ≡ false → t.failed ≡ false → t.count < t.size → IsAtEnd left

pub ended-begun : (n : ℕ) (left : Option (List ℕ)) → Ended (begun n) left
ended-begun n left over sound room = absurd (omega (arith, ltb-false 0 n over, room))

goes-or-fails : (t : Transfer) (error : Error) → t.going ≡ true → (failed t error).going ≡ false → (failed t error).failed ≡ false → ⊥
unfolding failed interrupted
goes-or-fails t error goes over sound =
    by (by_signal (error_kind error))
    (λ e.
    by (eqb t.interruptions 0)
    (λ z. clash refl (rw (e, z) at sound))
    (λ z. clash goes (rw (e, z) at over)))
    (λ e. clash refl (rw e at sound))

module _ {n : ℕ} {t : Transfer} (g : Standing n t) (goes : t.going ≡ true) (before now : Option (List ℕ)) (part : List ℕ) (l : length part ≡ n - t.count) where
  pub read-ended : (answer : Answer) → ReadsAtMost answer part → ReadConsumes before now answer part → Ended (after t answer) now
  unfolding after moved
  read-ended (Ok bytes) m y over sound room =
      by (eqb bytes 0)
      (λ e. y.1 (eqb-true bytes 0 e) (omega (arith, l, g.room goes)))
      (λ e. absurd (let f = rw e at over in let r = rw e at room in omega (arith, ltb-false (t.count + bytes) t.size f, r)))
  read-ended (Err error) m y over sound room = absurd (goes-or-fails t error goes over sound)

-- writing: the writer got the front of the bytes
module _ (t : Transfer) (first before now : Option (List ℕ)) (bytes : List ℕ) where
  pub write-appended : Appends first before (take t.count bytes) → (answer : Answer)
      → WriteAppends before now answer (take (length bytes - t.count) (drop t.count bytes))
      → Appends first now (take (after t answer).count bytes)
  unfolding after
  write-appended x (Ok more) y =
      subst (Appends first now)
      (sym (rw (count-moved t more) (take-add t.count more bytes)))
      (appended-more first before now _ _ x (rw (take_rest bytes t.count) at y))
  write-appended x (Err error) y =
      subst (Appends first now) (sym (rw (count-failed t error) refl)) (appended-kept first before now _ x y)
