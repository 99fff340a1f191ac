-- Laws of a transfer, call by call.
use Prim.Native.Nat.{ℕ, ◌+◌, ◌-◌, ◌≤◌, ◌<◌}
use mathlib.Core.Path.{◌≡◌, refl, sym, ◌∙◌, ap}
use mathlib.Core.Bool.{Bool, true, false, cond}
use mathlib.Core.List.{List, [], ◌∷◌, ◌++◌}
use native.Mathlib.Omega.{arith}
use lib.ListN.{length, take, drop, length-drop}
use lib.Seq.{length-take-le}
use lib.Dec.{eqb, ltb}
use borrow.Author.Tests.{ltb-true, eq-eqb, ne_eqb, eqb-true, eqb-false}
use Rattle.std.specs.declared.result.Result.TheVariants.{Ok, Err}
use Rattle.std.specs.declared.io.Error.{Error}
use Rattle.std.specs.declared.io.ErrorKind.{ErrorKind}
use Rattle.std.specs.declared.io.ErrorKind.TheVariants.{Interrupted}
use Rattle.std.specs.IoError.{error_kind}
use Rattle.std.specs.Io.{ReadsAtMost, WritesAtMost}
use Rattle.base.proofs.Bools.{by, clash}
use Rattle.streams.specs.Transfers.{Transfer, Answer, Moved, begun, ended, advanced, moved, again, interrupted, by_signal, failed, after, transferred}

-- every other kind of error
not_by_signal : (kind : ErrorKind) → (kind ≡ Interrupted → ⊥) → by_signal kind ≡ false
unfolding by_signal
not_by_signal Interrupted h = absurd (h refl)
not_by_signal _ h = refl

module _ (t : Transfer) where
  -- a call that moved bytes
  pub moved_none : (bytes : ℕ) → bytes ≡ 0 → ended t false ≡ moved t bytes
  unfolding moved
  moved_none bytes z = rw (eq-eqb bytes 0 z)

  pub moved-some : (bytes : ℕ) → (bytes ≡ 0 → ⊥) → advanced t bytes ≡ moved t bytes
  unfolding moved
  moved-some bytes h = rw (ne_eqb bytes 0 h)

  -- a call that a signal interrupted
  pub interrupted_often : t.interruptions ≡ 0 → ended t true ≡ interrupted t
  unfolding interrupted
  interrupted_often z = rw (eq-eqb t.interruptions 0 z)

  pub interrupted-again : (t.interruptions ≡ 0 → ⊥) → again t ≡ interrupted t
  unfolding interrupted
  interrupted-again h = rw (ne_eqb t.interruptions 0 h)

  -- a call that failed
  pub failed-by_signal : (error : Error) → error_kind error ≡ Interrupted → interrupted t ≡ failed t error
  unfolding failed by_signal
  failed-by_signal error e = rw e refl

  pub failed_otherwise : (error : Error) → (error_kind error ≡ Interrupted → ⊥) → ended t true ≡ failed t error
  unfolding failed
  failed_otherwise error h = rw (not_by_signal (error_kind error) h) refl

-- the loop over the calls: where a transfer of n bytes stands
pub record Standing (n : ℕ) (t : Transfer) : Type 0 where
  pub whole : t.size ≡ n
  pub within : t.count ≤ n
  pub room : t.going ≡ true → t.count < n
  pub sound : t.going ≡ true → t.failed ≡ false
  pub short : t.failed ≡ true → t.count < n

pub stands-begun : (n : ℕ) → Standing n (begun n)
stands-begun n =
    record {
      whole = refl;
      within = omega arith;
      room = λ h. ltb-true 0 n h;
      sound = λ h. refl;
      short = λ h. absurd (clash h refl);
    }

-- it is what some answers made of a transfer that had begun
pub record Made (n : ℕ) (t : Transfer) : Type 0 where
  pub answers : List Answer
  pub so_far : t ≡ transferred (begun n) answers

pub made-begun : (n : ℕ) → Made n (begun n)
unfolding transferred
made-begun n = record { answers = []; so_far = refl }

one_more : (t : Transfer) (xs : List Answer) (x : Answer) → transferred t (xs ++ x ∷ []) ≡ after (transferred t xs) x
unfolding transferred
one_more t [] x = refl
one_more t (y ∷ ys) x = one_more (after t y) ys x

pub made_after : {n : ℕ} {t : Transfer} → Made n t → (answer : Answer) → Made n (after t answer)
made_after {n} {t} m answer =
    record {
      answers = m.answers ++ answer ∷ [];
      so_far = ap (λ u. after u answer) m.so_far ∙ sym (one_more (begun n) m.answers answer);
    }

-- what is still to be moved, the interruptions that are left, and the last call
abbrev pub unspent : Transfer → ℕ
unspent t = (t.size - t.count) + t.interruptions + cond t.going 1 0

-- what is lent to a call is what is left, and so a call moves no more than that
pub lent-length : {n : ℕ} {t : Transfer} (bytes : List ℕ) → length bytes ≡ n → Standing n t
    → length (take (length bytes - t.count) (drop t.count bytes)) ≡ n - t.count
lent-length {n} {t} bytes e g =
    length-take-le _ (drop t.count bytes) (rw (length-drop t.count bytes) (omega arith)) ∙ ap (λ k. k - t.count) e

module _ {n : ℕ} {t : Transfer} (g : Standing n t) (lent : List ℕ) (l : length lent ≡ n - t.count) where
  pub read-moved : (answer : Answer) → ReadsAtMost answer lent → Moved (t.size - t.count) answer
  read-moved (Ok bytes) m = omega (arith, l, m.0, g.whole)
  read-moved (Err error) m = tt

  pub write-moved : (answer : Answer) → WritesAtMost answer lent → Moved (t.size - t.count) answer
  write-moved (Ok bytes) m = omega (arith, l, m, g.whole)
  write-moved (Err error) m = tt

module _ {n : ℕ} {t : Transfer} (g : Standing n t) (goes : t.going ≡ true) where
  stands-ended : (failed : Bool) → Standing n (ended t failed)
  stands-ended failed =
      record {
        whole = g.whole;
        within = g.within;
        room = λ h. absurd (clash h refl);
        sound = λ h. absurd (clash h refl);
        short = λ h. g.room goes;
      }

  less_ended : (failed : Bool) → unspent (ended t failed) < unspent t
  less_ended failed = rw goes (omega arith)

  stands-moved : (bytes : ℕ) → bytes ≤ t.size - t.count → Standing n (moved t bytes)
  stands-moved bytes m =
      by (eqb bytes 0)
      (λ e. rw (sym (moved_none t bytes (eqb-true bytes 0 e))) (stands-ended false))
      (λ e. rw (sym (moved-some t bytes (eqb-false bytes 0 e)))
      (record {
        whole = g.whole;
        within = omega (arith, g.whole, g.within);
        room = λ h. omega (arith, g.whole, ltb-true (t.count + bytes) t.size h);
        sound = λ h. g.sound goes;
        short = λ h. absurd (clash h (g.sound goes));
      }))

  bit_small : (b : Bool) → cond b 1 0 ≤ 1
  bit_small true = omega arith
  bit_small false = omega arith

  less_moved : (bytes : ℕ) → bytes ≤ t.size - t.count → unspent (moved t bytes) < unspent t
  less_moved bytes m =
      by (eqb bytes 0)
      (λ e. rw (sym (moved_none t bytes (eqb-true bytes 0 e))) (less_ended false))
      (λ e. rw (sym (moved-some t bytes (eqb-false bytes 0 e)))
      (let z = eqb-false bytes 0 e in
      rw goes (omega (arith, g.room goes, g.whole, bit_small (ltb (t.count + bytes) t.size)))))

  stands-interrupted : Standing n (interrupted t)
  unfolding interrupted
  stands-interrupted =
      by (eqb t.interruptions 0)
      (λ e. rw e (stands-ended true))
      (λ e. rw e (record { whole = g.whole; within = g.within; room = g.room; sound = g.sound; short = g.short }))

  less_interrupted : unspent (interrupted t) < unspent t
  unfolding interrupted
  less_interrupted =
      by (eqb t.interruptions 0)
      (λ e. rw e (less_ended true))
      (λ e. let i = eqb-false t.interruptions 0 e in rw e (omega arith))

  stands-failed : (error : Error) → Standing n (failed t error)
  unfolding failed
  stands-failed error = by (by_signal (error_kind error)) (λ e. rw e stands-interrupted) (λ e. rw e (stands-ended true))

  less_failed : (error : Error) → unspent (failed t error) < unspent t
  unfolding failed
  less_failed error = by (by_signal (error_kind error)) (λ e. rw e less_interrupted) (λ e. rw e (less_ended true))

  pub stands_after : (answer : Answer) → Moved (t.size - t.count) answer → Standing n (after t answer)
  unfolding after
  stands_after (Ok bytes) m = stands-moved bytes m
  stands_after (Err error) m = stands-failed error

  pub less_after : (answer : Answer) → Moved (t.size - t.count) answer → unspent (after t answer) < unspent t
  unfolding after
  less_after (Ok bytes) m = less_moved bytes m
  less_after (Err error) m = less_failed error
