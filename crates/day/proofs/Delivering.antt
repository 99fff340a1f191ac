-- The loop over the pieces: what was handed over, and what is still to come.
use Prim.Native.Nat.{ℕ, ◌+◌, ◌^◌, ◌<◌, ◌≤◌}
use mathlib.Core.Path.{◌≡◌, refl, sym, ◌∙◌, ap}
use mathlib.Core.Bool.{true, false}
use mathlib.Core.List.{List, [], ◌++◌, append_assoc, append-nil}
use native.Mathlib.Omega.{arith}
use lib.ListN.{length, take, drop, length-append}
use lib.Seq.{take-add, take-append-le, drop_at}
use borrow.Author.Tests.{eqb-true, eqb-false}
use Rattle.std.specs.declared.option.Option.{Option}
use Rattle.std.specs.Io.KnownBytes.{Appends}
use Rattle.streams.specs.Streams.{WriteResult, Handed}
use Rattle.streams.proofs.Passing.{appended-more}
use Rattle.text.proofs.Appending.{front-is, front_length}
use Rattle.day_transcript.specs.declared.Progress.{Progress}
use Rattle.day_transcript.specs.Pieces.{to_come, Continued}
use Rattle.day.specs.Delivery.{Delivered, complete, stopped}

-- so many bytes were handed over, whole pieces; what is left of the text is to come
pub record Delivering (text later : List ℕ) (count : ℕ) : Type 0 where
  pub fits : length text < 2 ^ 64
  pub before : List ℕ
  pub whole : before ++ later ≡ text
  pub counted : count ≡ length before

pub begins : {text later : List ℕ} → length text < 2 ^ 64 → later ≡ text → Delivering text later 0
begins f e = record { fits = f; before = []; whole = e; counted = refl }

pub ends : {text later : List ℕ} {count : ℕ} → Delivering text later count → later ≡ [] → (out : List ℕ) → Delivered text out count true
ends {text} {later} {count} g e out =
    let all : g.before ≡ text = sym (append-nil g.before) ∙ ap (λ l. g.before ++ l) (sym e) ∙ g.whole in
    rw (g.counted, all) complete

module _ {text t s : List ℕ} {p : Progress} {count : ℕ} (g : Delivering text (to_come t s p) count)
    {out out' : List ℕ} {after : Progress} {n : ℕ} (x : Continued t s p out 0 out' after n) {w : WriteResult} (h : Handed (take n out') w) where
  whole : g.before ++ (x.written ++ to_come t s after) ≡ text
  whole = ap (λ l. g.before ++ l) x.whole ∙ g.whole

  part : w.count ≤ length x.written
  part = rw (front-is x.stored) at h.within

  pub count_fits : count + w.count < 2 ^ 64
  count_fits =
      let l = length-append g.before (x.written ++ to_come t s after) in
      let m = length-append x.written (to_come t s after) in
      omega (arith, g.fits, g.counted, part, ap length whole, l, m)

  -- what was handed over of it comes behind what was before
  pub passes : (first old new : Option (List ℕ)) → Appends first old (take count text) → Appends old new (take w.count (take n out'))
      → Appends first new (take (count + w.count) text)
  passes first old new a b =
      let later = x.written ++ to_come t s after in
      let behind : take w.count (drop count text) ≡ take w.count x.written =
      rw (sym whole, drop_at g.before later count (sym g.counted)) (take-append-le w.count x.written (to_come t s after) part) in
      rw (take-add count w.count text, behind) (appended-more first old new _ _ a (rw (front-is x.stored) at b))

  -- the piece was handed over whole
  pub goes_on : w.done ≡ true → Delivering text (to_come t s after) (count + w.count)
  goes_on d =
      let all : w.count ≡ length x.written =
      eqb-true _ _ (sym h.done ∙ d) ∙ ap length (front-is x.stored) in
      record {
        fits = g.fits;
        before = g.before ++ x.written;
        whole = append_assoc g.before x.written (to_come t s after) ∙ whole;
        counted = omega (arith, length-append g.before x.written, g.counted, all);
      }

  -- it was not
  pub stops : w.done ≡ false → Delivered text out' (count + w.count) false
  stops d =
      let size : n ≡ length x.written = omega (arith, x.stored.place) in
      let lent : length (take n out') ≡ n = front_length x.stored in
      let fewer : w.count ≡ length (take n out') → ⊥ = eqb-false w.count (length (take n out')) (sym h.done ∙ d) in
      let few : w.count < length x.written = omega (arith, h.within, fewer) in
      let held : take (length x.written) out' ≡ x.written = ap (λ k. take k out') (sym size) ∙ front-is x.stored in
      rw g.counted (stopped g.before x.written (to_come t s after) w.count whole held few)
