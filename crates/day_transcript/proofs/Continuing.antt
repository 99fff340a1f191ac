-- Laws of writing line after line.
use Prim.Native.Nat.{ℕ, ◌<◌, ◌≤◌}
use mathlib.Core.Path.{◌≡◌, refl, sym, ◌∙◌, ap}
use mathlib.Core.List.{List, [], ◌∷◌, ◌++◌, append_assoc, append-nil}
use native.Mathlib.Omega.{arith}
use lib.ListN.{length, length-append}
use Rattle.text.specs.Decimal.{Appended}
use Rattle.text.proofs.Appending.{behind, kept}
use Rattle.day_transcript.specs.Transcript.{Session}
use Rattle.day_transcript.specs.Pieces.{Progress, at, to_come, in_phase, Continued, Line}
use Rattle.day_transcript.specs.declared.Phase.TheVariants.{Ended, Receiving}

module _ {t s : List ℕ} {before : Progress} (u : Session) where
  -- nothing is to come
  pub line-none : (out : List ℕ) (from : ℕ) → from ≤ length out → to_come t s before ≡ [] → Line t s before out from out (at Ended u) from
  unfolding to_come in_phase
  line-none out from i e =
      record {
        continued = record { written = []; stored = record { content = refl; place = omega arith; inside = i }; whole = sym e };
        ended = λ _. e;
      }

  -- a line, which is not empty ..
  module _ {line : List ℕ} (some : 0 < length line) {out : List ℕ} {from : ℕ} {out' : List ℕ} {next : ℕ} (x : Appended out from line out' next) where
    -- .. and the last
    pub line-last : to_come t s before ≡ line → Line t s before out from out' (at Ended u) next
    unfolding to_come in_phase
    line-last e =
        record {
          continued = record { written = line; stored = x; whole = append-nil line ∙ sym e };
          ended = λ h. absurd (omega (arith, x.place));
        }

    -- .. or one after which events come
    pub line-goes_on : to_come t s before ≡ line ++ to_come t s (at Receiving u) → Line t s before out from out' (at Receiving u) next
    line-goes_on e =
        record {
          continued = record { written = line; stored = x; whole = sym e };
          ended = λ h. absurd (omega (arith, x.place));
        }

-- the loop over the lines
pub begins : (t s : List ℕ) (p : Progress) (out : List ℕ) → Continued t s p out 0 out p 0
begins t s p out = record { written = []; stored = record { content = refl; place = refl; inside = omega arith }; whole = refl }

none_left : (l : List ℕ) → length l ≡ 0 → l ≡ []
none_left [] h = refl
none_left (x ∷ l) h = absurd (omega arith)

module _ {t s : List ℕ} {p : Progress} {out₀ out : List ℕ} {later : Progress} {n : ℕ} (g : Continued t s p out₀ 0 out later n) where
  pub kept-length : length out ≡ length out₀
  kept-length = kept g.stored

  pub within : n ≤ length out
  within = omega (arith, g.stored.inside, kept-length)

  pub moves : {out' : List ℕ} {after : Progress} {next : ℕ} → Line t s later out n out' after next → n ≤ next
  moves x = omega (arith, x.continued.stored.place)

  pub again : {out' : List ℕ} {after : Progress} {next : ℕ} → Line t s later out n out' after next → Continued t s p out₀ 0 out' after next
  again {out'} {after} x =
      let w = g.written in
      let l = x.continued.written in
      record {
        written = w ++ l;
        stored = behind g.stored x.continued.stored;
        whole = append_assoc w l (to_come t s after) ∙ ap (λ y. w ++ y) x.continued.whole ∙ g.whole;
      }

  -- where no line was written, nothing is to come
  pub stays : {out' : List ℕ} {after : Progress} {next : ℕ} → Line t s later out n out' after next → next ≡ n → Continued t s p out₀ 0 out' later n
  stays {out'} {after} {next} x e =
      let l = x.continued.written in
      let z : l ≡ [] = none_left l (omega (arith, x.continued.stored.place, e)) in
      let same : out' ≡ out = x.continued.stored.content ∙ rw z in
      rw same g

  pub nothing : to_come t s later ≡ [] → n ≡ 0 → to_come t s p ≡ []
  nothing e z =
      let w : g.written ≡ [] = none_left g.written (omega (arith, g.stored.place, z)) in
      sym g.whole ∙ rw (w, e)

-- a line depends only on what is to come
pub line_as : {t s : List ℕ} {p q : Progress} {out : List ℕ} {from : ℕ} {out' : List ℕ} {after : Progress} {next : ℕ}
    → to_come t s p ≡ to_come t s q → Line t s q out from out' after next → Line t s p out from out' after next
line_as e x =
    record {
      continued = record { written = x.continued.written; stored = x.continued.stored; whole = x.continued.whole ∙ sym e };
      ended = λ h. e ∙ x.ended h;
    }

-- a piece that writes leaves less to come
pub less_left : {t s : List ℕ} {before : Progress} {out out' : List ℕ} {after : Progress} {next : ℕ}
    → Continued t s before out 0 out' after next → (next ≡ 0 → ⊥) → length (to_come t s after) < length (to_come t s before)
less_left {t} {s} {before} {out} {out'} {after} {next} g z =
    omega (arith, ap length g.whole, length-append g.written (to_come t s after), g.stored.place)
