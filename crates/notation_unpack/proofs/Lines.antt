-- Laws of the pass that measures and of the one that writes.
use Prim.Native.Nat.{ℕ, suc, ◌+◌, ◌-◌, ◌<◌, ◌≤◌}
use mathlib.Core.Path.{◌≡◌, refl, sym, ◌∙◌, ap, ap₂}
use mathlib.Core.Bool.{Bool, true, false, cond}
use mathlib.Core.List.{List, [], ◌∷◌, ◌++◌, append_assoc, append-nil}
use native.Mathlib.Omega.{arith}
use lib.ListN.{length, set, length-append}
use lib.Dec.{leb, ltb, eqb}
use borrow.Author.Tests.{le-leb, lt-leb, leb-true, leb-false, ltb-true, ltb-false, eqb-true, eqb-false}
use Rattle.base.proofs.Bools.{by, same_test}
use Rattle.varint.specs.Varint.{Number, read}
use Rattle.text.specs.Decimal.{decimal, Appended}
use Rattle.text.proofs.Appending.{behind, kept, one_byte}
use Rattle.notation.specs.Outcomes.{numbers, faulty, before}
use Rattle.notation.proofs.Outcomes.{Stands, stands-first, stands-next, split, none_left, one_left, no_fault, placed-fits, placed-short}
use Rattle.notation_unpack.specs.Unpacking.{Unpacked, Decoded, decoded_from, decoded, mark, line_of, done, refused, unpacked, unpacked_buffer}
use Rattle.notation_unpack.specs.Measures.{measured, mark_at, StoreLineRequires}
use Rattle.notation_unpack.proofs.Decoding.{number-next, steps-more, decoded-ended, decoded-faulty, decoded-number, decoded_proper}

-- one more number in a line
line-length : (v : ℕ) (vs : List ℕ) → length (line_of (v ∷ vs)) ≡ length (decimal v) + 1 + length (line_of vs)
unfolding line_of
line-length v vs = length-append (decimal v) (mark vs ∷ line_of vs) ∙ omega arith

-- the pass that measures: at the end, with a number that has room, and with one that has none
module _ (room l : ℕ) where
  measured-short : refused 16 0 ≡ measured room l true (numbers [])
  unfolding measured
  measured-short = refl

  measured-done : done (room - l) ≡ measured room l false (numbers [])
  unfolding measured line_of
  measured-done = rw (le-leb 0 l (omega arith)) (let e : room - l ≡ room - l + 0 = omega arith in ap done e)

  module _ (v size : ℕ) (e : size ≡ length (decimal v) + 1) where
    measured-fits : (short : Bool) (r : Decoded) → size ≤ l → l ≤ room → measured room (l - size) short r ≡ measured room l short (before v r)
    unfolding measured before
    measured-fits short (faulty x) h k = refl
    measured-fits true (numbers vs) h k = refl
    measured-fits false (numbers vs) h k =
        let n = line-length v vs in
        let same : leb (length (line_of vs)) (l - size) ≡ leb (length (line_of (v ∷ vs))) l =
        same_test (leb (length (line_of vs)) (l - size)) (leb (length (line_of (v ∷ vs))) l)
        (λ t. le-leb (length (line_of (v ∷ vs))) l (omega (arith, n, leb-true (length (line_of vs)) (l - size) t)))
        (λ t. le-leb (length (line_of vs)) (l - size) (omega (arith, n, leb-true (length (line_of (v ∷ vs))) l t))) in
        let sum : room - (l - size) + length (line_of vs) ≡ room - l + length (line_of (v ∷ vs)) = omega (arith, n) in
        ap₂ (λ t m. cond t (done m) (refused 16 0)) same sum

    measured-lacks : (short : Bool) (r : Decoded) → l < size → measured room l true r ≡ measured room l short (before v r)
    unfolding measured before
    measured-lacks short (faulty x) h = refl
    measured-lacks true (numbers vs) h = refl
    measured-lacks false (numbers vs) h =
        let t : leb (length (line_of (v ∷ vs))) l ≡ false = lt-leb (length (line_of (v ∷ vs))) l (omega (arith, line-length v vs)) in
        rw t

pub record Measuring (s : List ℕ) (room at l : ℕ) (short : Bool) : Type 0 where
  pub stands : Stands s at
  pub within : l ≤ room
  pub so_far : measured room l short (decoded_from (suc stands.steps) s at) ≡ measured room room false (decoded s)

pub measuring_begins : (s : List ℕ) (room : ℕ) → Measuring s room 0 room false
unfolding decoded stands-first
measuring_begins s room = record { stands = stands-first s; within = omega arith; so_far = refl }

module _ {s : List ℕ} {room at l : ℕ} {short : Bool} (g : Measuring s room at l short) where
  module _ (h : length s ≤ at) where
    ended : measured room l short (numbers []) ≡ measured room room false (decoded s)
    ended = ap (measured room l short) (sym (decoded-ended s at (read s at) refl g.stands.steps h)) ∙ g.so_far

    pub measuring_short : short ≡ true → refused 16 0 ≡ measured room room false (decoded s)
    measuring_short t = measured-short room l ∙ rw t at ended

    pub measuring_done : short ≡ false → done (room - l) ≡ measured room room false (decoded s)
    measuring_done t = measured-done room l ∙ rw t at ended

  module _ (h : at < length s) (n : Number) (e : n ≡ read s at) where
    pub measuring_refused : (n.refusal ≡ 0 → ⊥) → refused n.refusal n.place ≡ measured room room false (decoded s)
    unfolding measured
    measuring_refused z = ap (measured room l short) (sym (decoded-faulty s at n e g.stands.steps h z)) ∙ g.so_far

    module _ (z : n.refusal ≡ 0) (size : ℕ) (c : size ≡ length (decimal n.value) + 1) where
      step : measured room l short (before n.value (decoded_from g.stands.steps s n.place)) ≡ measured room room false (decoded s)
      step = ap (measured room l short) (sym (decoded-number s at n e g.stands.steps h z)) ∙ g.so_far

      steps-left : decoded_from (suc (steps-more g.stands n e z).0) s n.place ≡ decoded_from g.stands.steps s n.place
      steps-left = ap (λ k. decoded_from k s n.place) (sym (steps-more g.stands n e z).1)

      pub measuring_fits : size ≤ l → Measuring s room n.place (l - size) short
      unfolding number-next steps-more stands-next
      measuring_fits f =
          record {
            stands = number-next g.stands n e z;
            within = omega (arith, g.within);
            so_far =
                ap (measured room (l - size) short) steps-left ∙
                measured-fits room l n.value size c short (decoded_from g.stands.steps s n.place) f g.within ∙
                step;
          }

      pub measuring_lacks : l < size → Measuring s room n.place l true
      unfolding number-next steps-more stands-next
      measuring_lacks f =
          record {
            stands = number-next g.stands n e z;
            within = g.within;
            so_far =
                ap (measured room l true) steps-left ∙
                measured-lacks room l n.value size c short (decoded_from g.stands.steps s n.place) f ∙
                step;
          }

-- the mark after a number that ends at a place, by what comes after that place
marked : (k : ℕ) (s : List ℕ) (at : ℕ) (m : List ℕ) → decoded_from (suc k) s at ≡ numbers m → mark_at at (length s) ≡ mark m
unfolding mark_at mark
marked k s at m h =
    by (ltb at (length s))
    (λ t.
    let l = ltb-true at (length s) t in
    let n = read s at in
    rw t (by (eqb n.refusal 0)
    (λ z. let o = one_left n.value (decoded_from k s n.place) m (sym (decoded-number s at n refl k l (eqb-true n.refusal 0 z)) ∙ h) in rw o.1)
    (λ z. absurd (no_fault (n.refusal, n.place) m (sym (decoded-faulty s at n refl k l (eqb-false n.refusal 0 z)) ∙ h)))))
    (λ t.
    let o = none_left m (sym (decoded-ended s at (read s at) refl k (ltb-false at (length s) t)) ∙ h) in
    rw (t, o))

-- the pass that writes
pub record Storing (s out₀ out : List ℕ) (at place : ℕ) : Type 0 where
  pub stands : Stands s at
  pub values : List ℕ
  pub later : List ℕ
  pub written : List ℕ
  pub coming : decoded_from (suc stands.steps) s at ≡ numbers later
  pub whole : decoded s ≡ numbers values
  pub joined : written ++ line_of later ≡ line_of values
  pub room : length (line_of values) ≤ length out₀
  pub stored : Appended out₀ 0 written out place

pub storing_begins : {s out : List ℕ} → StoreLineRequires s out → Storing s out out 0 0
unfolding decoded stands-first
storing_begins {s} {out} f =
    record {
      stands = stands-first s;
      values = f.values;
      later = f.values;
      written = [];
      coming = f.read;
      whole = f.read;
      joined = refl;
      room = f.room;
      stored = record { content = refl; place = refl; inside = omega arith };
    }

module _ {s out₀ out : List ℕ} {at place : ℕ} (g : Storing s out₀ out at place) where
  pub storing_length : length out ≡ length out₀
  storing_length = kept g.stored

  pub storing_ended : length s ≤ at → out ≡ unpacked_buffer (decoded s) out₀
  unfolding unpacked_buffer line_of
  storing_ended h =
      let vs = g.values in
      let none : g.later ≡ [] = none_left g.later (sym (decoded-ended s at (read s at) refl g.stands.steps h) ∙ g.coming) in
      let all : g.written ≡ line_of vs = sym (append-nil g.written) ∙ rw none at g.joined in
      g.stored.content ∙ rw (g.whole, all) (placed-fits (line_of vs) out₀ g.room)

  module _ (h : at < length s) (n : Number) (e : n ≡ read s at) where
    -- there is a number, and what comes after it
    pub storing_number : n.refusal ≡ 0
    storing_number =
        by (eqb n.refusal 0)
        (λ f. eqb-true n.refusal 0 f)
        (λ f. absurd (no_fault (n.refusal, n.place) g.later
        (sym (decoded-faulty s at n e g.stands.steps h (eqb-false n.refusal 0 f)) ∙ g.coming)))

    next : (m : List ℕ) × (g.later ≡ n.value ∷ m) × (decoded_from g.stands.steps s n.place ≡ numbers m)
    next =
        one_left n.value (decoded_from g.stands.steps s n.place) g.later
        (sym (decoded-number s at n e g.stands.steps h storing_number) ∙ g.coming)

    after : decoded_from (suc (steps-more g.stands n e storing_number).0) s n.place ≡ numbers next.0
    after = ap (λ k. decoded_from k s n.place) (sym (steps-more g.stands n e storing_number).1) ∙ next.2

    -- the line up to the number, the number, its mark, and what follows
    parts : (g.written ++ (decimal n.value ++ (mark next.0 ∷ []))) ++ line_of next.0 ≡ line_of g.values
    unfolding line_of
    parts =
        append_assoc g.written (decimal n.value ++ (mark next.0 ∷ [])) (line_of next.0) ∙
        ap (λ l. g.written ++ l) (append_assoc (decimal n.value) (mark next.0 ∷ []) (line_of next.0)) ∙
        rw next.1 at g.joined

    pub storing_room : place + length (decimal n.value) + 1 ≤ length out
    storing_room =
        omega (
          arith,
          ap length parts,
          g.room,
          storing_length,
          g.stored.place,
          length-append (g.written ++ (decimal n.value ++ (mark next.0 ∷ []))) (line_of next.0),
          length-append g.written (decimal n.value ++ (mark next.0 ∷ [])),
          length-append (decimal n.value) (mark next.0 ∷ []),
        )

    module _ {out' : List ℕ} {p : ℕ} (x : Appended out place (decimal n.value) out' p) where
      pub storing_inside : p < length out'
      storing_inside = omega (arith, x.place, kept x, storing_room)

      pub storing_goes_on : (b : ℕ) → b ≡ mark_at n.place (length s) → Storing s out₀ (set out' p b) n.place (p + 1)
      unfolding number-next steps-more stands-next
      storing_goes_on b f =
          let k = steps-more g.stands n e storing_number in
          let m : b ≡ mark next.0 = f ∙ marked k.0 s n.place next.0 after in
          record {
            stands = number-next g.stands n e storing_number;
            values = g.values;
            later = next.0;
            written = g.written ++ (decimal n.value ++ (mark next.0 ∷ []));
            coming = after;
            whole = g.whole;
            joined = parts;
            room = g.room;
            stored = behind g.stored (behind x (rw m (one_byte out' p (mark next.0) storing_inside)));
          }

-- with all the room left, measuring answers what unpacking does
measured-all : (out : List ℕ) (r : Decoded) → measured (length out) (length out) false r ≡ unpacked r out
unfolding measured unpacked
measured-all out (faulty x) = refl
measured-all out (numbers vs) =
    let z : length out - length out + length (line_of vs) ≡ length (line_of vs) = omega arith in
    ap (λ m. cond (leb (length (line_of vs)) (length out)) (done m) (refused 16 0)) z

module _ (vs out : List ℕ) where
  room_row : leb (length (line_of vs)) (length out) ≡ true → (unpacked (numbers vs) out).refusal ≡ 0
  unfolding unpacked done
  room_row t = rw t

  short_row : leb (length (line_of vs)) (length out) ≡ false → (unpacked (numbers vs) out).refusal ≡ 16
  unfolding unpacked refused
  short_row t = rw t

-- what unpacking answers, after the pass that measures
module _ (s out : List ℕ) (a : Unpacked) (e : a ≡ measured (length out) (length out) false (decoded s)) where
  pub unpack_answer : a ≡ unpacked (decoded s) out
  unpack_answer = e ∙ measured-all out (decoded s)

  -- the numbers, where there is no fault
  accepted : a.refusal ≡ 0 → (vs : List ℕ) × (decoded s ≡ numbers vs)
  unfolding unpacked refused
  accepted z =
      split (decoded s)
      (λ vs q. (vs, q))
      (λ x q. absurd (decoded_proper s x.0 x.1 q (sym (ap (λ r. (unpacked r out).refusal) q) ∙ ap (λ p. p.refusal) (sym unpack_answer) ∙ z)))

  pub unpack_refused : (a.refusal ≡ 0 → ⊥) → out ≡ unpacked_buffer (decoded s) out
  unfolding unpacked unpacked_buffer done
  unpack_refused z =
      split (decoded s)
      (λ vs q. by (leb (length (line_of vs)) (length out))
      (λ t. absurd (z (ap (λ p. p.refusal) (unpack_answer ∙ ap (λ r. unpacked r out) q) ∙ room_row vs out t)))
      (λ t. rw q (placed-short (line_of vs) out (leb-false (length (line_of vs)) (length out) t))))
      (λ x q. rw q)

  pub unpack_fits : a.refusal ≡ 0 → StoreLineRequires s out
  unfolding unpacked refused
  unpack_fits z =
      let vs = (accepted z).0 in
      let q = (accepted z).1 in
      record {
        values = vs;
        read = q;
        room = by (leb (length (line_of vs)) (length out))
            (λ t. leb-true (length (line_of vs)) (length out) t)
            (λ t. let x : ◌≡◌ {A = ℕ} 16 0 = sym (ap (λ p. p.refusal) (unpack_answer ∙ ap (λ r. unpacked r out) q) ∙ short_row vs out t) ∙ z in absurd (omega arith));
      }

-- .. by what that pass answers
module _ (s out : List ℕ) where
  pub refused_buffer : (row at : ℕ) → refused row at ≡ measured (length out) (length out) false (decoded s) → (row ≡ 0 → ⊥)
      → out ≡ unpacked_buffer (decoded s) out
  unfolding refused
  refused_buffer row at e z = unpack_refused s out (refused row at) e z

  pub done_fits : (n : ℕ) → done n ≡ measured (length out) (length out) false (decoded s) → StoreLineRequires s out
  unfolding done
  done_fits n e = unpack_fits s out (done n) e refl
