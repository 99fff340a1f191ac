-- The ways in which a sheet with its length before it is read, and what holds of all of them.
use Prim.Native.Nat.{ℕ, ◌+◌, ◌<◌, ◌≤◌}
use mathlib.Core.Path.{◌≡◌}
use mathlib.Core.Bool.{true}
use mathlib.Core.List.{List}
use native.Mathlib.Omega.{arith}
use lib.ListN.{length, take, drop, length-take}
use lib.Dec.{eqb, ltb}
use borrow.Author.Tests.{lt-ltb, le-ltb, ltb-false, eq-eqb, ne_eqb, eqb-true, eqb-false}
use Rattle.base.proofs.Bools.{by}
use Rattle.varint.specs.Varint.{Number, read}
use Rattle.automaton.specs.Automaton.{valid}
use Rattle.automaton_format.specs.Reading.{Parsed}
use Rattle.automaton_format.specs.Reading.{refused, parse}
use Rattle.automaton_format.specs.Opening.{automaton_at, opening}
use Rattle.automaton_format.proofs.Trips.{read-is-valid}
use Rattle.automaton_format.proofs.Faults.{read-inside, parse-sound}

-- the number L
module _ (s : List ℕ) (l : Number) (el : l ≡ read s 0) where
  pub length-inside : l.place ≤ length s
  length-inside = rw el (read-inside s 0 (omega arith)).1

  pub opening-unread : (l.refusal ≡ 0 → ⊥) → refused l.refusal l.place ≡ opening s
  unfolding opening
  opening-unread z = rw el (rw (ne_eqb (read s 0).refusal 0 (rw el at z)))

  -- .. which is one
  module _ (z : l.refusal ≡ 0) where
    read-refusal : (read s 0).refusal ≡ 0
    read-refusal = rw el at z

    pub opening_fewer : length s < l.place + l.value → refused 1 l.place ≡ opening s
    unfolding opening
    opening_fewer h =
        let h' : length s < (read s 0).place + (read s 0).value = rw el at h in
        rw el (rw (eq-eqb (read s 0).refusal 0 read-refusal, lt-ltb (length s) _ h'))

    -- .. of no more bytes than follow
    module _ (whole : l.place + l.value ≤ length s) (p : Parsed) (ep : p ≡ parse (take l.value (drop l.place s))) where
      abbrev sheet : List ℕ
      sheet = take l.value (drop l.place s)

      opens : automaton_at l.place l.value p ≡ opening s
      unfolding opening
      opens =
          let h : (read s 0).place + (read s 0).value ≤ length s = rw el at whole in
          rw (ep, el) (rw (eq-eqb (read s 0).refusal 0 read-refusal, le-ltb (length s) _ h))

      pub opening-faulty : (p.refusal ≡ 0 → ⊥) → refused p.refusal (l.place + p.place) ≡ opening s
      unfolding automaton_at
      opening-faulty y = rw (ne_eqb p.refusal 0 y) at opens

      pub opening-whole : p.refusal ≡ 0 → record { refusal = 0; place = l.place + l.value; automaton = p.automaton } ≡ opening s
      unfolding automaton_at
      opening-whole y = rw (eq-eqb p.refusal 0 y) at opens

      pub fault-inside : l.place + p.place ≤ length s
      fault-inside =
          let long : length sheet ≤ l.value = omega (arith, length-take l.value (drop l.place s)) in
          let within : p.place ≤ length sheet = rw ep (parse-sound sheet).within in
          omega (arith, long, within, whole)

-- a fault's row is one of the first ten; its place, and that after a sheet, is within the input or
-- at its end
pub opening-inside : (s : List ℕ) → ((opening s).refusal ≤ 10) × ((opening s).place ≤ length s)
unfolding opening automaton_at
opening-inside s =
    let l = read s 0 in
    let i = read-inside s 0 (omega arith) in
    by (eqb l.refusal 0)
    (λ e. by (ltb (length s) (l.place + l.value))
    (λ f. rw (e, f) (omega arith, i.1))
    (λ f.
    let sheet = take l.value (drop l.place s) in
    let p = parse sheet in
    let long : length sheet ≤ l.value = omega (arith, length-take l.value (drop l.place s)) in
    let j = parse-sound sheet in
    let within : l.place + l.value ≤ length s = ltb-false (length s) (l.place + l.value) f in
    by (eqb p.refusal 0)
    (λ g. rw (e, f, g) (omega arith, within))
    (λ g. rw (e, f, g) (j.row, omega (arith, j.within)))))
    (λ e. rw e i)

-- a record that was read passes row 11
pub opening-valid : (s : List ℕ) → (opening s).refusal ≡ 0 → valid (opening s).automaton ≡ true
unfolding opening automaton_at
opening-valid s z =
    let l = read s 0 in
    by (eqb l.refusal 0)
    (λ e. by (ltb (length s) (l.place + l.value))
    (λ f. absurd (let y = rw (e, f) at z in omega arith))
    (λ f.
    let sheet = take l.value (drop l.place s) in
    let p = parse sheet in
    by (eqb p.refusal 0)
    (λ g. rw (e, f, g) (read-is-valid sheet p.automaton ((parse-sound sheet).whole (eqb-true p.refusal 0 g))))
    (λ g. absurd (eqb-false p.refusal 0 g (rw (e, f, g) at z)))))
    (λ e. absurd (eqb-false l.refusal 0 e (rw e at z)))
