-- The ways of an input through `merge`.
use Prim.Native.Nat.{ℕ, ◌+◌, ◌-◌, ◌<◌, ◌≤◌}
use mathlib.Core.Path.{◌≡◌, ◌∙◌, ap}
use mathlib.Core.Bool.{cond}
use mathlib.Core.List.{List}
use native.Mathlib.Omega.{arith}
use lib.ListN.{length, take, drop, length-drop}
use lib.Seq.{take_all}
use lib.Dec.{eqb}
use borrow.Author.Tests.{lt-ltb, le-ltb, eq-eqb, ne_eqb}
use Rattle.automaton_format.specs.Reading.{Parsed, refused, parse}
use Rattle.automaton_format.specs.Opening.{automaton_at, opening}
use Rattle.automaton_format.proofs.Faults.{parse-sound}
use Rattle.automaton_format.proofs.Openings.{opening-inside}
use Rattle.text.specs.Decimal.{Appended}
use Rattle.text_lines.specs.Lines.{fault_line, refusal_line}
use Rattle.product_merge.specs.Outputs.{Output, said, merged_records, second_from, merging, merge_output, merge_note}
use Rattle.product_merge.proofs.Records.{Put, same-put}

-- what was put into two buffers is what the input's output is
pub put_of : (s : List ℕ) {o : Output} {out note out' note' : List ℕ} {n m : ℕ} → merging s ≡ o → Put o out note out' note' n m
    → Appended out 0 (merge_output s) out' n × Appended note 0 (merge_note s) note' m
unfolding merge_output merge_note
put_of s = same-put

-- the second sheet is all that is left
pub rest_read : (s : List ℕ) (from : ℕ) {q : Parsed} → q ≡ parse (take (length s - from) (drop from s)) → q ≡ parse (drop from s)
rest_read s from f = f ∙ ap parse (take_all (length s - from) (drop from s) (omega (arith, length-drop from s)))

module _ (s : List ℕ) where
  pub merge_long : 60000 < length s → merging s ≡ said (refusal_line 18)
  unfolding merging
  merge_long h = rw (lt-ltb 60000 (length s) h)

  -- what was read of an input that is not too long
  module _ (few : length s ≤ 60000) (p : Parsed) (e : p ≡ opening s) where
    pub merge_first : (p.refusal ≡ 0 → ⊥) → merging s ≡ said (fault_line p.refusal p.place)
    unfolding merging
    merge_first z = rw e (rw (le-ltb 60000 (length s) few, ne_eqb (opening s).refusal 0 (rw e at z)))

    pub from_inside : p.place ≤ length s
    from_inside = rw e (opening-inside s).1

    -- .. where the first sheet has no fault
    module _ (z : p.refusal ≡ 0) (q : Parsed) (f : q ≡ parse (drop p.place s)) where
      pub place_inside : p.place + q.place ≤ length s
      place_inside =
          let within : q.place ≤ length (drop p.place s) = rw f (parse-sound (drop p.place s)).within in
          omega (arith, within, length-drop p.place s, from_inside)

      second-faulty : (q.refusal ≡ 0 → ⊥) → second_from s p.place ≡ refused q.refusal (p.place + q.place)
      unfolding second_from automaton_at
      second-faulty y = rw (← f, ne_eqb q.refusal 0 y)

      second-whole : q.refusal ≡ 0
          → second_from s p.place ≡ record { refusal = 0; place = p.place + (length s - p.place); automaton = q.automaton }
      unfolding second_from automaton_at
      second-whole y = rw (← f, eq-eqb q.refusal 0 y)

      after_first : (b : Parsed) → second_from s p.place ≡ b
          → merging s ≡ cond (eqb b.refusal 0) (merged_records p.automaton b.automaton) (said (fault_line b.refusal b.place))
      unfolding merging
      after_first b g =
          let g' : second_from s (opening s).place ≡ b = rw e at g in
          rw e (rw (le-ltb 60000 (length s) few, eq-eqb (opening s).refusal 0 (rw e at z), g'))

      pub merge_second : (q.refusal ≡ 0 → ⊥) → merging s ≡ said (fault_line q.refusal (p.place + q.place))
      merge_second y = after_first _ (second-faulty y) ∙ rw (ne_eqb q.refusal 0 y)

      pub merge_both : q.refusal ≡ 0 → merging s ≡ merged_records p.automaton q.automaton
      merge_both y = after_first _ (second-whole y)
