-- What is to come in each phase.
use Prim.Native.Nat.{ℕ, suc, ◌+◌, ◌<◌, ◌≤◌}
use mathlib.Core.Path.{◌≡◌, ◌∙◌}
use mathlib.Core.Bool.{true, false}
use mathlib.Core.List.{List, [], ◌++◌}
use native.Mathlib.Omega.{arith}
use lib.ListN.{length}
use lib.Dec.{eqb}
use Rattle.base.proofs.Bools.{by}
use Rattle.varint.specs.Varint.{Number}
use Rattle.varint.specs.Varint.{read}
use Rattle.monitor_answers.specs.declared.Received.{Received}
use Rattle.monitor_answers.specs.Answers.{received}
use Rattle.text.specs.Decimal.{ascii}
use Rattle.text_lines.specs.Lines.{refused_event_line, end_line, fault_line, refusal_line}
use Rattle.day_lines.specs.StatusLines.{automaton_line, event_line}
use Rattle.day_transcript.specs.Transcript.{Session, first_line, answer_line, after, event_lines, session_lines}
use Rattle.day_transcript.specs.Pieces.{belongs, at, to_come, in_phase}
use Rattle.day_transcript.specs.declared.Phase.TheVariants.{Opening, Receiving}
use Rattle.day_transcript.proofs.Sessions.{belongs-counts, belongs-after, after-counts}
use Rattle.day_transcript.proofs.Events.{next-after, next-inside, step-fault, step_end, event-first}

module _ (t s : List ℕ) (u : Session) where
  pub opening-none : belongs (length s) u ≡ false → to_come t s (at Opening u) ≡ []
  unfolding to_come in_phase
  opening-none h = rw h

  pub receiving_none : belongs (length s) u ≡ false → to_come t s (at Receiving u) ≡ []
  unfolding to_come in_phase
  receiving_none h = rw h

  module _ (h : belongs (length s) u ≡ true) where
    lines_come : to_come t s (at Receiving u) ≡ event_lines (suc (length s)) t s u
    unfolding to_come in_phase
    lines_come = rw h

    pub opening_comes : to_come t s (at Opening u) ≡ first_line t u ++ to_come t s (at Receiving u)
    unfolding to_come in_phase session_lines
    opening_comes = rw h

    pub end_comes : length s ≤ u.place → to_come t s (at Receiving u) ≡ end_line u.accepted u.refused
    end_comes e = lines_come ∙ step_end t s (length s) u e

    module _ (n : Number) (e : n ≡ read s u.place) (i : u.place < length s) where
      pub fault_comes : (n.refusal ≡ 0 → ⊥) → to_come t s (at Receiving u) ≡ fault_line n.refusal n.place
      fault_comes z = rw e (lines_come ∙ step-fault t s (length s) u i (rw e at z))

      pub counted-before : n.refusal ≡ 0 → u.accepted + u.refused < n.place
      counted-before z =
          let p : u.place < n.place = rw e (next-after s u.place (rw e at z)) in
          omega (arith, belongs-counts (length s) u h)

      pub event_comes : n.refusal ≡ 0 → (r : Received) → r ≡ received u.automaton t u.configuration n.value
          → to_come t s (at Receiving u) ≡ answer_line n.value r ++ to_come t s (at Receiving (after u n.place r))
      unfolding to_come in_phase
      event_comes z r f =
          let z' : (read s u.place).refusal ≡ 0 = rw e at z in
          let l : n.place ≤ length s = rw e (next-inside s u.place z') in
          let k : (after u n.place r).accepted + (after u n.place r).refused ≤ n.place =
          omega (arith, after-counts u n.place r, counted-before z) in
          let b = belongs-after (length s) u n.place r k l in
          rw (b, h) (rw (f, e) (event-first t s u i z'))

-- no line is empty
pub first_some : (t : List ℕ) (u : Session) → 0 < length (first_line t u)
unfolding first_line automaton_line ascii
first_some t u = omega arith

pub end_some : (accepted refused : ℕ) → 0 < length (end_line accepted refused)
unfolding end_line ascii
end_some accepted refused = omega arith

pub fault-some : (row place : ℕ) → 0 < length (fault_line row place)
unfolding fault_line ascii
fault-some row place = omega arith

pub refusal-some : (row : ℕ) → 0 < length (refusal_line row)
unfolding refusal_line ascii
refusal-some row = omega arith

pub answer-some : (e : ℕ) (r : Received) → 0 < length (answer_line e r)
unfolding answer_line event_line refused_event_line ascii
answer-some e r = by (eqb r.refusal 0) (λ h. rw h (omega arith)) (λ h. rw h (omega arith))
