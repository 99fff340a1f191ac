-- The ways in which an input begins.
use Prim.Native.Nat.{ℕ, ◌*◌, ◌<◌, ◌≤◌}
use mathlib.Core.Path.{◌≡◌, ◌∙◌}
use mathlib.Core.Bool.{true, cond}
use mathlib.Core.List.{List, [], ◌++◌, append-nil}
use native.Mathlib.Omega.{arith}
use lib.ListN.{length, drop}
use borrow.Author.Tests.{lt-ltb, le-ltb, eq-eqb, ne_eqb}
use Rattle.base.specs.Rows.{first}
use Rattle.base.proofs.Bools.{by}
use Rattle.automaton.specs.declared.Automaton.{Automaton}
use Rattle.automaton.specs.Automaton.{valid}
use Rattle.automaton_format.specs.Reading.{Parsed}
use Rattle.automaton_format.specs.Opening.{opening}
use Rattle.automaton_format.proofs.Openings.{opening-inside, opening-valid}
use Rattle.solver_sets.specs.Table.{buffers_count, short, table, Solved}
use Rattle.solver_sets.proofs.Tables.{table-is-solved}
use Rattle.solver_answers.specs.Solving.{Solution, solve_refusal, solution, solved_table}
use Rattle.text_lines.specs.Lines.{refusal_line}
use Rattle.day_transcript.specs.Transcript.{session_from, session_lines, too_long, over_places, transcript}
use Rattle.day_transcript.specs.Pieces.{Progress, belongs, at, in_phase, to_come, table_after, without, opened}
use Rattle.day_transcript.specs.declared.Phase.TheVariants.{Refused, Faulted, Opening}
use Rattle.day_transcript.proofs.Sessions.{belongs_of}
use Rattle.day_transcript.proofs.Events.{session_same}

-- solving into a table of 16,384 places
module _ (a : Automaton) (v : valid a ≡ true) (t : List ℕ) (long : length t ≡ 16384) where
  large : short a t ≡ over_places a
  unfolding short over_places
  large = rw long

  refusal : solve_refusal a t ≡ cond (over_places a) 12 0
  unfolding solve_refusal first
  refusal = rw (v, large)

  solution-refusal : (r : Solution) → r ≡ solution a t → r.refusal ≡ cond (over_places a) 12 0
  unfolding solution
  solution-refusal r e =
      by (over_places a)
      (λ l. let n : solve_refusal a t ≡ 12 = refusal ∙ rw l in rw (l, e, n))
      (λ l. let n : solve_refusal a t ≡ 0 = refusal ∙ rw l in rw (l, e, n))

  module _ (place : ℕ) (r : Solution) (e : r ≡ solution a t) where
    pub open_refused : (r.refusal ≡ 0 → ⊥) → without (Refused r.refusal) ≡ opened a place
    unfolding opened
    open_refused z =
        by (over_places a)
        (λ l. let n : r.refusal ≡ 12 = solution-refusal r e ∙ rw l in rw (n, l))
        (λ l. absurd (z (solution-refusal r e ∙ rw l)))

    pub open_solved : r.refusal ≡ 0 → at Opening (session_from a place) ≡ opened a place
    unfolding opened
    open_solved z =
        by (over_places a)
        (λ l. absurd (let n : r.refusal ≡ 12 = solution-refusal r e ∙ rw l in omega arith))
        (λ l. rw l)

  -- what is to come then, over the solved table
  pub opened_comes : (s : List ℕ) (place : ℕ) → place ≤ length s
      → to_come (solved_table a t) s (opened a place) ≡ cond (over_places a) (refusal_line 12) (session_lines (table a) s (session_from a place))
  unfolding opened without to_come in_phase solved_table session_from
  opened_comes s place h =
      by (over_places a)
      (λ l. rw l)
      (λ l.
      let n : solve_refusal a t ≡ 0 = refusal ∙ rw l in
      let u = session_from a place in
      let later = drop (2 * buffers_count a) t in
      let solved = (table-is-solved a v).1 in
      let own : Solved a (table a) = rw (append-nil (table a)) at (solved []) in
      let b : belongs (length s) u ≡ true = belongs_of (length s) u (omega arith) h in
      rw (l, n, b) (session_same s (table a ++ later) (table a) u v (solved later) own))

-- the ways of an input
module _ (s t : List ℕ) where
  abbrev Begun : List ℕ → Progress → Type 0
  Begun t' p = (to_come t' s p ≡ transcript s) × (t' ≡ table_after s t)

  pub begin_long : 60000 < length s → Begun t (without (Refused 18))
  unfolding transcript table_after too_long without to_come in_phase
  begin_long h = (rw (lt-ltb 60000 (length s) h), rw (lt-ltb 60000 (length s) h))

  -- what was read of one that is not too long
  module _ (few : length s ≤ 60000) (p : Parsed) (e : p ≡ opening s) where
    pub begin_faulted : (p.refusal ≡ 0 → ⊥) → Begun t (without (Faulted p.refusal p.place))
    unfolding transcript table_after too_long without to_come in_phase
    begin_faulted z =
        let n = ne_eqb (opening s).refusal 0 (rw e at z) in
        (rw (le-ltb 60000 (length s) few, e, n), rw (le-ltb 60000 (length s) few, n))

    module _ (z : p.refusal ≡ 0) where
      pub begin_valid : valid p.automaton ≡ true
      begin_valid = rw e (opening-valid s (rw e at z))

      pub begin_opened : length t ≡ 16384 → (t' : List ℕ) (r : Progress) → t' ≡ solved_table p.automaton t
          → r ≡ opened p.automaton p.place → Begun t' r
      unfolding transcript table_after too_long
      begin_opened long t' r et er =
          let n = eq-eqb (opening s).refusal 0 (rw e at z) in
          let inside : p.place ≤ length s = rw e (opening-inside s).1 in (
            rw (et, er) (opened_comes p.automaton begin_valid t long s p.place inside ∙ rw (le-ltb 60000 (length s) few, e, n)),
            et ∙ rw (le-ltb 60000 (length s) few, e, n),
          )
