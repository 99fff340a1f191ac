-- The answers over two tables that are both long enough or both not, and that agree wherever the
-- monitor may ask.
use Prim.Native.Nat.{ℕ}
use mathlib.Core.Path.{◌≡◌, sym, ◌∙◌}
use mathlib.Core.List.{List}
use lib.Dec.{eqb}
use borrow.Author.Tests.{eqb-true, eqb-false}
use Rattle.base.proofs.Bools.{by}
use Rattle.automaton.specs.declared.Automaton.{Automaton}
use Rattle.solver_sets.specs.Table.{short}
use Rattle.solver_sets.proofs.Total.{total}
use Rattle.configuration.specs.declared.Configuration.{Configuration}
use Rattle.configuration.specs.Configuration.{held_events, position_of}
use Rattle.monitor_rule.specs.Step.{by_table, advance, event_rows, event_refusal, run_of}
use Rattle.monitor_rule.proofs.Effects.{Agree, refusal-same, advance_occurs, effect-agrees, sources_agree}
use Rattle.monitor_rule.proofs.Runs.{run-same}
use Rattle.monitor_answers.specs.Answers.{table_rows, call_rows, is_winning, call_refusal, status, receive_refusal, received, run_refusal, ran, ran_buffer}
use Rattle.monitor_answers.proofs.Refusals.{clear, rows_pass, rows_stand}
use Rattle.monitor_answers.proofs.Accepted.{clear_occurs, receive_clear, receive-event, run_clear}

module _ (a : Automaton) (t u : List ℕ) (s : short a t ≡ short a u) (agree : Agree a (by_table a t) (by_table a u)) (c : Configuration) where
  rows_same : call_rows a t c ≡ call_rows a u c
  unfolding call_rows table_rows
  rows_same = rw s

  pub status-same : status a t c ≡ status a u c
  unfolding status call_refusal is_winning
  status-same =
      let n = call_refusal a u c in
      by (eqb n 0)
      (λ z. rw (rows_same, z, agree (held_events c) c.state (clear_occurs a u c (clear a u c (eqb-true n 0 z))).occurs))
      (λ z. rw (rows_same, z))

  -- the rows of one event
  receive-same : (e : ℕ) → receive_refusal a t c e ≡ receive_refusal a u c e
  unfolding receive_refusal event_refusal
  receive-same e =
      let over-t = event_rows (by_table a t) a (position_of c) e in
      let over-u = event_rows (by_table a u) a (position_of c) e in
      by (eqb (call_refusal a u c) 0)
      (λ z.
      let k = clear a u c (eqb-true (call_refusal a u c) 0 z) in
      rw rows_same
      (rows_pass a u c k.record_valid k.table-long k.configuration-consistent over-t ∙
      refusal-same (by_table a t) (by_table a u) a (position_of c) e agree (total a k.record_valid) (clear_occurs a u c k).occurs ∙
      sym (rows_pass a u c k.record_valid k.table-long k.configuration-consistent over-u)))
      (λ z.
      let n = eqb-false (call_refusal a u c) 0 z in
      rw rows_same (rows_stand a u c over-t n ∙ sym (rows_stand a u c over-u n)))

  pub received-same : (e : ℕ) → received a t c e ≡ received a u c e
  unfolding received
  received-same e =
      let n = receive_refusal a u c e in
      by (eqb n 0)
      (λ z.
      let h = eqb-true n 0 z in
      let k = receive_clear a u c e h in
      let l = total a k.record_valid in
      let o = clear_occurs a u c k in
      let next = advance (by_table a u) a (position_of c) e in
      let same = effect-agrees (by_table a t) a (position_of c) e (by_table a u) agree l o (receive-event a t c e (receive-same e ∙ h)) in
      rw (
        receive-same e,
        z,
        sources_agree (by_table a t) a (position_of c) e (by_table a u) same,
        same,
        agree next.buffer next.state (advance_occurs (by_table a u) a (position_of c) e l o (receive-event a u c e h)).occurs,
      ))
      (λ z. rw (receive-same e, z))

  -- a whole day
  module _ (es out : List ℕ) where
    run-refusal-same : run_refusal a t c es out ≡ run_refusal a u c es out
    unfolding run_refusal
    run-refusal-same = rw rows_same

    events-same : run_refusal a u c es out ≡ 0 → run_of (by_table a t) a (position_of c) es ≡ run_of (by_table a u) a (position_of c) es
    events-same h =
        let k = run_clear a u c es out h in
        run-same (by_table a t) (by_table a u) a agree (total a k.record_valid) es (position_of c) (clear_occurs a u c k)

    pub ran-same : ran a t c es out ≡ ran a u c es out
    unfolding ran
    ran-same =
        let n = run_refusal a u c es out in
        by (eqb n 0)
        (λ z. rw (run-refusal-same, z, events-same (eqb-true n 0 z)))
        (λ z. rw (run-refusal-same, z))

    pub output-same : ran_buffer a t c es out ≡ ran_buffer a u c es out
    unfolding ran_buffer
    output-same =
        let n = run_refusal a u c es out in
        by (eqb n 0)
        (λ z. rw (run-refusal-same, z, events-same (eqb-true n 0 z)))
        (λ z. rw (run-refusal-same, z))
