-- What the answers tell, from any configuration.
use Prim.Native.Nat.{ℕ}
use mathlib.Core.Path.{◌≡◌, refl, sym, ◌∙◌, ap}
use mathlib.Core.Bool.{true, false}
use mathlib.Core.List.{List, [], ◌∷◌}
use lib.Dec.{eqb}
use borrow.Author.Tests.{eqb-true, eqb-false}
use Rattle.base.proofs.Bools.{by, clash}
use Rattle.automaton.specs.declared.Automaton.{Automaton}
use Rattle.automaton.specs.Automaton.{valid}
use Rattle.automaton.proofs.Facts.{valid_facts}
use Rattle.solver_sets.specs.Table.{short, Solved}
use Rattle.solver_sets.specs.Claims.{Winning}
use Rattle.solver_sets.proofs.Total.{total}
use Rattle.configuration.specs.declared.Configuration.{Configuration}
use Rattle.configuration.specs.Configuration.{Position, held_events, position_of, configuration}
use Rattle.configuration.proofs.Facts.{position-made, consistent_of, configuration-consistent}
use Rattle.monitor_rule.specs.Step.{by_sets, by_table, advance, event_refusal, run_of}
use Rattle.monitor_rule.proofs.Effects.{OccursAt, Agree, accepted_facts, advance_occurs, effect-agrees}
use Rattle.monitor_rule.proofs.Runs.{run_keeps, run_occurs}
use Rattle.monitor_rule.proofs.Solved.{solved_agree}
use Rattle.monitor_answers.specs.Answers.{is_winning, call_refusal, status, receive_refusal, received, run_refusal, ran}
use Rattle.monitor_answers.proofs.Refusals.{Clear, clear, status_clear}
use Rattle.monitor_answers.proofs.Accepted.{clear_occurs, receive_clear, receive-event}
use Rattle.monitor_answers.proofs.Agreeing.{status-same, received-same, ran-same, output-same}
use Rattle.enforcement.specs.Calls.{Call, receive_call, run_call, handed_back, reply, replies, configuration_after}
use Rattle.enforcement.specs.Answers.{FlagIsStatus, FlagStays, SameBits, OthersIgnored}
use Rattle.enforcement.proofs.Resting.{effect-wins}

pub status-refusal : (a : Automaton) (t : List ℕ) (c : Configuration) → (status a t c).winning ≡ true → (call_refusal a t c ≡ 0) × (is_winning a t c ≡ true)
unfolding status
status-refusal a t c h =
    by (eqb (call_refusal a t c) 0)
    (λ z. (eqb-true (call_refusal a t c) 0 z, rw z at h))
    (λ z. absurd (clash (rw z at h) refl))

-- a configuration of a position that can occur
module _ (a : Automaton) (t : List ℕ) (v : valid a ≡ true) (s : short a t ≡ false) (p : Position) (o : OccursAt a p) where
  made_clear : Clear a t (configuration p)
  made_clear = record {
    record_valid = v;
    table-long = s;
    configuration-consistent = consistent_of a (configuration p)
        (configuration-consistent a (valid_facts a v) p o.occurs.state-below o.occurs.buffer o.placed);
  }

  made-status : status a t (configuration p) ≡ record { refusal = 0; winning = by_table a t p.buffer p.state }
  unfolding status is_winning
  made-status =
      let k = made_clear in
      rw (status_clear a t (configuration p) v s k.configuration-consistent, ap (λ (x : Position). x.buffer) (position-made p o.placed.each-has))

pub flag-is-status : FlagIsStatus
unfolding received
flag-is-status a t c e h =
    let n = receive_refusal a t c e in
    by (eqb n 0)
    (λ z.
    let k = receive_clear a t c e (eqb-true n 0 z) in
    let o = advance_occurs (by_table a t) a (position_of c) e (total a k.record_valid) (clear_occurs a t c k) (receive-event a t c e (eqb-true n 0 z)) in
    rw z (made-status a t k.record_valid k.table-long (advance (by_table a t) a (position_of c) e) o))
    (λ z. absurd (eqb-false n 0 z (rw z at h)))

-- once winning, over a solved table
module _ (a : Automaton) (t : List ℕ) (sv : Solved a t) where
  -- a winning configuration that the rows let pass
  record Good (c : Configuration) : Type 0 where
    rows : Clear a t c
    wins : Winning a (held_events c) c.state

  good_status : (c : Configuration) → (status a t c).winning ≡ true → Good c
  unfolding is_winning by_sets
  good_status c h =
      let g = status-refusal a t c h in
      let k = clear a t c g.0 in
      record { rows = k; wins = sym (solved_agree a t sv (held_events c) c.state (clear_occurs a t c k).occurs) ∙ g.1 }

  status_good : (c : Configuration) → Good c → (status a t c).winning ≡ true
  unfolding status is_winning by_sets
  status_good c g =
      let k = g.rows in
      rw (status_clear a t c k.record_valid k.table-long k.configuration-consistent)
      (solved_agree a t sv (held_events c) c.state (clear_occurs a t c k).occurs ∙ g.wins)

  made_good : valid a ≡ true → short a t ≡ false → (p : Position) → OccursAt a p → Winning a p.buffer p.state → Good (configuration p)
  made_good v s p o h =
      record { rows = made_clear a t v s p o; wins = rw (ap (λ (x : Position). x.buffer) (position-made p o.placed.each-has)) h }

  -- one accepted event, and a list of events
  module _ (v : valid a ≡ true) where
    abbrev Wins : Position → Type 0
    Wins p = Winning a p.buffer p.state

    event-wins : (p : Position) (e : ℕ) → OccursAt a p → event_refusal (by_table a t) a p e ≡ 0 → Wins p → Wins (advance (by_table a t) a p e)
    event-wins p e o h i =
        rw (effect-agrees (by_table a t) a p e (by_sets a) (solved_agree a t sv) (total a v) o h)
        (effect-wins a (total a v) p.state p.buffer e (accepted_facts (by_table a t) a p e h).symbol i)

    run-wins : (es : List ℕ) (p : Position) → OccursAt a p → Wins p → Wins (run_of (by_table a t) a p es).last
    run-wins =
        run_keeps (by_table a t) a (λ p es r. OccursAt a p → Wins p → Wins r.last)
        (λ p o i. i)
        (λ p e es r h k o i. k (advance_occurs (by_table a t) a p e (total a v) o h) (event-wins p e o h i))
        (λ p e es r h k o i. k o i)

  -- an event, a day and any call
  event_good : (c : Configuration) → Good c → (e : ℕ) → Good (received a t c e).configuration
  unfolding received
  event_good c g e =
      let n = receive_refusal a t c e in
      let k = g.rows in
      let o = clear_occurs a t c k in
      by (eqb n 0)
      (λ z.
      let h = receive-event a t c e (eqb-true n 0 z) in
      rw z (made_good k.record_valid k.table-long _
      (advance_occurs (by_table a t) a (position_of c) e (total a k.record_valid) o h)
      (event-wins k.record_valid (position_of c) e o h g.wins)))
      (λ z. rw z g)

  run_good : (c : Configuration) → Good c → (es out : List ℕ) → Good (ran a t c es out).configuration
  unfolding ran
  run_good c g es out =
      let k = g.rows in
      let o = clear_occurs a t c k in
      by (eqb (run_refusal a t c es out) 0)
      (λ z. rw z (made_good k.record_valid k.table-long _
      (run_occurs (by_table a t) a (total a k.record_valid) es (position_of c) o)
      (run-wins k.record_valid es (position_of c) o g.wins)))
      (λ z. rw z g)

  event_hands : (c : Configuration) (e : ℕ) → handed_back (reply a t c (receive_call e)) ≡ (received a t c e).configuration
  unfolding reply handed_back
  event_hands c e = refl

  run_hands : (c : Configuration) (es out : List ℕ) → handed_back (reply a t c (run_call es out)) ≡ (ran a t c es out).configuration
  unfolding reply handed_back
  run_hands c es out = refl

  good_on : (c : Configuration) → Good c → (x : Call) → Good (handed_back (reply a t c x))
  good_on c g (receive_call e) = rw (event_hands c e) (event_good c g e)
  good_on c g (run_call es out) = rw (run_hands c es out) (run_good c g es out)

  good_all : (xs : List Call) (c : Configuration) → Good c → Good (configuration_after a t c xs)
  unfolding configuration_after
  good_all [] c g = g
  good_all (x ∷ xs) c g = good_all xs (handed_back (reply a t c x)) (good_on c g x)

  flagged : (c : Configuration) → Good c → (e : ℕ) → (received a t c e).refusal ≡ 0 → (received a t c e).winning ≡ true
  flagged c g e h =
      sym (ap (λ r. r.winning) (flag-is-status a t c e h)) ∙ status_good (received a t c e).configuration (event_good c g e)

pub flag-stays : FlagStays
flag-stays a t sv c h calls =
    let d = configuration_after a t c calls in
    let g = good_all a t sv calls c (good_status a t sv c h) in
    record { told = status_good a t sv d g; flagged = flagged a t sv d g }

-- what is read of a table
module _ (a : Automaton) (t u : List ℕ) (s : short a t ≡ short a u) (b : SameBits a t u) where
  agree : Agree a (by_table a t) (by_table a u)
  unfolding by_table
  agree w q o = b w o.buffer q o.state-below

  same-reply : (c : Configuration) (x : Call) → reply a t c x ≡ reply a u c x
  unfolding reply
  same-reply c (receive_call e) = rw (received-same a t u s agree c e)
  same-reply c (run_call es out) = rw (ran-same a t u s agree c es out, output-same a t u s agree c es out)

  same-replies : (xs : List Call) (c : Configuration) → replies a t c xs ≡ replies a u c xs
  unfolding replies
  same-replies [] c = refl
  same-replies (x ∷ xs) c = rw (same-reply c x, same-replies xs (handed_back (reply a u c x)))

pub others_ignored : OthersIgnored
others_ignored a t u s b c =
    let k = agree a t u s b in
    record {
      statuses = status-same a t u s k c;
      receives = received-same a t u s k c;
      runs = ran-same a t u s k c;
      outputs = output-same a t u s k c;
      calls = λ xs. same-replies a t u s b xs c;
    }
