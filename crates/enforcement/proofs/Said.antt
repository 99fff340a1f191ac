-- The last accepted event leaves the monitor where the calls leave it.
use Prim.Native.Nat.{ℕ}
use mathlib.Core.Path.{◌≡◌, refl, sym, ◌∙◌, ap, subst}
use mathlib.Core.Bool.{true, false}
use mathlib.Core.List.{List, [], ◌∷◌, ◌++◌}
use lib.Dec.{eqb}
use lib.ListN.{length}
use borrow.Author.Tests.{eqb-true, eqb-false, le-ltb, eq-eqb}
use Rattle.base.proofs.Bools.{by}
use Rattle.automaton.specs.declared.Automaton.{Automaton}
use Rattle.solver_sets.specs.Table.{short}
use Rattle.solver_sets.proofs.Total.{total}
use Rattle.configuration.specs.declared.Configuration.{Configuration}
use Rattle.configuration.specs.Configuration.{Position, position_of, initial_of}
use Rattle.configuration.proofs.Facts.{position-made}
use Rattle.monitor_rule.specs.Step.{by_table, advance, event_refusal, run_of}
use Rattle.monitor_rule.proofs.Effects.{advance_occurs}
use Rattle.monitor_rule.proofs.Runs.{run-accepts, run-refuses, run_occurs}
use Rattle.monitor_answers.specs.Answers.{is_winning, status, receive_refusal, received, run_refusal, ran}
use Rattle.monitor_answers.proofs.Refusals.{status_clear}
use Rattle.monitor_answers.proofs.Accepted.{clear_occurs, receive_clear, receive-event, run_clear}
use Rattle.enforcement.specs.Calls.{Call, receive_call, run_call, handed_back, reply, configuration_after}
use Rattle.enforcement.specs.Moments.{Moment, position_after, within, brought_by, brought_all, moments}
use Rattle.enforcement.specs.Claims.{winning_after, Stays}
use Rattle.enforcement.specs.Answers.{OnceWinningSaid}
use Rattle.enforcement.proofs.Replies.{each-reply}
use Rattle.enforcement.proofs.Staying.{winning-stays}
use Rattle.enforcement.proofs.Answers.{flag-stays}

module _ (a : Automaton) (t : List ℕ) where
  abbrev f : Position → ℕ → Position
  f = advance (by_table a t) a

  -- after a list of events
  abbrev ends : Position → List ℕ → Position
  ends p es = (run_of (by_table a t) a p es).last

  ends-accepts : (p : Position) (e : ℕ) (es : List ℕ) → eqb (event_refusal (by_table a t) a p e) 0 ≡ true → ends p (e ∷ es) ≡ ends (f p e) es
  ends-accepts p e es h = ap (λ r. r.last) (run-accepts (by_table a t) a p e es (eqb-true _ 0 h))

  ends-refuses : (p : Position) (e : ℕ) (es : List ℕ) → eqb (event_refusal (by_table a t) a p e) 0 ≡ false → ends p (e ∷ es) ≡ ends p es
  ends-refuses p e es h = ap (λ r. r.last) (run-refuses (by_table a t) a p e es (eqb-false _ 0 h))

  ends-append : (es fs : List ℕ) (p : Position) → ends p (es ++ fs) ≡ ends (ends p es) fs
  unfolding run_of
  ends-append [] fs p = refl
  ends-append (e ∷ es) fs p =
      by (eqb (event_refusal (by_table a t) a p e) 0)
      (λ h. ends-accepts p e (es ++ fs) h ∙ ends-append es fs (f p e) ∙ ap (λ z. ends z fs) (sym (ends-accepts p e es h)))
      (λ h. ends-refuses p e (es ++ fs) h ∙ ends-append es fs p ∙ ap (λ z. ends z fs) (sym (ends-refuses p e es h)))

  -- a call, and all calls
  call_ends : (c : Configuration) (x : Call) → position_of (handed_back (reply a t c x)) ≡ ends (position_of c) (brought_by a t c x)
  unfolding handed_back reply received ran brought_by run_of
  call_ends c (receive_call e) =
      let n = receive_refusal a t c e in
      by (eqb n 0)
      (λ z.
      let accepted = receive-event a t c e (eqb-true n 0 z) in
      let k = receive_clear a t c e (eqb-true n 0 z) in
      let o = advance_occurs (by_table a t) a (position_of c) e (total a k.record_valid) (clear_occurs a t c k) accepted in
      rw z
      (position-made (f (position_of c) e) o.placed.each-has ∙
      sym (ends-accepts (position_of c) e [] (eq-eqb (event_refusal (by_table a t) a (position_of c) e) 0 accepted))))
      (λ z. rw z)
  call_ends c (run_call es out) =
      let n = run_refusal a t c es out in
      by (eqb n 0)
      (λ z.
      let k = run_clear a t c es out (eqb-true n 0 z) in
      let o = run_occurs (by_table a t) a (total a k.record_valid) es (position_of c) (clear_occurs a t c k) in
      rw z (position-made (ends (position_of c) es) o.placed.each-has))
      (λ z. rw z)

  calls_end : (xs : List Call) (c : Configuration) → position_of (configuration_after a t c xs) ≡ ends (position_of c) (brought_all a t c xs)
  unfolding configuration_after brought_all run_of
  calls_end [] c = refl
  calls_end (x ∷ xs) c =
      let d = handed_back (reply a t c x) in
      calls_end xs d ∙ ap (λ z. ends z (brought_all a t d xs)) (call_ends c x) ∙ sym (ends-append (brought_by a t c x) (brought_all a t d xs) (position_of c))

  -- after the last of some accepted events
  last_of : Position → List Moment → Position
  last_of p [] = p
  last_of p (m ∷ ms) = last_of (position_after a t m) ms

  within-ends : (es past out : List ℕ) (p : Position) → last_of p (within a t past out p es) ≡ ends p es
  unfolding within run_of last_of
  within-ends [] past out p = refl
  within-ends (e ∷ es) past out p =
      by (eqb (event_refusal (by_table a t) a p e) 0)
      (λ h. rw h (within-ends es _ _ (f p e)) ∙ sym (ends-accepts p e es h))
      (λ h. rw h (within-ends es past out p) ∙ sym (ends-refuses p e es h))

  abbrev Rests : Position → Type 0
  Rests p = by_table a t p.buffer p.state ≡ true

  rests-last : (ms : List Moment) (p : Position) → Rests p → Stays a t ms → Rests (last_of p ms)
  unfolding last_of winning_after
  rests-last [] p h s = h
  rests-last (m ∷ ms) p h s = rests-last ms _ s.0.0 s.1

  rests_from : (before : List Moment) (m : Moment) (after : List Moment) (p : Position) → winning_after a t m ≡ true → Stays a t after
      → Rests (last_of p (before ++ m ∷ after))
  unfolding last_of winning_after
  rests_from [] m after p h s = rests-last after _ h s
  rests_from (b ∷ before) m after p h s = rests_from before m after _ h s

pub once-winning-said : OnceWinningSaid
unfolding status is_winning moments configuration_after short
once-winning-said a t v sv calls before m after go h =
    let c = initial_of a in
    let d = configuration_after a t c calls in
    let s = (winning-stays a t v sv calls).later before m after go h in
    let end = calls_end a t calls c ∙ sym (within-ends a t (brought_all a t c calls) [] [] (position_of c)) ∙ ap (last_of a t (position_of c)) go in
    let rests = subst (Rests a t) (sym end) (rests_from a t before m after (position_of c) h s.1) in
    let long : short a t ≡ false = le-ltb (length t) _ sv.long in
    flag-stays a t sv d (rw (status_clear a t d v long (each-reply a t v sv calls).last-consistent) rests) []
