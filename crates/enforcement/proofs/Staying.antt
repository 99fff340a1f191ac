-- Once winning, always winning, and the output accepting.
use Prim.Native.Nat.{ℕ}
use mathlib.Core.Path.{◌≡◌, sym, ◌∙◌}
use mathlib.Core.Bool.{true}
use mathlib.Core.List.{List, [], ◌∷◌, ◌++◌}
use Rattle.base.specs.Masks.{has}
use Rattle.base.specs.Pad.{pad}
use Rattle.automaton.specs.declared.Automaton.{Automaton}
use Rattle.automaton.specs.Automaton.{accepts, reached, valid}
use Rattle.solver_sets.specs.Sets.{sets_for}
use Rattle.solver_sets.specs.Table.{Solved}
use Rattle.solver_sets.specs.Claims.{Winning}
use Rattle.solver_sets.proofs.Total.{total}
use Rattle.solver_sets.proofs.Largest.{sets_are}
use Rattle.configuration.specs.Configuration.{Position, empty_at, held_events, initial_of}
use Rattle.monitor_rule.specs.Step.{by_sets, by_table}
use Rattle.monitor_rule.specs.Claims.{Full}
use Rattle.monitor_answers.specs.Answers.{is_winning}
use Rattle.monitor_rule.proofs.Rows.{opens_as_worded}
use Rattle.monitor_rule.proofs.Effects.{initial_occurs, accepted_facts, effect-agrees}
use Rattle.monitor_rule.proofs.Solved.{solved_agree}
use Rattle.enforcement.specs.Calls.{Call}
use Rattle.enforcement.specs.Moments.{Moment, position_after, moments}
use Rattle.enforcement.specs.Claims.{winning_after, output_after, Stays, WinningStays}
use Rattle.enforcement.proofs.Moments.{Suffixes, suffix_at, all_of, Met, following, output-leads, position-met, within-each, moments-each}
use Rattle.enforcement.proofs.Resting.{effect-wins}

module _ (a : Automaton) (t : List ℕ) (v : valid a ≡ true) (sv : Solved a t) where
  abbrev Wins : Position → Type 0
  Wins p = Winning a p.buffer p.state

  -- from one accepted event to the next
  wins_on : (m : Moment) → Met a t m → Wins m.position → Wins (position_after a t m)
  wins_on m k h =
      let p = m.position in
      rw (effect-agrees (by_table a t) a p m.event (by_sets a) (solved_agree a t sv) (total a v) k.occurs k.accepted)
      (effect-wins a (total a v) p.state p.buffer m.event (accepted_facts (by_table a t) a p m.event k.accepted).symbol h)

  -- by the table's bits
  after_is : (m : Moment) → Met a t m → winning_after a t m ≡ has (sets_for a (position_after a t m).buffer).winning (position_after a t m).state
  unfolding winning_after by_sets
  after_is m k = solved_agree a t sv (position_after a t m).buffer (position_after a t m).state (position-met a t (total a v) m k).occurs

  -- what is claimed of an event
  abbrev Fine : Moment → Type 0
  Fine m = (winning_after a t m ≡ true) × (accepts a (reached a a.initial (output_after a t m)) ≡ true)

  fine : (m : Moment) → Met a t m → Wins (position_after a t m) → Fine m
  fine m k h = (after_is m k ∙ h, rw (output-leads a t m k) ((sets_are a (position_after a t m).buffer).accepting (position_after a t m).state h).1)

  fine_on : (m : Moment) (es : List ℕ) → Met a t m → Wins m.position → Fine m
  fine_on m es k h = fine m k (wins_on m k h)

  -- and of those from it on
  abbrev Onward : Moment → List Moment → Type 0
  Onward m ms = winning_after a t m ≡ true → Stays a t (m ∷ ms)

  onward : (m : Moment) (es : List ℕ) → Met a t m → Unit {0} → Onward m (following a t m es)
  onward m es k _ h =
      let wins = sym (after_is m k) ∙ h in
      let later = within-each a t (total a v) Wins (λ m _. Fine m) wins_on fine_on es (m.past ++ m.event ∷ []) (output_after a t m)
      (position_after a t m) (position-met a t (total a v) m k) (output-leads a t m k) wins in
      (fine m k wins, all_of Fine (following a t m es) later)

  -- an event accepted at a full buffer
  abbrev Opening : Moment → List Moment → Type 0
  Opening m ms = Full a m.position.buffer m.event → Stays a t (m ∷ ms)

  opening : (m : Moment) (es : List ℕ) → Met a t m → Unit {0} → Opening m (following a t m es)
  unfolding winning_after
  opening m es k _ full = onward m es k tt (opens_as_worded (by_table a t) a m.position m.event k.accepted full).rests

  initial-wins : is_winning a t (initial_of a) ≡ true → Wins (empty_at a.initial)
  unfolding is_winning initial_of held_events pad by_sets
  initial-wins h = sym (solved_agree a t sv [] a.initial (initial_occurs a v).occurs) ∙ h

  stays-initially : (calls : List Call) → is_winning a t (initial_of a) ≡ true → Stays a t (moments a t (initial_of a) calls)
  stays-initially calls h =
      all_of Fine (moments a t (initial_of a) calls)
      (moments-each a t (total a v) Wins (λ m _. Fine m) wins_on fine_on calls (initial_occurs a v) (initial-wins h))

  stays-later : (calls : List Call) → Suffixes Onward (moments a t (initial_of a) calls)
  stays-later calls = moments-each a t (total a v) (λ _. Unit {0}) Onward (λ m k i. tt) onward calls (initial_occurs a v) tt

  stays-opened : (calls : List Call) → Suffixes Opening (moments a t (initial_of a) calls)
  stays-opened calls = moments-each a t (total a v) (λ _. Unit {0}) Opening (λ m k i. tt) opening calls (initial_occurs a v) tt

pub winning-stays : WinningStays
winning-stays a t v sv calls = record {
  initially = stays-initially a t v sv calls;
  later = λ before m after e. suffix_at (Onward a t v sv) before m after (rw e at (stays-later a t v sv calls));
  opened = λ before m after e. suffix_at (Opening a t v sv) before m after (rw e at (stays-opened a t v sv calls));
}
