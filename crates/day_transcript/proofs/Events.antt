-- Laws of the events' lines.
use Prim.Native.Nat.{ℕ, zero, suc, ◌-◌, ◌<◌, ◌≤◌}
use mathlib.Core.Path.{◌≡◌, refl, sym, ◌∙◌, ap}
use mathlib.Core.Bool.{true}
use mathlib.Core.List.{List, ◌++◌}
use native.Mathlib.Omega.{arith}
use lib.ListN.{length}
use lib.Dec.{eqb, ltb}
use borrow.Author.Tests.{lt-ltb, le-ltb, ltb-true, ltb-false, eq-eqb, ne_eqb, eqb-true, eqb-false}
use Rattle.base.proofs.Bools.{by}
use Rattle.varint.specs.Varint.{Number}
use Rattle.varint.specs.Varint.{value, read}
use Rattle.varint.specs.Claims.{AreBytes}
use Rattle.varint.proofs.Trips.{read-after, read-inside, read_small}
use Rattle.automaton.specs.Automaton.{valid}
use Rattle.solver_sets.specs.Table.{Solved}
use Rattle.monitor_answers.specs.declared.Received.{Received}
use Rattle.monitor_answers.specs.Answers.{received}
use Rattle.text_lines.specs.Lines.{end_line, fault_line}
use Rattle.day_transcript.specs.Transcript.{Session, answer_line, after, event_lines, first_line, session_lines}
use Rattle.day_transcript.proofs.Answers.{received-same, status-same}

-- a number that was read: its record, and where the next one begins
number-whole : (n : Number) → n.refusal ≡ 0 → n ≡ value n.value n.place
number-whole n z i = record { refusal = z i; value = n.value; place = n.place }

module _ (s : List ℕ) (at : ℕ) (z : (read s at).refusal ≡ 0) where
  pub next-after : at < (read s at).place
  next-after = read-after s at (read s at).value (read s at).place (number-whole (read s at) z)

  pub next-inside : (read s at).place ≤ length s
  next-inside = read-inside s at (read s at).value (read s at).place (number-whole (read s at) z)

  pub next_small : AreBytes s → (read s at).value < 2097152
  next_small = read_small s at (read s at).value (read s at).place (number-whole (read s at) z)

module _ (t s : List ℕ) where
  abbrev answer : Session → Received
  answer u = received u.automaton t u.configuration (read s u.place).value

  abbrev later : Session → Session
  later u = after u (read s u.place).place (answer u)

  -- one step
  step-event : (k : ℕ) (u : Session) → u.place < length s → (read s u.place).refusal ≡ 0
      → event_lines (suc k) t s u ≡ answer_line (read s u.place).value (answer u) ++ event_lines k t s (later u)
  unfolding event_lines
  step-event k u h z = rw (lt-ltb u.place (length s) h, eq-eqb (read s u.place).refusal 0 z)

  pub step-fault : (k : ℕ) (u : Session) → u.place < length s → ((read s u.place).refusal ≡ 0 → ⊥)
      → event_lines (suc k) t s u ≡ fault_line (read s u.place).refusal (read s u.place).place
  unfolding event_lines
  step-fault k u h z = rw (lt-ltb u.place (length s) h, ne_eqb (read s u.place).refusal 0 z)

  pub step_end : (k : ℕ) (u : Session) → length s ≤ u.place → event_lines (suc k) t s u ≡ end_line u.accepted u.refused
  unfolding event_lines
  step_end k u h = rw (le-ltb u.place (length s) h)

  -- more steps than enough are the same
  enough : (k j : ℕ) (u : Session) → length s - u.place < k → length s - u.place < j → event_lines k t s u ≡ event_lines j t s u
  unfolding after
  enough zero j u h l = absurd (omega arith)
  enough (suc k) zero u h l = absurd (omega arith)
  enough (suc k) (suc j) u h l =
      by (ltb u.place (length s))
      (λ e.
      let i = ltb-true u.place (length s) e in
      by (eqb (read s u.place).refusal 0)
      (λ f.
      let z = eqb-true (read s u.place).refusal 0 f in
      let a = next-after s u.place z in
      let b = next-inside s u.place z in
      step-event k u i z ∙
      ap (λ l. answer_line (read s u.place).value (answer u) ++ l) (enough k j (later u) (omega arith) (omega arith)) ∙
      sym (step-event j u i z))
      (λ f.
      let z = eqb-false (read s u.place).refusal 0 f in
      step-fault k u i z ∙ sym (step-fault j u i z)))
      (λ e. let i = ltb-false u.place (length s) e in step_end k u i ∙ sym (step_end j u i))

  -- one event of all
  pub event-first : (u : Session) → u.place < length s → (read s u.place).refusal ≡ 0
      → event_lines (suc (length s)) t s u ≡ answer_line (read s u.place).value (answer u) ++ event_lines (suc (length s)) t s (later u)
  unfolding after
  event-first u h z =
      let a = next-after s u.place z in
      let b = next-inside s u.place z in
      step-event (length s) u h z ∙
      ap (λ l. answer_line (read s u.place).value (answer u) ++ l) (enough (length s) (suc (length s)) (later u) (omega arith) (omega arith))

-- the same over two solved tables
module _ (s t t' : List ℕ) where
  events-same : (k : ℕ) (u : Session) → valid u.automaton ≡ true → Solved u.automaton t → Solved u.automaton t'
      → event_lines k t s u ≡ event_lines k t' s u
  unfolding event_lines after
  events-same zero u v y y' = refl
  events-same (suc k) u v y y' =
      let r : answer t s u ≡ answer t' s u = received-same u.automaton t t' y y' u.configuration (read s u.place).value in
      let i = events-same k (later t s u) v y y' in
      rw (i, r)

  pub session_same : (u : Session) → valid u.automaton ≡ true → Solved u.automaton t → Solved u.automaton t'
      → session_lines t s u ≡ session_lines t' s u
  unfolding session_lines first_line
  session_same u v y y' = rw (status-same u.automaton t t' y y' u.configuration, events-same (suc (length s)) u v y y')
