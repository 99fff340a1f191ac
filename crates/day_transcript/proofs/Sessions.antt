-- Laws of a session: which belong to an input, and the session after an event.
use Prim.Native.Nat.{ℕ, ◌+◌, ◌<◌, ◌≤◌}
use mathlib.Core.Path.{◌≡◌, sym}
use mathlib.Core.Bool.{Bool, true, false, cond}
use native.Mathlib.Nat.{add-zero}
use native.Mathlib.Omega.{arith}
use lib.ListN.{take}
use lib.Dec.{eqb, leb}
use borrow.Author.Tests.{le-leb, lt-leb, leb-true, eq-eqb, ne_eqb}
use Rattle.base.proofs.Bools.{and_left, and_both, and-left_false}
use Rattle.monitor_answers.specs.declared.Received.{Received}
use Rattle.text_lines.specs.Lines.{refused_event_line}
use Rattle.day_lines.specs.StatusLines.{event_line}
use Rattle.day_transcript.specs.Transcript.{Session, after, answer_line}
use Rattle.day_transcript.specs.Pieces.{belongs}

module _ (n : ℕ) (u : Session) where
  pub counts-over : u.place < u.accepted + u.refused → false ≡ belongs n u
  unfolding belongs
  counts-over h = sym (and-left_false (leb u.place n) (lt-leb _ _ h))

  pub counts-fit : u.accepted + u.refused ≤ u.place → leb u.place n ≡ belongs n u
  unfolding belongs
  counts-fit h = rw (le-leb _ _ h)

  pub belongs-counts : belongs n u ≡ true → u.accepted + u.refused ≤ u.place
  unfolding belongs
  belongs-counts h = leb-true _ _ (and_left _ (leb u.place n) h)

  pub belongs_of : u.accepted + u.refused ≤ u.place → u.place ≤ n → belongs n u ≡ true
  unfolding belongs
  belongs_of h k = and_both (le-leb _ _ h) (le-leb _ _ k)

module _ (u : Session) (next : ℕ) (r : Received) where
  pub after-refused : (r.refusal ≡ 0 → ⊥)
      → record { automaton = u.automaton; configuration = r.configuration; place = next; accepted = u.accepted; refused = u.refused + 1 } ≡ after u next r
  unfolding after
  after-refused h = rw (ne_eqb r.refusal 0 h, add-zero u.accepted)

  pub after-accepted : r.refusal ≡ 0
      → record { automaton = u.automaton; configuration = r.configuration; place = next; accepted = u.accepted + 1; refused = u.refused } ≡ after u next r
  unfolding after
  after-accepted h = rw (eq-eqb r.refusal 0 h, add-zero u.refused)

  -- one event more is counted
  pub after-counts : (after u next r).accepted + (after u next r).refused ≡ u.accepted + u.refused + 1
  unfolding after
  after-counts = counts (eqb r.refusal 0)
    where
      counts : (b : Bool) → u.accepted + cond b 1 0 + (u.refused + cond b 0 1) ≡ u.accepted + u.refused + 1
      counts true = omega arith
      counts false = omega arith

-- the two lines of an event
module _ (e : ℕ) (r : Received) where
  pub answer-refused : (r.refusal ≡ 0 → ⊥) → refused_event_line e r.refusal ≡ answer_line e r
  unfolding answer_line
  answer-refused h = rw (ne_eqb r.refusal 0 h)

  pub answer-accepted : r.refusal ≡ 0
      → event_line e (take r.count r.emitted) r.configuration.state r.configuration.held r.winning ≡ answer_line e r
  unfolding answer_line
  answer-accepted h = rw (eq-eqb r.refusal 0 h)

-- it belongs to the input where its counts and its place do
pub belongs-after : (n : ℕ) (u : Session) (next : ℕ) (r : Received) → (after u next r).accepted + (after u next r).refused ≤ next → next ≤ n
    → belongs n (after u next r) ≡ true
unfolding after
belongs-after n u next r h l = belongs_of n (after u next r) h l
