-- The rows of the calls, in document 02's words.
use Prim.Native.Nat.{ℕ, zero, suc, ◌+◌, ◌<◌, ◌≤◌}
use mathlib.Core.Path.{◌≡◌, refl, sym, ◌∙◌, ap, subst}
use mathlib.Core.Logic.Iff
use mathlib.Core.Logic.{◌⊎◌, inl, inr, ◌↔◌}
use mathlib.Core.Bool.{Bool, true, false, not}
use mathlib.Core.List.{List, [], ◌∷◌, ◌++◌}
use native.Mathlib.Omega.{arith}
use lib.ListN.{length, get_or}
use lib.Dec.{eqb, ltb}
use borrow.Author.Tests.{eqb-true, lt-ltb, le-ltb, ltb-true, ltb-false}
use Rattle.base.specs.Rows.{first}
use Rattle.base.proofs.Bools.{by, either}
use Rattle.base.proofs.Refusals.{first-stands, first_passes, first_never, first-own, first-later, contrary}
use Rattle.automaton.specs.declared.Automaton.{Automaton}
use Rattle.configuration_places.specs.Places.{input_number}
use Rattle.configuration.specs.declared.Configuration.{Configuration}
use Rattle.configuration.specs.Configuration.{held_events, position_of, consistent}
use Rattle.monitor_rule.specs.Step.{by_table, event_rows, event_refusal}
use Rattle.monitor_rule.specs.Claims.{RowsOfEvent, Tabled}
use Rattle.monitor_rule.proofs.Rows.{event-number, event-rows_as_worded}
use Rattle.monitor_answers.specs.Answers.{configuration_rows, too_short}
use Rattle.monitor_answers.specs.Claims.{RowOfRun}
use Rattle.monitor_answers.specs.Turns.{turn_rows, turn_refusal}
use Rattle.monitor_answers.proofs.Worded.{row_of_run}
use Rattle.clients_answers.specs.Listed.{outcome}
use Rattle.clients_answers.specs.Clients.{none, monitored, list_rows, client_rows, held_in, held_in_all}
use Rattle.clients_answers.specs.Clients.{receive_for_refusal, received_for, room_rows, run_for_refusal, ran_for}
use Rattle.clients_answers.specs.Claims.{ClientRows, sum_below, holds, ClientRowsAsWorded}
use Rattle.clients_answers.proofs.Refusals.{Inner, inner_later, inner_between, inner_beyond, list-later, list-rows}

-- the sum from the front
sum-front : (n : ℕ) (f : ℕ → ℕ) → sum_below (suc n) f ≡ f 0 + sum_below n (λ g. f (suc g))
unfolding sum_below
sum-front zero f = omega arith
sum-front (suc n) f = omega (arith, sum-front n f)

pub held-sum : (a : Automaton) (ds : List Configuration) → held_in_all a ds ≡ holds a ds
unfolding held_in_all sum_below
held-sum a [] = refl
held-sum a (d ∷ ds) = ap (λ (m : ℕ). held_in a d + m) (held-sum a ds) ∙ sym (sum-front (length ds) (λ g. held_in a (get_or (d ∷ ds) g none)))

-- one event for a client
module _ (a : Automaton) (t : List ℕ) (cs : List Configuration) (i e : ℕ) where
  abbrev c : Configuration
  c = get_or cs i none

  abbrev row : ℕ
  row = first (client_rows a t cs i e)

  abbrev own : ℕ
  own = first (event_rows (by_table a t) a (position_of c) e)

  -- rows 19 and 13, each by itself and in words
  abbrev absent : Bool
  absent = not (ltb i (length cs))

  abbrev broken : Bool
  broken = not (consistent a c)

  abbrev from_13 : List (ℕ × Bool)
  from_13 = (13, broken) ∷ event_rows (by_table a t) a (position_of c) e

  absent_words : (absent ≡ true) ↔ (length cs ≤ i)
  absent_words = Iff.trans (contrary (ltb i (length cs))).0 (ltb-false i (length cs), le-ltb i (length cs))

  there_words : (absent ≡ false) ↔ (i < length cs)
  there_words = Iff.trans (contrary (ltb i (length cs))).1 (ltb-true i (length cs), lt-ltb i (length cs))

  -- the event's own number is 14, 15, 23 or 0
  own-number : {R : Type 0} → (own ≡ 0 → R) → (14 ≤ own → own ≤ 15 → R) → (own ≡ 23 → R) → R
  unfolding event_refusal
  own-number without some end =
      either (event-number (by_table a t) a (position_of c) e)
      (λ h. some (omega arith) (omega arith))
      (λ f. either f (λ h. some (omega arith) (omega arith)) (λ g. either g end without))

  own-other : (m : ℕ) → (m ≡ 13) ⊎ (m ≡ 19) → own ≡ m → ⊥
  own-other m f h =
      either f
      (λ z. own-number (λ k. omega arith) (λ l k. omega arith) (λ k. omega arith))
      (λ z. own-number (λ k. omega arith) (λ l k. omega arith) (λ k. omega arith))

  own_inner : Inner own
  own_inner = own-number inl (λ l u. inner_between own (omega arith) (omega arith)) (λ h. inner_beyond own (omega arith))

  pub client_inner : Inner row
  unfolding client_rows turn_rows configuration_rows
  client_inner =
      by absent
      (λ h. subst Inner (sym (first-stands 19 absent from_13 h)) (inner_between 19 (omega arith) (omega arith)))
      (λ h. subst Inner (sym (first_passes 19 absent from_13 h))
      (by broken
      (λ k. subst Inner (sym (first-stands 13 broken _ k)) (inner_between 13 (omega arith) (omega arith)))
      (λ k. subst Inner (sym (first_passes 13 broken _ k)) own_inner)))

  -- its configuration's rows, in words
  own-rows : RowsOfEvent (Tabled a t) a c.state (held_events c) (input_number c.received) e own
  unfolding event_refusal by_table
  own-rows = event-rows_as_worded (by_table a t) a (position_of c) e

  -- under a condition P that the call's first rows want
  module _ {P : Type 0} (m : ℕ) (on : (Z : Type 0) (k : ℕ) → Inner k → (P → (row ≡ k) ↔ Z) → (m ≡ k) ↔ (P × Z)) where
    of_own : {X : Type 0} (k : ℕ) → Inner k → (19 ≡ k → ⊥) → (13 ≡ k → ⊥) → ((own ≡ k) ↔ X)
        → (m ≡ k) ↔ (P × (i < length cs) × (consistent a c ≡ true) × X)
    unfolding client_rows turn_rows configuration_rows
    of_own k l n19 n13 f =
        Iff.trans
        (on _ k l (λ _. first-later 19 absent from_13 absent_words there_words k n19
        (λ _. first-later 13 broken _ (contrary (consistent a c)).0 (contrary (consistent a c)).1 k n13 (λ _. f))))
        (λ (p, (b, (d, x))). (p, b, d, x), λ (p, b, d, x). (p, (b, (d, x))))

    pub client-rows : ClientRows P a t cs i e m
    unfolding client_rows turn_rows configuration_rows
    client-rows =
        record {
          row-19 = on _ 19 (inner_between 19 (omega arith) (omega arith))
              (λ _. first-own 19 absent from_13 absent_words there_words
              (first_never 13 broken _ 19 (λ h. omega arith) (own-other 19 (inr refl))));
          row-13 = Iff.trans
              (on _ 13 (inner_between 13 (omega arith) (omega arith))
              (λ _. first-later 19 absent from_13 absent_words there_words 13 (λ h. omega arith)
              (λ _. first-own 13 broken _ (contrary (consistent a c)).0 (contrary (consistent a c)).1 (own-other 13 (inl refl)))))
              (λ (p, (b, d)). (p, b, d), λ (p, b, d). (p, (b, d)));
          row-14 = of_own 14 (inner_between 14 (omega arith) (omega arith)) (λ h. omega arith) (λ h. omega arith) own-rows.row-14;
          row-15 = of_own 15 (inner_between 15 (omega arith) (omega arith)) (λ h. omega arith) (λ h. omega arith) own-rows.row-15;
          row-23 = of_own 23 (inner_beyond 23 (omega arith)) (λ h. omega arith) (λ h. omega arith) own-rows.row-23;
          accepted = of_own 0 (inl refl) (λ h. omega arith) (λ h. omega arith) own-rows.accepted;
        }

  -- the row of an event inside a day
  pub outcome-row : (outcome (monitored a t) cs i e).refusal ≡ row
  unfolding outcome client_rows turn_refusal first
  outcome-row = by (ltb i (length cs)) (λ h. rw h) (λ h. rw h)

  answered-row : (received_for a t cs i e).refusal ≡ receive_for_refusal a t cs i e
  unfolding received_for
  answered-row = let m = receive_for_refusal a t cs i e in by (eqb m 0) (λ h. rw h (sym (eqb-true m 0 h))) (λ h. rw h)

-- a day
module _ (a : Automaton) (cs : List Configuration) (vs out : List ℕ) where
  abbrev lacking : Bool
  lacking = too_short (length out) vs (held_in_all a cs)

  abbrev rows : List (ℕ × Bool)
  rows = room_rows a cs vs out

  room_16 : lacking ≡ true → first rows ≡ 16
  unfolding first
  room_16 h = rw h

  room_0 : lacking ≡ false → first rows ≡ 0
  unfolding first
  room_0 h = rw h

  day_inner : Inner (first rows)
  day_inner = by lacking (λ h. let z = room_16 h in inner_between (first rows) (omega arith) (omega arith)) (λ h. inl (room_0 h))

  day-row : RowOfRun (length out) vs (holds a cs) (first rows)
  day-row =
      subst (λ (m : ℕ). RowOfRun (length out) vs m (first rows)) (held-sum a cs)
      (row_of_run (length out) vs (held_in_all a cs) (first rows) room_16 room_0)

pub client-rows_as_worded : ClientRowsAsWorded
unfolding receive_for_refusal run_for_refusal ran_for held_in
client-rows_as_worded a t cs =
    let count = length cs in
    record {
      event-first = λ i e. list-rows a t count (client_rows a t cs i e) (inner_later _ (client_inner a t cs i e));
      event = λ i e.
          let rows = client_rows a t cs i e in
          client-rows a t cs i e (first (list_rows a t count ++ rows)) (λ Z k l. list-later a t count rows k (inner_later k l));
      answered = answered-row a t cs;
      day-first = λ vs out. list-rows a t count (room_rows a cs vs out) (inner_later _ (day_inner a cs vs out));
      row-16 = λ vs out. list-later a t count (room_rows a cs vs out) 16 (inner_later 16 (inner_between 16 (omega arith) (omega arith))) (λ _. (day-row a cs vs out).row-16);
      accepted = λ vs out. list-later a t count (room_rows a cs vs out) 0 (inner_later 0 (inl refl)) (λ _. (day-row a cs vs out).accepted);
      day-answered = λ vs out. refl;
      inside = λ i e.
          rw (outcome-row a t cs i e) (client-rows a t cs i e (first (client_rows a t cs i e)) (λ Z k l z. (λ h. (tt, (z tt).0 h), λ (_, x). (z tt).1 x)));
      broken = λ c h. rw h;
      holding = λ c h. rw h;
      together = held-sum a cs;
    }
