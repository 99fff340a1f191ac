-- A day's loop: one event more, its end, that its room suffices, and that it leaves what the day's
-- definitions say.
use Prim.Native.Nat.{ℕ, zero, suc, ◌+◌, ◌<◌, ◌≤◌}
use mathlib.Core.Path.{◌≡◌, ◌∙◌}
use mathlib.Core.Bool.{cond}
use mathlib.Core.List.{List, [], ◌∷◌, ◌++◌}
use native.Mathlib.Numerals.{add-one}
use native.Mathlib.Nat.{add_assoc, add-zero, zero-add}
use native.Mathlib.Omega.{arith}
use lib.ListN.{length, get_or, set, drop, length-append, drop_of_length-le}
use lib.Seq.{sets, sets-eq, drop-cons}
use lib.Dec.{eqb, ltb}
use borrow.Author.Tests.{lt-ltb, le-ltb, ltb-true, ltb-false}
use Rattle.base.proofs.Bools.{by}
use Rattle.base.proofs.Stores.{sets_join}
use Rattle.automaton.specs.declared.Automaton.{Automaton}
use Rattle.configuration.specs.declared.Configuration.{Configuration}
use Rattle.monitor_answers.specs.Turns.{turn_refusal, turn_emitted, turn_next}
use Rattle.clients_answers.specs.Listed.{changed, outcomes, changed_by}
use Rattle.clients_answers.specs.Clients.{none, client_of, symbol_of, named, monitored, emitted_of, refused_in, held_in, held_in_all}
use Rattle.clients_answers.specs.Clients.{run_for_refusal, day_outcomes, ran_for, ran_clients, ran_for_buffer}
use Rattle.clients_answers.specs.Loop.{Day, day_from}
use Rattle.clients_answers.proofs.Room.{outcome_in, outcome_beyond, changed_beyond, turn-fits, held-set, written}

module _ (a : Automaton) (t : List ℕ) where
  -- one event more, of a client that is there
  pub step_in : (vs : List ℕ) (i : ℕ) (cs : List Configuration) (out : List ℕ) (at n : ℕ) → i < length vs
      → let k = client_of (get_or vs i 0) in
      let e = symbol_of (get_or vs i 0) in
      let c = get_or cs k none in
      let emitted = turn_emitted a t c e in
      k < length cs
      → day_from a t cs out at n (drop i vs)
      ≡ day_from a t (set cs k (turn_next a t c e)) (sets out at emitted) (at + length emitted) (n + cond (eqb (turn_refusal a t c e) 0) 0 1)
      (drop (i + 1) vs)
  unfolding day_from
  step_in vs i cs out at n l b = rw (drop-cons vs i 0 l, lt-ltb (client_of (get_or vs i 0)) (length cs) b, add-one i)

  -- of one that is not
  pub step-out : (vs : List ℕ) (i : ℕ) (cs : List Configuration) (out : List ℕ) (at n : ℕ) → i < length vs
      → length cs ≤ client_of (get_or vs i 0) → day_from a t cs out at n (drop i vs) ≡ day_from a t cs out at (n + 1) (drop (i + 1) vs)
  unfolding day_from
  step-out vs i cs out at n l b = rw (drop-cons vs i 0 l, le-ltb (client_of (get_or vs i 0)) (length cs) b, add-one i)

  -- the end
  pub step_end : (vs : List ℕ) (i : ℕ) (cs : List Configuration) (out : List ℕ) (at n : ℕ) → length vs ≤ i
      → day_from a t cs out at n (drop i vs) ≡ record { clients = cs; out = out; written = at; refused = n }
  unfolding day_from
  step_end vs i cs out at n l = rw (drop_of_length-le vs l)

  -- the room at each turn: what the event can write, and what is kept by it
  pub held_one : (cs : List Configuration) (k : ℕ) → k < length cs → held_in a (get_or cs k none) ≤ held_in_all a cs
  unfolding held_in_all
  held_one [] k l = absurd (omega arith)
  held_one (c ∷ cs) zero l = omega arith
  held_one (c ∷ cs) (suc k) l = omega (arith, held_one cs k (omega arith))

  module _ (cs : List Configuration) (k e at m : ℕ) (l : k < length cs) (room : at + held_in_all a cs ≤ m) where
    abbrev c : Configuration
    c = get_or cs k none

    pub turn-room : at + length (turn_emitted a t c e) ≤ m + 1
    turn-room = omega (arith, turn-fits a t c e, held_one cs k l)

    pub turn_keeps : (at + length (turn_emitted a t c e)) + held_in_all a (set cs k (turn_next a t c e)) ≤ m + 1
    turn_keeps = omega (arith, turn-fits a t c e, held-set a t cs k (turn_next a t c e) l)

  -- what it leaves
  abbrev pub leaves : List Configuration → List ℕ → ℕ → ℕ → List (ℕ × ℕ) → Day
  leaves cs out at n xs =
      let bytes = emitted_of (outcomes (monitored a t) cs xs) in
      record {
        clients = changed_by (monitored a t) cs xs;
        out = sets out at bytes;
        written = at + length bytes;
        refused = n + refused_in (outcomes (monitored a t) cs xs);
      }

  -- an event of a client first, and one of none
  leaves_in : (cs : List Configuration) (out : List ℕ) (at n k e : ℕ) (xs : List (ℕ × ℕ)) → k < length cs
      → let c = get_or cs k none in
      let emitted = turn_emitted a t c e in
      leaves (changed (monitored a t) cs k e) (sets out at emitted) (at + length emitted) (n + cond (eqb (turn_refusal a t c e) 0) 0 1) xs
      ≡ leaves cs out at n ((k, e) ∷ xs)
  unfolding emitted_of outcomes changed_by refused_in
  leaves_in cs out at n k e xs l =
      let c = get_or cs k none in
      let then = outcomes (monitored a t) (changed (monitored a t) cs k e) xs in
      let emitted = turn_emitted a t c e in
      let rest = emitted_of then in
      let long : at + length (emitted ++ rest) ≡ at + length emitted + length rest = omega (arith, length-append emitted rest) in
      rw (outcome_in a t cs k e l, sets_join out at emitted rest, long, add_assoc n (cond (eqb (turn_refusal a t c e) 0) 0 1) (refused_in then))

  leaves-out : (cs : List Configuration) (out : List ℕ) (at n k e : ℕ) (xs : List (ℕ × ℕ)) → length cs ≤ k
      → leaves cs out at (n + 1) xs ≡ leaves cs out at n ((k, e) ∷ xs)
  unfolding emitted_of outcomes changed_by refused_in
  leaves-out cs out at n k e xs l =
      rw (outcome_beyond a t cs k e l, changed_beyond a t cs k e l, add_assoc n 1 (refused_in (outcomes (monitored a t) cs xs)))

  pub day-is : (vs : List ℕ) (cs : List Configuration) (out : List ℕ) (at n : ℕ) → day_from a t cs out at n vs ≡ leaves cs out at n (named vs)
  unfolding day_from named emitted_of outcomes changed_by refused_in changed
  day-is [] cs out at n = rw (add-zero at, add-zero n)
  day-is (v ∷ vs) cs out at n =
      by (ltb (client_of v) (length cs))
      (λ h.
      let c = get_or cs (client_of v) none in
      let emitted = turn_emitted a t c (symbol_of v) in
      let then = set cs (client_of v) (turn_next a t c (symbol_of v)) in
      rw h
      (day-is vs then (sets out at emitted) (at + length emitted) (n + cond (eqb (turn_refusal a t c (symbol_of v)) 0) 0 1) ∙
      leaves_in cs out at n (client_of v) (symbol_of v) (named vs) (ltb-true (client_of v) (length cs) h)))
      (λ h.
      rw h (day-is vs cs out at (n + 1) ∙ leaves-out cs out at n (client_of v) (symbol_of v) (named vs) (ltb-false (client_of v) (length cs) h)))

  -- a day that is not refused, from its beginning on
  pub day-ran : (cs : List Configuration) (vs out : List ℕ) → run_for_refusal a t cs vs out ≡ 0
      → day_from a t cs out 0 0 vs
      ≡ record {
        clients = ran_clients a t cs vs out;
        out = ran_for_buffer a t cs vs out;
        written = (ran_for a t cs vs out).length;
        refused = (ran_for a t cs vs out).refused;
      }
  unfolding ran_clients ran_for_buffer ran_for day_outcomes
  day-ran cs vs out z =
      let os = outcomes (monitored a t) cs (named vs) in
      let bytes = emitted_of os in
      let same : day_outcomes a t cs vs out ≡ os = rw z in
      let fits : 0 + length bytes ≤ length out = omega (arith, rw same at (written a t cs vs out)) in
      let start : 0 + length bytes ≡ length bytes = zero-add (length bytes) in
      let none_yet : 0 + refused_in os ≡ refused_in os = zero-add (refused_in os) in
      day-is vs cs out 0 0 ∙ rw (z, sets-eq bytes out 0 fits, start, none_yet)
